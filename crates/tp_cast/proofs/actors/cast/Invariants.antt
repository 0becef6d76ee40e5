use Rattle.std.proofs.Common.{◌++◌, ◌-◌, map, length}
use Rattle.std.specs.List.{flat_map}
use Rattle.tp_base.specs.declared.names.ActorName.TheVariants.{Process, Executor, Session}
use Rattle.tp_rules.specs.Journal.{ranks_of}
use Rattle.tp_rules.specs.Pending.{sites_of}
use Rattle.tp_cast.proofs.actors.cast.Given as goal
use Rattle.tp_cast.specs.Actors.{AreNew}
use Rattle.tp_topology.specs.Counting.{up_to}

abbrev pub invariant-loop-s : goal.invariant-loop-s
invariant-loop-s l = AreNew l.script (map (λ s. Session (record { 0 = s })) (up_to (l.s - 1))) l.actors.items

abbrev pub invariant-loop-p : goal.invariant-loop-p
invariant-loop-p l = AreNew l.script (map (λ s. Session (record { 0 = s })) (up_to (length l.script.homes))
    ++ map (λ s. Process s) (flat_map (ranks_of l.script) (up_to (l.p - 1)))) l.actors.items

abbrev pub invariant-loop-p-2 : goal.invariant-loop-p-2
invariant-loop-p-2 l = AreNew l.script (map (λ s. Session (record { 0 = s })) (up_to (length l.script.homes))
    ++ map (λ s. Process s) (sites_of l.script) ++ map (λ s. Executor s) (flat_map (ranks_of l.script) (up_to (l.p - 1)))) l.actors.items
