use Rattle.std.proofs.Common.{List, ◌++◌, ◌-◌, map}
use Rattle.tp_base.specs.declared.names.ActorName.{ActorName}
use Rattle.tp_base.specs.declared.names.ActorName.TheVariants.{Process}
use Rattle.tp_rules.specs.Addresses.{site}
use Rattle.tp_cast.proofs.actors.add_processes.Given as goal
use Rattle.tp_cast.specs.Actors.{AreNew}
use Rattle.tp_topology.specs.Counting.{up_to}

abbrev pub invariant-loop-rank : goal.invariant-loop-rank
invariant-loop-rank l = (names : List ActorName) → AreNew l.script names l.fn.actors.items
    → AreNew l.script (names ++ map (λ s. Process s) (map (site l.partition.0) (up_to (l.rank - 1)))) l.actors.items
