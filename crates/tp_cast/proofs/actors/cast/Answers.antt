use Rattle.std.proofs.Common.{◌≡◌, ℕ, ◌-◌, ◌++◌, List, [], length, map, refl, subst, arith}
use Rattle.std.specs.List.{flat_map}
use Rattle.tp_base.specs.declared.names.ActorName.{ActorName}
use Rattle.tp_base.specs.declared.names.ActorName.TheVariants.{Process, Executor, Session}
use Rattle.tp_rules.specs.Journal.{ranks_of}
use Rattle.tp_rules.specs.Pending.{sites_of}
use Rattle.tp_cast.proofs.Casting.{all_new, new_next, row_next}
use Rattle.tp_cast.proofs.actors.cast.Goals as goal
use Rattle.tp_cast.specs.Actors.{AreNew}
use Rattle.tp_script.specs.declared.script.Script.{Script}
use Rattle.tp_topology.specs.Counting.{up_to}

abbrev sessions : Script → List ActorName
sessions script = map (λ s. Session (record { 0 = s })) (up_to (length script.homes))

pub loop-s-preserved : goal.loop-s-preserved
loop-s-preserved c =
    new_next c.args.script.now (λ s. Session (record { 0 = s })) c.loop-s.s [] c.loop-s.actors.items c.push.new.self.items _ c.loop-s.auto.s
    c.loop-s.invariant c.in_ok-session.ensures c.in_ok-push.ensures.items

pub loop-p-preserved : goal.loop-p-preserved
loop-p-preserved c =
    row_next c.args.script.now (λ s. Process s) c.loop-p.p (sessions c.args.script.now) c.add_processes.new.actors.items c.loop-p.auto.p
    (c.in_ok-add_processes.ensures _ c.loop-p.invariant)

pub loop-p-2-preserved : goal.loop-p-2-preserved
loop-p-2-preserved c =
    row_next c.args.script.now (λ s. Executor s) c.loop-p-2.p (sessions c.args.script.now ++ map (λ s. Process s) (sites_of c.args.script.now))
    c.add_executors.new.actors.items c.loop-p-2.auto.p (c.in_ok-add_executors.ensures _ c.loop-p-2.invariant)

pub returns : goal.returns
returns c =
    let script : Script = c.args.script.now in
    let last : c.loop-p-2.p - 1 ≡ script.topology.partitions = omega (arith, c.loop-p-2-test.false, c.loop-p-2.auto.p-end, c.partitions-p-end-2.ensures.value) in
    all_new script c.loop-p-2.actors.items [] refl
    (subst (λ (n : ℕ). AreNew script (sessions script ++ map (λ s. Process s) (sites_of script) ++ map (λ s. Executor s) (flat_map (ranks_of script) (up_to n))) c.loop-p-2.actors.items)
    last c.loop-p-2.invariant)
