use Rattle.std.proofs.Common.{◌≡◌, ◌++◌, map}
use Rattle.tp_base.specs.declared.names.ActorName.TheVariants.{Executor}
use Rattle.tp_rules.specs.Addresses.{site, to_each}
use Rattle.tp_topology.specs.Counting.{up_to}
use Rattle.tp_wire.specs.declared.message.Body.TheVariants.{MStable}
use Rattle.tp_executor.proofs.declaration.declare_to.Given as goal

abbrev pub invariant-loop-i : goal.invariant-loop-i
invariant-loop-i l =
    l.outputs ≡ l.fn.outputs ++ to_each (Executor l.site) (map (λ rank. Executor (site l.partition.0 rank)) (up_to l.i)) (MStable l.id)
