use Rattle.std.proofs.Common.{◌≡◌, not}
use Rattle.std.specs.Prelude.{◌==◌}
use Rattle.tp_base.specs.declared.names.ActorName.TheVariants.{Executor}
use Rattle.tp_ops.specs.Parts.{is_accessed}
use Rattle.tp_rules.specs.Addresses.{executors_of}
use Rattle.tp_wire.specs.declared.message.Body.TheVariants.{MStable}
use Rattle.tp_executor.proofs.Accessed.{sent_to}
use Rattle.tp_executor.proofs.declaration.declarations.Given as goal

abbrev pub invariant-loop-i : goal.invariant-loop-i
invariant-loop-i l = l.outputs ≡ sent_to (Executor l.site) (executors_of l.topology) (MStable l.command.id)
    (λ q. not (q == l.site.partition.0)) (is_accessed l.topology.partitions l.command) l.i
