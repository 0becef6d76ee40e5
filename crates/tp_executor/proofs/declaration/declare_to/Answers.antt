use Rattle.tp_base.specs.declared.names.ActorName.TheVariants.{Executor}
use Rattle.tp_rules.specs.Addresses.{site}
use Rattle.tp_wire.specs.declared.message.Body.TheVariants.{MStable}
use Rattle.tp_executor.proofs.Accessed.{sent_to_next}
use Rattle.tp_executor.proofs.declaration.declare_to.Goals as goal

pub loop-i-preserved : goal.loop-i-preserved
loop-i-preserved c =
    sent_to_next (Executor c.args.site) (λ rank. Executor (site c.args.partition.0 rank)) (MStable c.args.id) c.args.outputs.now _ _ c.loop-i.i
    c.loop-i.invariant c.in_ok-add.ensures.added
