use Rattle.std.proofs.Common.{subst}
use Rattle.tp_wire.specs.Ranges.{IsBody}
use Rattle.tp_wire.specs.declared.message.Body.{Body}
use Rattle.tp_executor.proofs.Announced.{told_in_range}
use Rattle.tp_executor.proofs.executor.Executor.take.Goals as goal

pub tell-requires-clause-attached : goal.tell-requires-clause-attached
tell-requires-clause-attached c =
    told_in_range c.args.message.now.from c.args.message.now.to c.in-MPromises.lo c.in-MPromises.hi c.in-MPromises.pairs
    (subst (λ (body : Body). IsBody c.args.message.now.from c.args.message.now.to body) c.in-MPromises.is c.requires)
