use Rattle.std.proofs.Common.{refl}
use Rattle.tp_base.proofs.Options.{when}
use Rattle.tp_executor.proofs.Steps.{makes}
use Rattle.tp_executor.proofs.executor.ExecutorActor.fire.Goals as goal

pub returns-clause-stands : goal.returns-clause-stands
returns-clause-stands c =
    when c.make-outputs.result
    (λ more. makes c.args.self.now c.make-outputs.new.self _ c.args.inner c.make-outputs.ensures.identity refl (record { book = refl; queue = refl; store = refl }) refl more)
    c.make-outputs.ensures.state
