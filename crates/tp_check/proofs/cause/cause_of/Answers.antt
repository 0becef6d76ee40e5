use Rattle.std.proofs.Common.{refl}
use Rattle.tp_check.proofs.cause.cause_of.Goals as goal

pub returns-clause-cast : goal.returns-clause-cast
returns-clause-cast g c = λ _. c.in_ok-outputs.ensures.cast c.args.entry.now refl refl
