use Rattle.std.proofs.Common.{arith}
use Rattle.std.proofs.lemmas.Grind.{common_steps}
use Rattle.tp_outside.proofs.Taken.{taken}
use Rattle.tp_outside.proofs.sure.SureSourceSource.read.Goals as goal

pub returns-clause-bytes : goal.returns-clause-bytes
returns-clause-bytes c =
    taken c.copy_front-count.result c.args.self.now c.args.buf.now _ _ (grind (arith, common_steps)) (grind (arith, common_steps)) (grind (arith, common_steps))
