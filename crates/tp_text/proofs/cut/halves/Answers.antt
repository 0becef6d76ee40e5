use Rattle.tp_text.proofs.Halved.{no_halves}
use Rattle.tp_text.proofs.cut.halves.Goals as goal

pub returns-in-Some : goal.returns-in-Some
returns-in-Some c =
    no_halves c.args.mark c.args.word.now c.in_ok-before.before.now c.in_ok-before.behind.now c.in-Some.field-0.0.now c.in-Some.field-0.1.now c.in_ok-before.ensures.pieces c.in-Some.ensures.pieces
