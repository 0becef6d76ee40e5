use Rattle.std.proofs.Common.{◌==◌, sym}
use Rattle.tp_text.proofs.Pieces.{cut_some, cut_none}
use Rattle.tp_text.proofs.cut.cut.Goals as goal

pub returns-in-Some-clause-pieces : goal.returns-in-Some-clause-pieces
returns-in-Some-clause-pieces c = cut_some (λ b. b == c.args.mark) c.args.bytes.now c.in-Some.place (sym c.in-Some.ensures)

pub returns-in-None-clause-pieces : goal.returns-in-None-clause-pieces
returns-in-None-clause-pieces c = cut_none (λ b. b == c.args.mark) c.args.bytes.now (sym c.in-None.ensures)
