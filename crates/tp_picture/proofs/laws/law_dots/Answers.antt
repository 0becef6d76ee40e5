use Rattle.tp_picture.proofs.Told.{dots_law}
use Rattle.tp_picture.proofs.laws.law_dots.Goals as goal

pub returns : goal.returns
returns c = dots_law c.args.script.now c.args.journal.now c.args.view.now
