use Rattle.tp_picture.proofs.Told.{crosses_law}
use Rattle.tp_picture.proofs.laws.law_crosses.Goals as goal

pub returns : goal.returns
returns c = crosses_law c.args.script.now c.args.journal.now c.args.view.now
