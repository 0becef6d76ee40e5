use Rattle.tp_picture.proofs.Told.{arrows_law, losses_law}
use Rattle.tp_picture.proofs.laws.law_arrows.Goals as goal

pub returns-clause-delivered : goal.returns-clause-delivered
returns-clause-delivered c = arrows_law c.args.script.now c.args.journal.now c.args.view.now

pub returns-clause-lost : goal.returns-clause-lost
returns-clause-lost c = losses_law c.args.script.now c.args.journal.now c.args.view.now
