use Rattle.tp_picture.proofs.Places.{columns_grow}
use Rattle.tp_picture.specs.Scenes.{scene_of}
use Rattle.tp_picture.proofs.laws.law_columns.Goals as goal

pub returns : goal.returns
returns c = columns_grow (scene_of c.args.script.now c.args.journal.now c.args.view.now)
