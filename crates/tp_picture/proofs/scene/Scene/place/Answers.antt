use Rattle.std.proofs.Common.{refl}
use Rattle.tp_picture.proofs.Places.{no_place}
use Rattle.tp_picture.proofs.scene.Scene.place.Goals as goal

pub returns-in-None : goal.returns-in-None
returns-in-None c = no_place c.args.self.now c.args.number (c.in-None.ensures.past refl)
