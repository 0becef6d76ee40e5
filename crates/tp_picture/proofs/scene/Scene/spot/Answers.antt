use Rattle.std.proofs.Common.{◌≤◌, ◌<◌, ◌≡◌, IfSome, inr, length, subst, ◌∙◌, arith}
use Rattle.tp_picture.proofs.Places.{spot_is, spot_past}
use Rattle.tp_picture.specs.Scenes.{Scene, spot}
use Rattle.tp_picture.proofs.scene.Scene.spot.Goals as goal

pub returns-clause-found : goal.returns-clause-found
returns-clause-found c =
    let low : 1 ≤ c.args.number = omega arith in
    subst (λ (s : Scene). IfSome c.copied.result (λ x. x ≡ spot s c.args.number)) c.self.view_is
    (spot_is _ c.self.inside.spots.spots c.args.number c.copied.result c.self.invariant.0 low (c.copied.ensures ∙ c.get.ensures.item))

pub returns-clause-past : goal.returns-clause-past
returns-clause-past c = λ none.
    let low : 1 ≤ c.args.number = omega arith in
    inr (subst (λ (s : Scene). length s.journal < c.args.number) c.self.view_is
    (spot_past _ c.self.inside.spots.spots c.args.number c.copied.result c.self.invariant.0 low (c.copied.ensures ∙ c.get.ensures.item) none))
