use Rattle.std.proofs.Common.{List, refl, subst}
use Rattle.tp_shared.specs.Known.{entry_of, name_of}
use Rattle.tp_wire.specs.declared.message.Message.{Message}
use Rattle.tp_worker.specs.Posts.{HasEntered}
use Rattle.tp_worker.proofs.Ends.{keeps_next}
use Rattle.tp_worker.proofs.Steps.{legal}
use Rattle.tp_worker.proofs.step.advance.Goals as goal

pub offer-requires-clause-legal : goal.offer-requires-clause-legal
offer-requires-clause-legal g c = λ live.
    let p = c.requires.post in
    let d = c.args.post.now.desk in
    legal d.opening.script p.desk.accepted d.seen p.run (name_of d.actor) p.desk.known (entry_of d c.args.event c.in-Ok.outputs) refl c.requires.may c.in-Ok.ensures.outputs live

pub returns-in-Ok-offer-clause-keeps : goal.returns-in-Ok-offer-clause-keeps
returns-in-Ok-offer-clause-keeps g c =
    keeps_next g.A.Actor.identity_of g.A.Actor.is_spent g.A.Actor.stands c.args.actor.now c.act.new.actor c.args.post.now c.offer.new.self c.args.event c.in-Ok.outputs c.after.result
    c.requires.post c.requires.up_to c.requires.may c.in-Ok.ensures.identity c.in-Ok.ensures.unspent c.in-Ok.ensures.stands
    c.in-Ok-offer.ensures.worked c.in-Ok-offer.ensures.entered c.in-Ok-offer.ensures.post c.in-Ok-offer.number c.in-Ok-offer.ensures.number c.after.ensures

pub returns-in-Ok-offer-clause-entered : goal.returns-in-Ok-offer-clause-entered
returns-in-Ok-offer-clause-entered g c = λ live.
    subst (λ (outputs : List Message). HasEntered (entry_of c.args.post.now.desk c.args.event outputs) c.args.post.now c.offer.new.self)
    c.in-Ok.ensures.outputs c.in-Ok-offer.ensures.entered
