use Rattle.std.proofs.Common.{refl}
use Rattle.std.proofs.lemmas.Option.{slice_get_read}
use Rattle.tp_driver.proofs.Stands.{next_more, next_whole}
use Rattle.tp_driver.proofs.steps.next_steps.Goals as goal

pub loop-actor-preserved : goal.loop-actor-preserved
loop-actor-preserved g c = λ script journal all.
    next_more g.A.Actor.identity_of g.A.Actor.is_spent g.A.Actor.stands script c.args.actors.now journal all c.loop-actor.next.items c.push.new.self.items c.loop-actor.actor-index c.actor-item.result c.next_inner.result
    (c.loop-actor.invariant script journal all) (slice_get_read c.args.actors.now _ c.loop-actor.actor-index c.actor-item.result refl c.loop-actor-test.true c.actor-item.is) c.next_inner.ensures c.in_ok-push.ensures.items

pub returns : goal.returns
returns g c = λ script journal all.
    next_whole g.A.Actor.identity_of g.A.Actor.is_spent g.A.Actor.stands script c.args.actors.now journal all c.loop-actor.next.items c.loop-actor.actor-index (c.loop-actor.invariant script journal all) c.loop-actor-test.false
