use Rattle.std.proofs.Common.{sym, subst}
use Rattle.std.specs.Prelude.{reverse}
use Rattle.tp_driver.proofs.Turns.{in_range}
use Rattle.tp_netbook.specs.Inbox.{MayBeDone, next_event, sent_to}
use Rattle.tp_netbook.specs.Inbox.{entries_by as told_of}
use Rattle.tp_rules.specs.declared.event.Event.{Event}
use Rattle.tp_shared.specs.Known.{name_of}
use Rattle.tp_worker.proofs.Holding.{stands_in}
use Rattle.tp_worker.proofs.acting.act.Goals as goal

pub deliver-requires-clause-range : goal.deliver-requires-clause-range
deliver-requires-clause-range g c =
    let p = c.requires.post in
    let d = c.args.post.now.desk in
    let a = name_of d.actor in
    let older = reverse d.seen in
    in_range d.opening.script p.desk.accepted d.seen p.run c.in-Deliver.entry c.in-Deliver.place c.in-Some.message.now
    (sym (c.in-Some.ensures.sent d.opening.script d.seen a p.run (stands_in a c.args.post.now p c.requires.all)
    (subst (λ (e : Event). MayBeDone e (next_event d.opening.script a (sent_to a older) (told_of a older))) c.in-Deliver.is c.requires.may.next)))
