use Rattle.std.proofs.Common.{sym, ap, ◌∙◌, refl}
use Rattle.std.specs.Prelude.{reverse}
use Rattle.tp_netbook.specs.Inbox.{sent_to}
use Rattle.tp_netbook.specs.Inbox.{entries_by as told_of}
use Rattle.tp_rules.specs.Acts.{Identity}
use Rattle.tp_rules.specs.Journal.{acts}
use Rattle.tp_rules.specs.Rules.{enabled}
use Rattle.tp_shared.specs.Known.{name_of}
use Rattle.tp_worker.proofs.Holding.{idle_desk, none_where, stands_in}
use Rattle.tp_worker.proofs.Steps.{may_give}
use Rattle.tp_worker.proofs.acting.next.Goals as goal

pub returns-in-Some-clause-may : goal.returns-in-Some-clause-may
returns-in-Some-clause-may g c =
    let p = c.requires.post in
    let d = c.args.post.now.desk in
    let a = name_of d.actor in
    let there = stands_in a c.args.post.now p c.requires.all in
    may_give d.opening.script p.desk.accepted d.seen p.run a c.in-Some.event
    (sym (c.in-Some.ensures.next d.opening.script a (sent_to a (reverse d.seen)) (told_of a (reverse d.seen)) there))
    (c.in-Some.ensures.follows d.opening.script d.seen a p.run there)

pub returns-in_err-inner-clause-idle : goal.returns-in_err-inner-clause-idle
returns-in_err-inner-clause-idle g c =
    let p = c.requires.post in
    let d = c.args.post.now.desk in
    let a = name_of d.actor in
    let there = stands_in a c.args.post.now p c.requires.all in
    let older = reverse d.seen in
    none_where c.from_residual.result
    (idle_desk a d p.desk p.run
    (ap (λ (i : Identity). enabled i (acts older a)) (sym c.requires.up_to.identity) ∙ sym (c.in_err-inner.ensures (acts older a) c.requires.up_to.place))
    (λ live. c.in_default.ensures.quiet d.opening.script d.seen a p.run there live refl))
