use Rattle.std.proofs.Common.{◌≡◌, Some, set, sym, ap, subst, ◌∙◌, arith}
use Rattle.std.proofs.lemmas.Option.{slice_get-get_or, slice_get_within}
use Rattle.tp_netbook.proofs.Turned.{lists_none, lists_there}
use Rattle.tp_netbook.proofs.netbook.list.Goals as goal
use Rattle.tp_netbook.specs.Netbook.{Lists}
use Rattle.tp_netbook.specs.declared.output.Inbox.{Inbox}

pub returns-in_default : goal.returns-in_default
returns-in_default c = lists_none c.args.place c.args.inboxes.now.items c.args.home (λ k inbox is at. c.in_default.not-Some k is)

pub returns-in_ok-push : goal.returns-in_ok-push
returns-in_ok-push c =
    subst (λ home. Lists home c.args.place c.args.inboxes.now.items (set c.args.inboxes.now.items c.in-Some.home (record { places = c.push.new.self }))) (sym c.in-Some.is)
    (lists_there c.args.place c.in-Some.home c.args.inboxes.now.items c.index_mut.result.now (record { places = c.push.new.self })
    (slice_get-get_or c.args.inboxes.now.items c.in-Some.home c.index_mut.result.now (omega (arith, c.if-home-len.true, c.len.ensures)) ∙ ap (λ (x : Inbox). Some x) (sym c.index_mut.ensures.value))
    c.in_ok-push.ensures.items)

pub returns-else-home-len : goal.returns-else-home-len
returns-else-home-len c = lists_none c.args.place c.args.inboxes.now.items c.args.home
    (λ k inbox is at.
    let both : Some c.in-Some.home ≡ Some k = sym c.in-Some.is ∙ is in
    let same : c.in-Some.home ≡ k = cc in
    absurd (omega (arith, same, slice_get_within c.args.inboxes.now.items k inbox at, c.if-home-len.false, c.len.ensures)))
