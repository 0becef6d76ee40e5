use Rattle.std.proofs.Common.{◌≡◌, Some, length, refl, sym, ap, ◌∙◌, arith}
use Rattle.std.proofs.lemmas.Option.{slice_get-get_or, slice_get_within}
use Rattle.std.specs.Prelude.{slice_get}
use Rattle.tp_netbook.proofs.Marks.{all_marked, next_marked, no_inbox, none_marked}
use Rattle.tp_netbook.proofs.netbook.Netbook.refresh.Goals as goal
use Rattle.tp_netbook.specs.Netbook.{KeepsRest}
use Rattle.tp_netbook.specs.declared.output.Inbox.{Inbox}

pub returns-in_default-clause-ready : goal.returns-in_default-clause-ready
returns-in_default-clause-ready c = λ but. no_inbox c.args.self.now c.args.turned (λ home inbox is at. c.in_default.not-Some home is) but

pub returns-then-home-len-clause-ready : goal.returns-then-home-len-clause-ready
returns-then-home-len-clause-ready c = λ but. no_inbox c.args.self.now c.args.turned
    (λ home inbox is at.
    let both : Some c.in-Some.home ≡ Some home = sym c.in-Some.is ∙ is in
    let same : c.in-Some.home ≡ home = cc in
    absurd (omega (arith, same, slice_get_within c.args.self.now.inboxes.items home inbox at, c.if-home-len.true, c.len.ensures)))
    but

pub loop-k-init : goal.loop-k-init
loop-k-init c = record {
  ready = none_marked c.args.self.now c.args.turned c.in-Some.home c.in-Some.is;
  rest = record { topology = refl; sites = refl; roster = refl; fates = refl; starts = refl; due = refl; all_free = refl; entries = refl };
  outputs = refl;
  routes = refl;
  inboxes = refl;
}

pub loop-k-preserved : goal.loop-k-preserved
loop-k-preserved c =
    let first : slice_get c.args.self.now.inboxes.items c.in-Some.home ≡ Some c.index.result.now =
    slice_get-get_or c.args.self.now.inboxes.items c.in-Some.home c.index.result.now (omega (arith, c.if-home-len.false, c.len.ensures)) ∙ ap (λ (x : Inbox). Some x) (sym c.index.ensures) in
    let there : slice_get c.loop-k.self.inboxes.items c.in-Some.home ≡ Some c.index-in-loop-k.result.now =
    slice_get-get_or c.loop-k.self.inboxes.items c.in-Some.home c.index-in-loop-k.result.now
    (omega (arith, c.if-home-len.false, c.len.ensures, ap (λ l. length l.items) c.loop-k.invariant.inboxes)) ∙ ap (λ (x : Inbox). Some x) (sym c.index-in-loop-k.ensures) in
    let both : Some c.index-in-loop-k.result.now ≡ Some c.index.result.now = sym there ∙ ap (λ l. slice_get l.items c.in-Some.home) c.loop-k.invariant.inboxes ∙ first in
    let same : c.index-in-loop-k.result.now ≡ c.index.result.now = cc in
    let at : slice_get c.index-in-loop-k.result.now.places.items c.loop-k.k ≡ Some c.index-place.result.now =
    slice_get-get_or c.index-in-loop-k.result.now.places.items c.loop-k.k c.index-place.result.now
    (omega (arith, c.loop-k-test.true, c.len-k-end.ensures, ap (λ (x : Inbox). length x.places.items) same)) ∙ ap (λ n. Some n) (sym c.index-place.ensures) in
    let before : KeepsRest c.args.self.now c.loop-k.self = c.loop-k.invariant.rest in
    let after : KeepsRest c.loop-k.self c.mark.new.self = c.mark.ensures.rest in
    record {
      ready = λ but. next_marked c.loop-k.self c.mark.new.self c.in-Some.home c.loop-k.k c.index-place.result.now c.index-in-loop-k.result.now after.topology after.sites
          c.mark.ensures.outputs c.mark.ensures.inboxes there at c.mark.ensures.ready (c.loop-k.invariant.ready but);
      rest = record {
        topology = after.topology ∙ before.topology;
        sites = after.sites ∙ before.sites;
        roster = after.roster ∙ before.roster;
        fates = after.fates ∙ before.fates;
        starts = after.starts ∙ before.starts;
        due = after.due ∙ before.due;
        all_free = after.all_free ∙ before.all_free;
        entries = after.entries ∙ before.entries;
      };
      outputs = c.mark.ensures.outputs ∙ c.loop-k.invariant.outputs;
      routes = c.mark.ensures.routes ∙ c.loop-k.invariant.routes;
      inboxes = c.mark.ensures.inboxes ∙ c.loop-k.invariant.inboxes;
    }

pub returns-clause-ready : goal.returns-clause-ready
returns-clause-ready c = λ but.
    let first : slice_get c.args.self.now.inboxes.items c.in-Some.home ≡ Some c.index.result.now =
    slice_get-get_or c.args.self.now.inboxes.items c.in-Some.home c.index.result.now (omega (arith, c.if-home-len.false, c.len.ensures)) ∙ ap (λ (x : Inbox). Some x) (sym c.index.ensures) in
    all_marked c.loop-k.self c.in-Some.home c.loop-k.k c.index.result.now (ap (λ l. slice_get l.items c.in-Some.home) c.loop-k.invariant.inboxes ∙ first)
    (omega (arith, c.loop-k-test.false, c.len-k-end.ensures)) (c.loop-k.invariant.ready but)
