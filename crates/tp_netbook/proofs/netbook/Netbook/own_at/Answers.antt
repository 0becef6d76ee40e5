use Rattle.std.proofs.Common.{◌≡◌, Option, length, sym, ap, ◌∙◌, arith}
use Rattle.std.proofs.lemmas.Bool.{ltb-false}
use Rattle.std.proofs.lemmas.Option.{get_or_from_slice_get, slice_get_within}
use Rattle.std.specs.Prelude.{slice_get}
use Rattle.tp_base.specs.declared.names.ActorName.{ActorName}
use Rattle.tp_netbook.proofs.FreeSteps.{own_no_more, own_there}
use Rattle.tp_netbook.proofs.netbook.Netbook.own_at.Goals as goal
use Rattle.tp_netbook.specs.Netbook.{own_item}
use Rattle.tp_rules.specs.declared.event.Inner.{Inner}

pub returns-in_err-place : goal.returns-in_err-place
returns-in_err-place c = λ free many. c.from_residual.ensures ∙ sym (own_no_more c.args.self.now c.args.next.now free many c.args.index (sym c.in_err-place.ensures))

pub returns-in_err-actor : goal.returns-in_err-actor
returns-in_err-actor c = λ free many.
    let found = own_there c.args.self.now c.args.next.now free many c.args.index c.in_ok-place.place (sym c.in_ok-place.ensures) in
    let within = slice_get_within c.args.self.now.roster.items c.in_ok-place.place found.0 found.2 in
    absurd (omega (arith, within, ap length c.deref.ensures.value, ltb-false c.in_ok-place.place (length c.deref.result.now) (sym c.in_err-actor.ensures.lookup.0)))

pub returns : goal.returns
returns c = λ free many.
    let found = own_there c.args.self.now c.args.next.now free many c.args.index c.in_ok-place.place (sym c.in_ok-place.ensures) in
    let actor : c.in_ok-actor.actor.now ≡ found.0 =
    c.in_ok-actor.ensures.lookup.1 ∙ get_or_from_slice_get c.deref.result.now c.in_ok-place.place found.0 _ (ap (λ l. slice_get l c.in_ok-place.place) c.deref.ensures.value ∙ found.2) in
    let inner : c.in_ok-inner.inner.now ≡ found.1 =
    c.in_ok-inner.ensures.lookup.1 ∙ get_or_from_slice_get c.as_slice.result.now c.in_ok-place.place found.1 _ (ap (λ os. slice_get os c.in_ok-place.place) c.as_slice.ensures ∙ found.3) in
    c.own_item.ensures ∙ ap (λ (a : ActorName). own_item c.args.self.now (a, c.in_ok-inner.inner.now)) actor
    ∙ ap (λ (o : Option Inner). own_item c.args.self.now (found.0, o)) inner ∙ sym found.4
