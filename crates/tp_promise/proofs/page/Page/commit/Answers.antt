use Rattle.std.proofs.Common.{List, ◌∷◌, refl, ap, sym, subst, ◌∙◌}
use Rattle.tp_promise.specs.declared.ranges.Range.{Range}
use Rattle.tp_promise.specs.Pages.{Advances, IsPage, Page, in_ranges}
use Rattle.std.specs.Prelude.{nat_lt}
use Rattle.tp_promise.proofs.Orders.{filter_apart}
use Rattle.tp_promise.proofs.Numbers.{in_past, stopped_past}
use Rattle.tp_promise.proofs.Tellings.{advance, commit}
use Rattle.tp_promise.proofs.page.Page.commit.Goals as goal

pub invariant_of-self : goal.invariant_of-self
invariant_of-self c = record {
  apart = filter_apart (λ r. nat_lt c.advanced-self-inside.result r.hi) c.self.inside.ranges.items c.drop_passed.new.ranges.items c.drop_passed.ensures c.self.invariant.apart;
  stopped = stopped_past c.self.inside.ranges.items c.drop_passed.new.ranges.items c.drop_id.new.attached.items c.advanced-self-inside.result c.drop_passed.ensures
      (rw (← c.deref.ensures.value, ← c.deref-2.ensures.value) c.advanced-self-inside.ensures.stopped);
}

pub returns : goal.returns
returns c = λ told ids rank is.
    let page : Page = record { front = c.self.inside.front; ranges = c.self.inside.ranges.items; attached = c.self.inside.attached.items } in
    let was : IsPage page told ids rank = subst (λ (p : Page). IsPage p told ids rank) (sym c.self.view_is) is in
    let left : Page = record { front = c.self.inside.front; ranges = c.self.inside.ranges.items; attached = c.drop_id.new.attached.items } in
    let advances : Advances left.ranges left.attached left.front c.advanced-self-inside.result = rw (← c.deref.ensures.value, ← c.deref-2.ensures.value) c.advanced-self-inside.ensures.advances in
    advance left _ told (c.args.id ∷ ids) rank (commit page c.drop_id.new.attached.items told ids rank c.args.id was c.drop_id.ensures) advances
    (λ n lt. ap (λ (l : List Range). in_ranges l n) c.drop_passed.ensures ∙ in_past c.advanced-self-inside.result n c.self.inside.ranges.items lt) refl
