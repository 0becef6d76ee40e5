use Rattle.std.proofs.Common.{◌≡◌, ℕ, List, ◌∷◌, ◌++◌, refl, ap, sym, subst, ◌∙◌}
use Rattle.std.specs.Prelude.{nat_lt, ◌||◌, filter}
use Rattle.tp_base.specs.declared.names.Pair.{Pair}
use Rattle.tp_promise.specs.declared.ranges.Range.{Range}
use Rattle.tp_promise.specs.Pages.{Advances, IsPage, Page, in_range, in_ranges, waits}
use Rattle.tp_promise.proofs.Orders.{filter_apart}
use Rattle.tp_promise.proofs.Numbers.{in_past, stopped_past}
use Rattle.tp_promise.proofs.Tellings.{advance, tell}
use Rattle.tp_promise.proofs.page.Page.add.Goals as goal

pub invariant_of-self : goal.invariant_of-self
invariant_of-self c = record {
  apart = filter_apart (λ r. nat_lt c.advanced-self-inside.result r.hi) c.in_ok-self-inside.field-0.items c.drop_passed.new.ranges.items c.drop_passed.ensures
      (c.in_ok-self-inside.ensures.apart (rw c.deref-3.ensures.value c.self.invariant.apart) c.requires.some);
  stopped = stopped_past c.in_ok-self-inside.field-0.items c.drop_passed.new.ranges.items c.in_ok-waiting.waiting.items c.advanced-self-inside.result c.drop_passed.ensures
      (rw (← c.deref-4.ensures.value, ← c.deref-5.ensures.value) c.advanced-self-inside.ensures.stopped);
}

pub returns : goal.returns
returns c = λ before ids rank same is.
    let page : Page = record { front = c.self.inside.front; ranges = c.self.inside.ranges.items; attached = c.self.inside.attached.items } in
    let was : IsPage page before ids rank = subst (λ (p : Page). IsPage p before ids rank) (sym c.self.view_is) is in
    let told : Page = record { front = c.self.inside.front; ranges = c.in_ok-self-inside.field-0.items; attached = c.in_ok-waiting.waiting.items } in
    let more : (n : ℕ) → in_ranges told.ranges n ≡ (in_ranges page.ranges n || in_range c.args.told n) = λ n.
    c.in_ok-self-inside.ensures.numbers n ∙ ap (λ (l : List Range). in_ranges l n || in_range c.args.told n) c.deref-3.ensures.value in
    let left : told.attached ≡ page.attached ++ filter (waits page.front page.ranges c.args.committed.now.keys) c.args.attached.now =
    c.in_ok-waiting.ensures
    ∙ ap (λ (l : List Pair). l ++ filter (waits c.self.inside.front c.deref-2.result.now c.args.committed.now.keys) c.as_slice.result.now) c.deref.ensures.value
    ∙ ap (λ (l : List Range). page.attached ++ filter (waits c.self.inside.front l c.args.committed.now.keys) c.as_slice.result.now) c.deref-2.ensures.value
    ∙ ap (λ (l : List Pair). page.attached ++ filter (waits page.front page.ranges c.args.committed.now.keys) l) c.as_slice.ensures in
    let advances : Advances told.ranges told.attached told.front c.advanced-self-inside.result = rw (← c.deref-4.ensures.value, ← c.deref-5.ensures.value) c.advanced-self-inside.ensures.advances in
    advance told _ (record { rank = rank; lo = c.args.told.lo; hi = c.args.told.hi; attached = c.args.attached.now } ∷ before) ids rank
    (tell page before ids c.args.committed.now.keys rank c.args.told.lo c.args.told.hi c.args.attached.now was same c.requires.attached told.ranges told.attached more left) advances
    (λ n lt. ap (λ (l : List Range). in_ranges l n) c.drop_passed.ensures ∙ in_past c.advanced-self-inside.result n c.in_ok-self-inside.field-0.items lt) refl
