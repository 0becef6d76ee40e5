use Rattle.std.proofs.Common.{◌≡◌, ◌++◌, List, ap, ◌∙◌}
use Rattle.tp_promise.specs.declared.ranges.Range.{Range}
use Rattle.tp_promise.proofs.Numbers.{parts_first, parts_last, put_after, put_before, put_into}
use Rattle.tp_promise.proofs.Orders.{left_first, placed_all, placed_first, placed_into, placed_last, placed_none}
use Rattle.tp_promise.proofs.ranges.with_range.Goals as goal
use Rattle.tp_promise.proofs.ranges.with_range.Goals.{then-range-merged+in_ok-push, else-range-merged+then-merged-range+in_ok-push-2, else-range-merged+else-merged-range}

pub loop-range-init : goal.loop-range-init
loop-range-init c = record {
  numbers = λ n. rw (c.new-before.ensures.items, c.new-after.ensures.items) (parts_first c.args.ranges.now c.args.added n);
  placed = λ are some. rw (c.new-before.ensures.items, c.new-after.ensures.items) (placed_none c.args.ranges.now c.args.added are some);
}

pub loop-range-preserved : goal.loop-range-preserved
loop-range-preserved c = elim c.if-range-merged.branch [
  | then-range-merged+in_ok-push w ↦ record {
    numbers = λ n. rw (w.before-is, w.merged-is, w.after-is)
        (put_before c.args.ranges.now c.loop-range.before.items _ c.loop-range.after.items c.loop-range.merged _ c.loop-range.range-index n c.loop-range-test.true w.in_ok-push.ensures.items ∙ c.loop-range.invariant.numbers n);
    placed = λ are some. rw (w.before-is, w.merged-is, w.after-is) (rw w.in_ok-push.ensures.items
        (placed_first c.loop-range.before.items c.loop-range.after.items _ c.loop-range.merged _
        (left_first c.loop-range.before.items c.loop-range.after.items c.args.ranges.now c.loop-range.merged _ c.loop-range.range-index c.loop-range-test.true (c.loop-range.invariant.placed are some)) w.if-range-merged.true));
  }
  | else-range-merged+then-merged-range+in_ok-push-2 w ↦ record {
    numbers = λ n. rw (w.before-is, w.merged-is, w.after-is)
        (put_after c.args.ranges.now c.loop-range.before.items c.loop-range.after.items _ c.loop-range.merged _ c.loop-range.range-index n c.loop-range-test.true w.in_ok-push-2.ensures.items ∙ c.loop-range.invariant.numbers n);
    placed = λ are some. rw (w.before-is, w.merged-is, w.after-is) (rw w.in_ok-push-2.ensures.items
        (placed_last c.loop-range.before.items c.loop-range.after.items _ c.loop-range.merged _
        (left_first c.loop-range.before.items c.loop-range.after.items c.args.ranges.now c.loop-range.merged _ c.loop-range.range-index c.loop-range-test.true (c.loop-range.invariant.placed are some)) w.if-merged-range.true));
  }
  | else-range-merged+else-merged-range w ↦ record {
    numbers = λ n. rw (w.before-is, w.merged-is, w.after-is)
        (put_into c.args.ranges.now c.loop-range.before.items c.loop-range.after.items c.loop-range.merged w.joined-merged.result _ c.loop-range.range-index n c.loop-range-test.true (w.joined-merged.ensures.numbers n) ∙ c.loop-range.invariant.numbers n);
    placed = λ are some. rw (w.before-is, w.merged-is, w.after-is)
        (placed_into c.loop-range.before.items c.loop-range.after.items _ c.loop-range.merged w.joined-merged.result _
        (left_first c.loop-range.before.items c.loop-range.after.items c.args.ranges.now c.loop-range.merged _ c.loop-range.range-index c.loop-range-test.true (c.loop-range.invariant.placed are some))
        w.if-range-merged.false w.if-merged-range.false w.joined-merged.ensures.ends);
  }
]

pub returns-clause-numbers : goal.returns-clause-numbers
returns-clause-numbers c = λ n.
    let whole : c.extend_from_slice.new.self.items ≡ c.push-2.new.self.items ++ c.loop-range.after.items = c.in_ok-extend_from_slice.ensures.items ∙ ap (λ (l : List Range). c.push-2.new.self.items ++ l) c.deref.ensures.value in
    parts_last c.args.ranges.now c.loop-range.before.items c.push-2.new.self.items c.loop-range.after.items c.extend_from_slice.new.self.items c.loop-range.merged c.loop-range.range-index n
    c.loop-range-test.false c.in_ok-push-3.ensures.items whole
    ∙ c.loop-range.invariant.numbers n

pub returns-clause-apart : goal.returns-clause-apart
returns-clause-apart c = λ are some.
    let whole : c.extend_from_slice.new.self.items ≡ c.push-2.new.self.items ++ c.loop-range.after.items = c.in_ok-extend_from_slice.ensures.items ∙ ap (λ (l : List Range). c.push-2.new.self.items ++ l) c.deref.ensures.value in
    placed_all c.loop-range.before.items c.push-2.new.self.items c.loop-range.after.items _ c.extend_from_slice.new.self.items c.loop-range.merged (c.loop-range.invariant.placed are some) c.in_ok-push-3.ensures.items whole
