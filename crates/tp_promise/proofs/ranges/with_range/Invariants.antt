use Rattle.std.proofs.Common.{◌≡◌, ◌<◌, ℕ, drop}
use Rattle.std.specs.Prelude.{◌||◌}
use Rattle.tp_promise.specs.Pages.{AreApart, in_range, in_ranges}
use Rattle.tp_promise.proofs.Numbers.{in_parts}
use Rattle.tp_promise.proofs.Orders.{IsPlaced}
use Rattle.tp_promise.proofs.ranges.with_range.Given as goal

abbrev pub invariant-loop-range : goal.invariant-loop-range
invariant-loop-range l = record {
  numbers : (n : ℕ) → in_parts l.before.items l.merged l.after.items (in_ranges (drop l.range-index l.ranges) n) n ≡ (in_ranges l.ranges n || in_range l.fn.added n);
  placed : AreApart l.ranges → l.fn.added.lo < l.fn.added.hi → IsPlaced l.before.items l.merged l.after.items (drop l.range-index l.ranges);
}
