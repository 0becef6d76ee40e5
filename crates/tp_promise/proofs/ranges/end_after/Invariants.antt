use Rattle.std.proofs.Common.{◌≡◌, ◌+◌, ℕ, drop, true}
use Rattle.tp_promise.specs.Pages.{in_ranges}
use Rattle.tp_promise.proofs.ranges.end_after.Given as goal

abbrev pub invariant-loop-range : goal.invariant-loop-range
invariant-loop-range l = record {
  next : in_ranges (drop l.range-index l.ranges) (l.front + 1) ≡ in_ranges l.ranges (l.front + 1);
  all : (n : ℕ) → in_ranges (drop l.range-index l.ranges) n ≡ true → in_ranges l.ranges n ≡ true;
}
