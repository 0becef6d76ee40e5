use Rattle.std.proofs.Common.{◌≡◌, drop}
use Rattle.tp_promise.specs.Pages.{in_ranges}
use Rattle.tp_promise.proofs.ranges.is_in.Given as goal

abbrev pub invariant-loop-range : goal.invariant-loop-range
invariant-loop-range l = in_ranges (drop l.range-index l.ranges) l.n ≡ in_ranges l.ranges l.n
