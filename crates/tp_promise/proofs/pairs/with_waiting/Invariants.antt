use Rattle.std.proofs.Common.{◌≡◌, ◌++◌, take}
use Rattle.std.specs.Prelude.{filter}
use Rattle.tp_promise.specs.Pages.{waits}
use Rattle.tp_promise.proofs.pairs.with_waiting.Given as goal

abbrev pub invariant-loop-pair : goal.invariant-loop-pair
invariant-loop-pair l = l.all.items ≡ l.waiting ++ filter (waits l.front l.ranges l.committed.keys) (take l.pair-index l.told)
