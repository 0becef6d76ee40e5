use Rattle.std.proofs.Common.{take}
use Rattle.tp_promise.proofs.Numbers.{IsClear}
use Rattle.tp_promise.proofs.pairs.clear_to.Given as goal

abbrev pub invariant-loop-pair : goal.invariant-loop-pair
invariant-loop-pair l = IsClear l.front l.last l.clear (take l.pair-index l.attached)
