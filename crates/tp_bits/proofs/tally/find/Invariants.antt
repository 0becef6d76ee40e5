use Rattle.std.proofs.Common.{◌≡◌, ◌+◌, take}
use Rattle.tp_bits.proofs.tally.find.Given as goal
use Rattle.tp_bits.specs.Bits.{itself, sum_of}

abbrev pub invariant-loop-block : goal.invariant-loop-block
invariant-loop-block l = sum_of itself (take l.block l.counts) + l.left ≡ sum_of itself (take l.from l.counts) + l.rank
