use Rattle.std.proofs.Common.{◌≡◌, ◌+◌, take}
use Rattle.tp_bits.proofs.bits.find_bit.Given as goal
use Rattle.tp_bits.specs.Bits.{ones}

abbrev pub invariant-loop-place : goal.invariant-loop-place
invariant-loop-place l = ones (take l.place l.bits) + l.left ≡ ones (take l.from l.bits) + l.rank
