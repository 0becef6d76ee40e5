use Rattle.std.proofs.Common.{◌≡◌, take}
use Rattle.tp_bits.proofs.bits.find_first.Given as goal
use Rattle.tp_bits.specs.Bits.{ones}

abbrev pub invariant-loop-place : goal.invariant-loop-place
invariant-loop-place l = ones (take l.place l.bits) ≡ ones (take l.from l.bits)
