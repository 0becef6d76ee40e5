use Rattle.std.proofs.Common.{◌≡◌, length, take}
use Rattle.tp_quorum.specs.Choice.{present}
use Rattle.tp_quorum.proofs.gather.count.Given as goal

abbrev pub invariant-loop-value : goal.invariant-loop-value
invariant-loop-value l = l.count ≡ length (present (take l.value-index l.table))
