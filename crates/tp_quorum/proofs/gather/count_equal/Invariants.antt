use Rattle.std.proofs.Common.{◌≡◌, take}
use Rattle.tp_quorum.specs.Choice.{count_of, present}
use Rattle.tp_quorum.proofs.gather.count_equal.Given as goal

abbrev pub invariant-loop-value : goal.invariant-loop-value
invariant-loop-value l = l.count ≡ count_of l.wanted (present (take l.value-index l.table))
