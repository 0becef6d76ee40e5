use Rattle.std.proofs.Common.{◌≡◌, take}
use Rattle.tp_quorum.specs.Choice.{greatest, present}
use Rattle.tp_quorum.proofs.gather.greatest_of.Given as goal

abbrev pub invariant-loop-value : goal.invariant-loop-value
invariant-loop-value l = l.top ≡ greatest (present (take l.value-index l.table))
