use Rattle.std.proofs.Common.{◌∙◌, arith}
use Rattle.tp_quorum.proofs.Present.{count_some, count_none, present_within}
use Rattle.tp_quorum.proofs.gather.count.Goals as goal
use Rattle.tp_quorum.proofs.gather.count.Goals.{in-Some, in-None}

pub overflow_add-count : goal.overflow_add-count
overflow_add-count c = omega (arith, present_within c.args.table.now c.loop-value.value-index)

pub loop-value-preserved : goal.loop-value-preserved
loop-value-preserved c = elim c.match-value.branch [
  | in-Some w ↦ w.count-is ∙ count_some _ _ _ _ w.in-Some.is c.loop-value-test.true c.loop-value.invariant
  | in-None w ↦ w.count-is ∙ count_none _ _ _ w.in-None.is c.loop-value-test.true c.loop-value.invariant
]
