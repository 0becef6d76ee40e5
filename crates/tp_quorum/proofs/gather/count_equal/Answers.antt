use Rattle.std.proofs.Common.{◌∙◌, arith}
use Rattle.tp_quorum.proofs.Present.{equal_some, equal_none, equal_within}
use Rattle.tp_quorum.proofs.gather.count_equal.Goals as goal
use Rattle.tp_quorum.proofs.gather.count_equal.Goals.{in-Some+then-number-wanted, in-Some+else-number-wanted, in-None}

pub overflow_add-count : goal.overflow_add-count
overflow_add-count c = omega (arith, equal_within c.args.wanted c.args.table.now c.loop-value.value-index)

pub loop-value-preserved : goal.loop-value-preserved
loop-value-preserved c = elim c.match-value.branch [
  | in-Some+then-number-wanted w ↦
      let more = equal_some c.args.wanted _ _ _ _ w.in-Some.is c.loop-value-test.true c.loop-value.invariant in
      grind (arith, more, w.count-is, w.if-number-wanted.true)
  | in-Some+else-number-wanted w ↦
      let more = equal_some c.args.wanted _ _ _ _ w.in-Some.is c.loop-value-test.true c.loop-value.invariant in
      grind (arith, more, w.count-is, w.if-number-wanted.false)
  | in-None w ↦ w.count-is ∙ equal_none _ _ _ _ w.in-None.is c.loop-value-test.true c.loop-value.invariant
]
