use Rattle.std.proofs.Common.{◌<◌, arith}
use Rattle.tp_sheet.proofs.Listed.{listed_none, listed_some, present_before}
use Rattle.tp_sheet.proofs.answers.gather.Goals as goal
use Rattle.tp_sheet.proofs.answers.gather.Goals.{in-Some, in-None}

pub bounds-gathered-count : goal.bounds-gathered-count
bounds-gathered-count c =
    let before = present_before c.args.table.now c.loop-answer.answer-index in
    omega (arith, before, c.loop-answer.invariant.counted, c.loop-answer-test.true, c.requires)

pub loop-answer-preserved : goal.loop-answer-preserved
loop-answer-preserved c = elim c.match-answer.branch [
  | in-Some w ↦
      let before = present_before c.args.table.now c.loop-answer.answer-index in
      let few : c.loop-answer.count < 7 = omega (arith, before, c.loop-answer.invariant.counted, c.loop-answer-test.true, c.requires) in
      listed_some _ _ _ _ _ _ _ w.in-Some.is c.loop-answer-test.true few w.count-is w.gathered-is c.loop-answer.invariant
  | in-None w ↦ listed_none _ _ _ _ _ _ w.in-None.is c.loop-answer-test.true w.count-is w.gathered-is c.loop-answer.invariant
]
