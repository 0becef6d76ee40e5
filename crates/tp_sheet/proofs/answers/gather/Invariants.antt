use Rattle.tp_sheet.proofs.Listed.{IsListed}
use Rattle.tp_sheet.proofs.answers.gather.Given as goal

abbrev pub invariant-loop-answer : goal.invariant-loop-answer
invariant-loop-answer l = IsListed l.table l.answer-index l.count l.gathered
