use Rattle.std.proofs.Common.{◌≡◌, drop, max}
use Rattle.tp_choice.specs.Choosing.{greatest_by}
use Rattle.tp_choice.proofs.recovery.greatest_stamp.Given as goal

abbrev pub invariant-loop-answer : goal.invariant-loop-answer
invariant-loop-answer l = max l.top (greatest_by (λ a. a.stamp.0) (drop l.answer-index l.answers)) ≡ greatest_by (λ a. a.stamp.0) l.answers
