use Rattle.std.proofs.Common.{◌≡◌, drop, None}
use Rattle.tp_choice.specs.Choosing.{best_from}
use Rattle.tp_choice.proofs.recovery.best.Given as goal

abbrev pub invariant-loop-answer : goal.invariant-loop-answer
invariant-loop-answer l = best_from l.found (drop l.answer-index l.answers) ≡ best_from None l.answers
