use Rattle.std.proofs.Common.{take}
use Rattle.std.specs.Prelude.{reverse}
use Rattle.tp_print.specs.Outcomes.{IsOutcome}
use Rattle.tp_print.proofs.outcome.outcome_of.Given as goal

abbrev pub invariant-loop-i : goal.invariant-loop-i
invariant-loop-i l = IsOutcome (reverse (take l.i l.entries)) l.outcome
