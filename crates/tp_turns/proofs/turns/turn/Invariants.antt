use Rattle.tp_shared_tests.specs.Small.{IsSame}
use Rattle.tp_turns.proofs.turns.turn.Given as goal

abbrev pub invariant-loop : goal.invariant-loop
invariant-loop g l = IsSame l.initial.desk l.desk
