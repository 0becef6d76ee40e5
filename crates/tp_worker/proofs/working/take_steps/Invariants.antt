use Rattle.tp_worker.proofs.working.take_steps.Given as goal
use Rattle.tp_worker.specs.Cells.{GoesOn, HasAllFetched}

abbrev pub invariant-loop : goal.invariant-loop
invariant-loop g l =
    (goal.iterator-loop g).can_next l.iterator' × (goal.iterator-loop g).is_finite l.iterator' × GoesOn g.A.Actor.identity_of l.initial.cell l.cell × HasAllFetched l.cell
