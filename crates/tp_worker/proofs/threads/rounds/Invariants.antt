use Rattle.std.proofs.Common.{◌≡◌}
use Rattle.tp_base.specs.Lists.{Each}
use Rattle.tp_worker.proofs.threads.rounds.Given as goal
use Rattle.tp_worker.specs.Cells.{AllGoOn}

abbrev pub invariant-loop : goal.invariant-loop
invariant-loop g l =
    (goal.iterator-loop g).can_next l.iterator' × (goal.iterator-loop g).is_finite l.iterator' × AllGoOn g.A.Actor.identity_of l.initial.cells l.cells
    × Each (λ c. c.desk.table ≡ l.shared) l.cells
