use Rattle.tp_worker.proofs.threads.is_any_spent.Given as goal

abbrev pub invariant-loop-cell : goal.invariant-loop-cell
invariant-loop-cell g l = Unit {0}
