use Rattle.std.proofs.Common.{◌≤◌, length, take}
use Rattle.tp_base.specs.Lists.{Each}
use Rattle.tp_worker.proofs.threads.most_seen.Given as goal

abbrev pub invariant-loop-cell : goal.invariant-loop-cell
invariant-loop-cell g l = Each (λ c. length c.desk.seen ≤ l.most) (take l.cell-index l.cells)
