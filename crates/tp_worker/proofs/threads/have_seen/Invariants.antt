use Rattle.std.proofs.Common.{◌≡◌, length, take}
use Rattle.tp_base.specs.Lists.{Each}
use Rattle.tp_worker.proofs.threads.have_seen.Given as goal
use Rattle.tp_worker.specs.declared.cell.CellState.TheVariants.{Live}

abbrev pub invariant-loop-cell : goal.invariant-loop-cell
invariant-loop-cell g l = Each (λ c. c.state ≡ Live → length c.desk.seen ≡ l.most) (take l.cell-index l.cells)
