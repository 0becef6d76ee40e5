use Rattle.std.proofs.Common.{vec_len}
use Rattle.tp_threads.proofs.Joining.{IsUnderWay}
use Rattle.tp_threads.proofs.ending.join_all.Given as goal

abbrev pub invariant-loop-cell : goal.invariant-loop-cell
invariant-loop-cell g l =
    IsUnderWay g.A.Actor.identity_of g.A.Actor.is_spent g.A.Actor.stands l.script l.shared l.fn.cells.items l.fn.first l.cells.items l.first l.spent

abbrev pub decreases-loop-cell : goal.decreases-loop-cell
decreases-loop-cell g l = vec_len l.cells
