use Rattle.std.proofs.Common.{vec_len}
use Rattle.tp_threads.proofs.Cells.{IsUnderWay}
use Rattle.tp_threads.proofs.starting.cells_of.Given as goal

abbrev pub invariant-loop-actor : goal.invariant-loop-actor
invariant-loop-actor g l =
    IsUnderWay g.A.Actor.identity_of g.A.Actor.is_spent g.A.Actor.stands l.script l.shared l.fn.actors.items l.actors.items l.first l.cells.items

abbrev pub decreases-loop-actor : goal.decreases-loop-actor
decreases-loop-actor g l = vec_len l.actors
