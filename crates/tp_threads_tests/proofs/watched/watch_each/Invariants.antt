use Rattle.std.proofs.Common.{vec_len}
use Rattle.tp_threads_tests.proofs.Watching.{IsUnderWay}
use Rattle.tp_threads_tests.proofs.watched.watch_each.Given as goal

abbrev pub invariant-loop-actor : goal.invariant-loop-actor
invariant-loop-actor l = IsUnderWay l.fn.actors.items l.actors.items l.all.items

abbrev pub decreases-loop-actor : goal.decreases-loop-actor
decreases-loop-actor l = vec_len l.actors
