use Rattle.tp_worker.proofs.Goings.{all_at, all_then}
use Rattle.tp_worker.proofs.threads.rounds.Goals as goal

pub returns-then-has_ended-clause-go_on : goal.returns-then-has_ended-clause-go_on
returns-then-has_ended-clause-go_on g c =
    all_then g.A.Actor.identity_of c.args.cells.now c.loop.cells c.round.new.cells c.loop.invariant.2 c.round.ensures.go_on

pub loop-preserved : goal.loop-preserved
loop-preserved g c = (
  tt,
  tt,
  all_then g.A.Actor.identity_of c.args.cells.now c.loop.cells c.round.new.cells c.loop.invariant.2 c.round.ensures.go_on,
  all_at g.A.Actor.identity_of c.args.shared.now c.loop.cells c.round.new.cells c.round.ensures.go_on c.loop.invariant.3,
)
