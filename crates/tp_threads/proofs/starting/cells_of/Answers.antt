use Rattle.std.proofs.Common.{rules}
use Rattle.tp_threads.proofs.Cells.{is_fresh, is_new, none_yet, one_more}
use Rattle.tp_threads.proofs.starting.cells_of.Goals as goal

pub loop-actor-init : goal.loop-actor-init
loop-actor-init g c =
    none_yet g.A.Actor.identity_of g.A.Actor.is_spent g.A.Actor.stands c.args.script.now c.args.shared.now c.args.actors.items c.args.first.now c.new-cells.result.items
    c.requires.cast c.requires.first c.requires.empty (search rules)

pub cell_of-requires-clause-actor : goal.cell_of-requires-clause-actor
cell_of-requires-clause-actor g c =
    is_new g.A.Actor.identity_of g.A.Actor.is_spent g.A.Actor.stands c.args.script.now c.args.shared.now c.args.actors.items
    _ _ c.in-Some.actor _ _ c.loop-actor.invariant c.in-Some.ensures.items

pub cell_of-requires-clause-fresh : goal.cell_of-requires-clause-fresh
cell_of-requires-clause-fresh g c =
    is_fresh g.A.Actor.identity_of g.A.Actor.is_spent g.A.Actor.stands c.args.script.now c.args.shared.now c.args.actors.items
    _ _ c.in-Some.actor _ _ c.loop-actor.invariant c.in-Some.ensures.items

pub loop-actor-preserved : goal.loop-actor-preserved
loop-actor-preserved g c =
    one_more g.A.Actor.identity_of g.A.Actor.is_spent g.A.Actor.stands c.args.script.now c.args.shared.now c.args.actors.items
    _ _ c.in-Some.actor _ _ c.loop-actor.invariant c.in-Some.ensures.items
    _ _ c.in_ok-cell.cell c.in_ok-cell.ensures.first c.in_ok-cell.ensures.cell c.in_ok-push.ensures.items
