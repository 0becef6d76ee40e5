use Rattle.std.proofs.Common.{refl}
use Rattle.tp_worker.proofs.Ends.{keeps_new}
use Rattle.tp_worker.proofs.cell.Cell.new.Goals as goal

pub invariant_of-result : goal.invariant_of-result
invariant_of-result g c =
    keeps_new g.A.Actor.identity_of g.A.Actor.is_spent g.A.Actor.stands c.requires.ready.0 c.args.actor _ c.requires.ready.1 c.told.ensures refl refl
