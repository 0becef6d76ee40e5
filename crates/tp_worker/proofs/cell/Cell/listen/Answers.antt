use Rattle.std.proofs.Common.{sym, ap, ◌∙◌}
use Rattle.tp_worker.proofs.Ends.{keeps_heard, when_ok}
use Rattle.tp_worker.specs.Cells.{Worker}
use Rattle.tp_worker.proofs.cell.Cell.listen.Goals as goal

pub invariant_of-self-else-is_err : goal.invariant_of-self-else-is_err
invariant_of-self-else-is_err g c =
    keeps_heard g.A.Actor.identity_of g.A.Actor.is_spent g.A.Actor.stands c.self.inside.actor c.self.inside.post c.listen.new.self c.self.inside.state c.self.invariant
    (ap (λ (w : Worker _). w.state) c.self.view_is ∙ c.requires.live) c.listen.ensures.seen
    (when_ok c.listen.result c.listen.ensures.post (sym c.is_err.ensures.value ∙ c.if-is_err.false))
