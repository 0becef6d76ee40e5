use Rattle.tp_sheet.proofs.Tables.{empty_answers}
use Rattle.tp_sheet.proofs.sheet.Sheet.attempt.Goals as goal

pub returns : goal.returns
returns c =
    let answers = empty_answers c.self.inside.topology.replicas c.self.invariant.few_replicas in
    rw (← c.self.view_is, c.attempt.ensures) (rw answers)
