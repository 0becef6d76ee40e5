use Rattle.std.proofs.Common.{Some}
use Rattle.tp_base.proofs.Tables.{take-set_nth}
use Rattle.tp_sheet.proofs.sheet.Sheet.add_answer.Goals as goal

pub returns : goal.returns
returns c =
    let written = take-set_nth c.self.inside.topology.replicas c.self.inside.answers c.args.answer.rank.0 (Some c.args.answer) c.requires.some in
    rw (← c.self.view_is, c.from.ensures) (rw written)
