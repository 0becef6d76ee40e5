use Rattle.std.proofs.Common.{ℕ, List, length, ap, ◌∙◌}
use Rattle.tp_quorum.specs.Choice.{present}
use Rattle.tp_sheet.proofs.Tables.{present-front}
use Rattle.tp_sheet.specs.SiteSheet.{SiteSheet}
use Rattle.tp_sheet.proofs.sheet.Sheet.gathered.Goals as goal

pub returns : goal.returns
returns c =
    c.len.ensures
    ∙ ap (λ (stamps : List ℕ). length stamps) (present-front c.self.inside.topology.replicas c.self.inside.gathered c.self.invariant.gathered)
    ∙ ap (λ (kept : SiteSheet). length (present kept.sheet.acknowledged)) c.self.view_is
