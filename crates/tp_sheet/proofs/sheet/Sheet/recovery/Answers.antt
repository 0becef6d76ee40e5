use Rattle.std.proofs.Common.{◌≤◌, List, sym, subst}
use Rattle.tp_base.specs.Lists.{Each}
use Rattle.tp_choice.specs.declared.answer.RecoveryAnswer.{RecoveryAnswer}
use Rattle.tp_sheet.proofs.Listed.{ranks_present}
use Rattle.tp_sheet.specs.SiteSheet.{SiteSheet}
use Rattle.tp_sheet.specs.View.{IsRanked}
use Rattle.tp_sheet.proofs.sheet.Sheet.recovery.Goals as goal

pub choose-requires-clause-ranks : goal.choose-requires-clause-ranks
choose-requires-clause-ranks c =
    let replicas = c.self.inside.topology.replicas in
    let ranks : Each (IsRanked replicas) c.answers.result.now =
    subst (λ (kept : SiteSheet). Each (IsRanked kept.shape.replicas) c.answers.result.now) (sym c.self.view_is) c.answers.ensures.ranks in
    subst (λ (answers : List RecoveryAnswer). Each (λ a. (1 ≤ a.rank.0) × (a.rank.0 ≤ replicas)) answers)
    (sym c.gather-count.ensures.gathered)
    (ranks_present replicas c.answers.result.now ranks)
