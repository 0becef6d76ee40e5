use Rattle.std.proofs.Common.{◌≡◌, false, sym, ap, subst, ◌∙◌}
use Rattle.tp_base.proofs.Options.{when}
use Rattle.tp_process.proofs.Recovering.{fresh_is, join_agrees}
use Rattle.tp_process.specs.State.{IsState, sheet_of}
use Rattle.tp_rules.specs.Process.{Step}
use Rattle.tp_rules.specs.Sheet.{is_fresh}
use Rattle.tp_sheet.specs.SiteSheet.{SiteSheet}
use Rattle.tp_process.proofs.process.Process.answer_recovery.Goals as goal

pub returns-then-not-is_fresh-clause-state : goal.returns-then-not-is_fresh-clause-state
returns-then-not-is_fresh-clause-state c =
    let p = c.args.self.now in
    let command = c.args.command.now in
    when c.answer_with_old_proposal.result (λ agreed s stands.
    let fresh : is_fresh p.place.site.partition.0 (sheet_of p command.id).sheet ≡ false =
    ap (λ (x : SiteSheet). is_fresh x.site.partition.0 (sheet_of p command.id).sheet) (sym (stands.sheets_are command.id)) ∙ sym c.is_fresh.ensures ∙ c.if-not-is_fresh.true in
    let touched = fresh_is p.place.site.partition.0 (sheet_of p command.id).sheet false c.requires.unknown fresh in
    subst (λ (m : Step). IsState c.answer_with_old_proposal.new.self m.0)
    (sym (join_agrees _ _ _ _ _ _ command s stands c.args.from c.args.ballot (sym c.is_tried.ensures ∙ c.if-not-is_tried.false) touched))
    (agreed s stands))
    c.answer_with_old_proposal.ensures.state
