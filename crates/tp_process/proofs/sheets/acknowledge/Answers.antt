use Rattle.std.proofs.Common.{sym, ap, ◌∙◌}
use Rattle.tp_sheet.specs.SiteSheet.{SiteSheet, choice_after_ack, with_acknowledgement}
use Rattle.tp_process.proofs.Blank.{blank-choice, blank-acknowledges}
use Rattle.tp_process.proofs.Tables.{sheet_at-none, unchanged}
use Rattle.tp_process.proofs.sheets.acknowledge.Goals as goal

pub returns-in-None-clause-choice : goal.returns-in-None-clause-choice
returns-in-None-clause-choice c =
    let none = sheet_at-none c.args.place.now.topology c.args.place.now.site c.args.sheets.now c.args.id (sym c.in-None.ensures.value) in
    sym (ap (λ (kept : SiteSheet). choice_after_ack c.args.rank.0 c.args.stamp.0 kept) none ∙ blank-choice c.args.place.now.topology c.args.place.now.site c.args.rank.0 c.args.stamp.0)

pub returns-in-None-clause-changed : goal.returns-in-None-clause-changed
returns-in-None-clause-changed c =
    let none = sheet_at-none c.args.place.now.topology c.args.place.now.site c.args.sheets.now c.args.id (sym c.in-None.ensures.value) in
    let blank = ap (λ (kept : SiteSheet). with_acknowledgement c.args.rank.0 c.args.stamp.0 kept) none ∙ blank-acknowledges c.args.place.now.topology c.args.place.now.site c.args.rank.0 c.args.stamp.0 in
    unchanged c.args.place.now.topology c.args.place.now.site c.args.sheets.now c.args.id _ _ c.get_mut.follows.holds-at-none (none ∙ sym blank)
