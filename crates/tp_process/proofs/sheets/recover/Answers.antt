use Rattle.std.proofs.Common.{sym, ap, ◌∙◌}
use Rattle.tp_process.proofs.Blank.{blank-recovers, blank-tries}
use Rattle.tp_process.proofs.Tables.{sheet_at-none, unchanged}
use Rattle.tp_sheet.specs.SiteSheet.{SiteSheet, ballot_by, with_try}
use Rattle.tp_process.proofs.sheets.recover.Goals as goal

pub returns-in-None-clause-ballot : goal.returns-in-None-clause-ballot
returns-in-None-clause-ballot c =
    let none = sheet_at-none c.args.place.now.topology c.args.place.now.site c.args.sheets.now c.args.id (sym c.in-None.ensures.value) in
    sym (ap (λ (kept : SiteSheet). ballot_by kept) none ∙ blank-recovers c.args.place.now.topology c.args.place.now.site)

pub returns-in-None-clause-changed : goal.returns-in-None-clause-changed
returns-in-None-clause-changed c =
    let none = sheet_at-none c.args.place.now.topology c.args.place.now.site c.args.sheets.now c.args.id (sym c.in-None.ensures.value) in
    let blank = ap (λ (kept : SiteSheet). with_try kept) none ∙ blank-tries c.args.place.now.topology c.args.place.now.site in
    unchanged c.args.place.now.topology c.args.place.now.site c.args.sheets.now c.args.id _ _ c.get_mut.follows.holds-at-none (none ∙ sym blank)
