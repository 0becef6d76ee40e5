use Rattle.std.proofs.Common.{sym, ap, ◌∙◌}
use Rattle.tp_sheet.specs.SiteSheet.{SiteSheet, decision_after_vote, with_vote_of}
use Rattle.tp_process.proofs.Blank.{blank-decision, blank-votes}
use Rattle.tp_process.proofs.Tables.{sheet_at-none, unchanged}
use Rattle.tp_process.proofs.sheets.vote.Goals as goal

pub returns-in-None-clause-decision : goal.returns-in-None-clause-decision
returns-in-None-clause-decision c =
    let none = sheet_at-none c.args.place.now.topology c.args.place.now.site c.args.sheets.now c.args.id (sym c.in-None.ensures.value) in
    sym (ap (λ (kept : SiteSheet). decision_after_vote c.args.rank.0 c.args.ballot kept) none ∙ blank-decision c.args.place.now.topology c.args.place.now.site c.args.rank.0 c.args.ballot)

pub returns-in-None-clause-changed : goal.returns-in-None-clause-changed
returns-in-None-clause-changed c =
    let none = sheet_at-none c.args.place.now.topology c.args.place.now.site c.args.sheets.now c.args.id (sym c.in-None.ensures.value) in
    let blank = ap (λ (kept : SiteSheet). with_vote_of c.args.rank.0 c.args.ballot kept) none ∙ blank-votes c.args.place.now.topology c.args.place.now.site c.args.rank.0 c.args.ballot in
    unchanged c.args.place.now.topology c.args.place.now.site c.args.sheets.now c.args.id _ _ c.get_mut.follows.holds-at-none (none ∙ sym blank)
