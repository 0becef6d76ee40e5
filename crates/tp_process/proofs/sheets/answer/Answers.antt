use Rattle.std.proofs.Common.{sym, ap, ◌∙◌}
use Rattle.tp_process.proofs.Blank.{blank-answers, blank-recovery}
use Rattle.tp_process.proofs.Tables.{sheet_at-none, unchanged}
use Rattle.tp_sheet.specs.SiteSheet.{SiteSheet, choice_after_answer, with_answer_of}
use Rattle.tp_process.proofs.sheets.answer.Goals as goal

pub returns-in-None-clause-choice : goal.returns-in-None-clause-choice
returns-in-None-clause-choice c =
    let none = sheet_at-none c.args.place.now.topology c.args.place.now.site c.args.sheets.now c.args.id (sym c.in-None.ensures.value) in
    sym (ap (λ (kept : SiteSheet). choice_after_answer c.args.answer c.args.ballot kept) none ∙ blank-recovery c.args.place.now.topology c.args.place.now.site c.args.answer c.args.ballot)

pub returns-in-None-clause-changed : goal.returns-in-None-clause-changed
returns-in-None-clause-changed c =
    let none = sheet_at-none c.args.place.now.topology c.args.place.now.site c.args.sheets.now c.args.id (sym c.in-None.ensures.value) in
    let blank = ap (λ (kept : SiteSheet). with_answer_of c.args.answer c.args.ballot kept) none ∙ blank-answers c.args.place.now.topology c.args.place.now.site c.args.answer c.args.ballot in
    unchanged c.args.place.now.topology c.args.place.now.site c.args.sheets.now c.args.id _ _ c.get_mut.follows.holds-at-none (none ∙ sym blank)
