use Rattle.std.proofs.Common.{sym, ap, ◌∙◌}
use Rattle.tp_sheet.proofs.Known.{final_of-some}
use Rattle.tp_sheet.specs.SiteSheet.{SiteSheet}
use Rattle.tp_sheet.proofs.sheet.Sheet.final_stamp.Goals as goal

pub returns-in-Some : goal.returns-in-Some
returns-in-Some c =
    let shape = sym (ap (λ (kept : SiteSheet). kept.shape) c.self.view_is) in
    let known = ap (λ (kept : SiteSheet). kept.sheet.known) c.self.view_is in
    let command = sym (ap (λ (kept : SiteSheet). kept.sheet.command) c.self.view_is) ∙ c.in-Some.is in
    c.greatest_known.ensures ∙ final_of-some c.args.self.now _ _ _ shape known command
