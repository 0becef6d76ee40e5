use Rattle.std.proofs.Common.{ℕ, List, Option, Some, take, ap, ◌∙◌}
use Rattle.tp_base.proofs.Tables.{take-with_nth}
use Rattle.tp_sheet.proofs.Tables.{where_true}
use Rattle.tp_sheet.specs.SiteSheet.{with_sheet}
use Rattle.tp_sheet.specs.View.{view_of}
use Rattle.tp_sheet.proofs.sheet.Sheet.gather.Goals as goal

pub returns-clause-kept : goal.returns-clause-kept
returns-clause-kept c =
    let old = view_of c.self.inside in
    let replicas = c.self.inside.topology.replicas in
    where_true c.put.result (λ kept.
    rw (← c.self.view_is)
    (ap (λ (table : List (Option ℕ)). with_sheet (record old.sheet { acknowledged = table }) old)
    (ap (λ (table : List (Option ℕ)). take replicas table) kept ∙ take-with_nth replicas c.self.inside.gathered c.args.rank.0 (Some c.args.stamp.0))))
    c.put.ensures.kept
