use Rattle.std.proofs.Common.{sym, ap, ◌∙◌}
use Rattle.tp_base.proofs.Tables.{kept_at-take, past-kept}
use Rattle.tp_rules.specs.Sheet.{stamp_of}
use Rattle.tp_sheet.proofs.Tables.{within}
use Rattle.tp_sheet.specs.SiteSheet.{SiteSheet}
use Rattle.tp_sheet.proofs.sheet.Sheet.stamp.Goals as goal

pub returns-then-not-has_partition : goal.returns-then-not-has_partition
returns-then-not-has_partition c =
    sym (past-kept c.self.inside.topology.partitions c.self.inside.known c.args.partition.0 (sym c.has_partition.ensures ∙ c.if-not-has_partition.true))
    ∙ ap (λ (kept : SiteSheet). stamp_of kept.sheet c.args.partition.0) c.self.view_is

pub returns : goal.returns
returns c =
    c.get.ensures
    ∙ sym (kept_at-take c.self.inside.topology.partitions c.self.inside.known c.args.partition.0
    (within c.self.inside.topology.partitions c.args.partition.0 (sym c.has_partition.ensures ∙ c.if-not-has_partition.false)))
    ∙ ap (λ (kept : SiteSheet). stamp_of kept.sheet c.args.partition.0) c.self.view_is
