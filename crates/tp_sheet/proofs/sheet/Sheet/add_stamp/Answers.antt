use Rattle.std.proofs.Common.{sym, ap, ◌∙◌}
use Rattle.std.specs.Prelude.{is_none}
use Rattle.tp_rules.specs.Sheet.{stamp_of}
use Rattle.tp_sheet.proofs.Learned.{known_past, known_put, new_past, new_put}
use Rattle.tp_sheet.specs.SiteSheet.{SiteSheet}
use Rattle.tp_sheet.specs.View.{view_of}
use Rattle.tp_sheet.proofs.sheet.Sheet.add_stamp.Goals as goal

pub returns-then-not-has_partition-clause-new : goal.returns-then-not-has_partition-clause-new
returns-then-not-has_partition-clause-new c =
    new_past c.self.inside.topology.partitions c.self.inside.known c.args.partition.0 (sym c.has_partition.ensures ∙ c.if-not-has_partition.true)
    ∙ ap (λ (kept : SiteSheet). is_none (stamp_of kept.sheet c.args.partition.0)) c.self.view_is

pub returns-then-not-has_partition-clause-known : goal.returns-then-not-has_partition-clause-known
returns-then-not-has_partition-clause-known c =
    sym (known_past c.args.self.now c.self.inside.topology.partitions c.self.inside.known c.args.partition.0 c.args.stamp.0
    (ap (λ (kept : SiteSheet). kept.sheet.known) c.self.view_is)
    (sym c.has_partition.ensures ∙ c.if-not-has_partition.true))

pub returns-clause-new : goal.returns-clause-new
returns-clause-new c =
    c.put.ensures.first
    ∙ new_put c.self.inside.topology.partitions c.self.inside.known c.args.partition.0 (sym c.has_partition.ensures ∙ c.if-not-has_partition.false)
    ∙ ap (λ (kept : SiteSheet). is_none (stamp_of kept.sheet c.args.partition.0)) c.self.view_is

pub returns-clause-known : goal.returns-clause-known
returns-clause-known c =
    rw (← c.self.view_is)
    (known_put (view_of c.self.inside) c.self.inside.topology.partitions c.self.inside.known c.put.new.self c.args.partition.0 c.args.stamp.0
    c.put.result (sym c.has_partition.ensures ∙ c.if-not-has_partition.false) c.put.ensures.first c.put.ensures.kept c.put.ensures.same)
