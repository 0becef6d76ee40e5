use Rattle.std.proofs.Common.{◌≡◌, ℕ, ◌+◌, ◌&&◌, not, true, ap, sym, ◌∙◌, arith}
use Rattle.std.specs.Prelude.{◌==◌}
use Rattle.std.proofs.lemmas.Bool.{and_parts, false≢true}
use Rattle.tp_ops.specs.Parts.{is_accessed}
use Rattle.tp_executor.proofs.Accessed.{not_empty}
use Rattle.tp_executor.proofs.others.is_alone.Goals as goal

pub returns-then-reaches : goal.returns-then-reaches
returns-then-reaches c =
    let m = c.args.topology.now.partitions in
    let q = c.loop-i.i + 1 in
    let both : (not (q == c.args.p.0) && is_accessed m c.args.command.now q) ≡ true =
    ap (λ (n : ℕ). not (q == c.args.p.0) && is_accessed n c.args.command.now q) (sym c.partitions-partitions.ensures.value) ∙ sym c.reaches.ensures ∙ c.if-reaches.true in
    let parts = and_parts (not (q == c.args.p.0)) (is_accessed m c.args.command.now q) both in (
      λ wrong. absurd (false≢true wrong),
      λ empty. absurd (not_empty (λ k. not (k == c.args.p.0)) (is_accessed m c.args.command.now) m q (omega arith) (omega arith) parts.0 parts.1 empty),
    )
