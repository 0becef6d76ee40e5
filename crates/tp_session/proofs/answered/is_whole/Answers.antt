use Rattle.std.proofs.Common.{◌≡◌, ℕ, ◌+◌, ◌&&◌, true, false, sym, ap, ◌∙◌, arith}
use Rattle.std.specs.Prelude.{is_none}
use Rattle.tp_base.specs.Tables.{kept_at}
use Rattle.tp_ops.specs.Parts.{is_accessed}
use Rattle.tp_session.proofs.Tables.{whole_fails, whole_more}
use Rattle.tp_session.proofs.answered.is_whole.Goals as goal

pub returns-then-lacks : goal.returns-then-lacks
returns-then-lacks c =
    let m = c.args.topology.now.partitions in
    let q = c.loop-i.i + 1 in
    let lacks : (is_accessed m c.args.command.now q && is_none (kept_at c.args.parts.now q)) ≡ true =
    ap (λ (n : ℕ). is_accessed n c.args.command.now q && is_none (kept_at c.args.parts.now q)) (sym c.partitions-partitions.ensures.value) ∙ sym c.lacks.ensures ∙ c.if-lacks.true in
    sym (whole_fails m q c.args.parts.now c.args.command.now (omega arith) (omega arith) lacks)

pub loop-i-preserved : goal.loop-i-preserved
loop-i-preserved c =
    let m = c.args.topology.now.partitions in
    let q = c.loop-i.i + 1 in
    let lacks : (is_accessed m c.args.command.now q && is_none (kept_at c.args.parts.now q)) ≡ false =
    ap (λ (n : ℕ). is_accessed n c.args.command.now q && is_none (kept_at c.args.parts.now q)) (sym c.partitions-partitions.ensures.value) ∙ sym c.lacks.ensures ∙ c.if-lacks.false in
    whole_more m c.loop-i.i c.args.parts.now c.args.command.now (omega arith) lacks c.loop-i.invariant
