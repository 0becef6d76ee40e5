use Rattle.std.proofs.Common.{◌≡◌, ℕ, ◌+◌, ◌&&◌, not, true, false, ap, sym, ◌∙◌, arith}
use Rattle.std.specs.Prelude.{◌==◌}
use Rattle.tp_mstable.specs.Declarations.{is_heard}
use Rattle.tp_ops.specs.Parts.{is_accessed}
use Rattle.tp_executor.proofs.Accessed.{found, none_found, not_found}
use Rattle.tp_executor.proofs.others.awaited.Goals as goal
use Rattle.tp_executor.proofs.others.awaited.Goals.{else-reaches-via-then-reaches+else-not-has, else-reaches-via-else-reaches}

pub returns-then-not-has : goal.returns-then-not-has
returns-then-not-has c = λ calls keeps.
    let m = c.args.topology.now.partitions in
    let q = c.loop-i.i + 1 in
    let passes : (not (q == c.args.p.0) && is_accessed m c.args.command.now q) ≡ true =
    ap (λ (n : ℕ). not (q == c.args.p.0) && is_accessed n c.args.command.now q) (sym c.partitions-partitions.ensures.value) ∙ sym c.reaches.ensures ∙ c.if-reaches.true in
    let unheard : not (is_heard calls.heard c.args.id q) ≡ true = let has = c.has.ensures calls keeps in cc in
    sym (found (λ q. not (is_heard calls.heard c.args.id q)) (λ q. not (q == c.args.p.0)) (is_accessed m c.args.command.now) m c.loop-i.i
    (omega arith) passes unheard (c.loop-i.invariant calls keeps))

pub loop-i-preserved : goal.loop-i-preserved
loop-i-preserved c = λ calls keeps.
    let m = c.args.topology.now.partitions in
    let q = c.loop-i.i + 1 in
    let same = ap (λ (n : ℕ). not (q == c.args.p.0) && is_accessed n c.args.command.now q) (sym c.partitions-partitions.ensures.value) in
    elim c.else-reaches.branch [
      | else-reaches-via-then-reaches+else-not-has w ↦
          let heard : not (is_heard calls.heard c.args.id q) ≡ false = let has = w.has.ensures calls keeps in cc in
          not_found (λ q. not (is_heard calls.heard c.args.id q)) (λ q. not (q == c.args.p.0)) (is_accessed m c.args.command.now) c.loop-i.i
          heard (c.loop-i.invariant calls keeps)
      | else-reaches-via-else-reaches w ↦
          none_found (λ q. not (is_heard calls.heard c.args.id q)) (λ q. not (q == c.args.p.0)) (is_accessed m c.args.command.now) c.loop-i.i
          (same ∙ sym c.reaches.ensures ∙ w.if-reaches.false) (c.loop-i.invariant calls keeps)
    ]
