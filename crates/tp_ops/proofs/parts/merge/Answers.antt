use Rattle.std.proofs.Common.{◌≡◌, ◌<◌, ◌≤◌, ℕ, ◌-◌, ◌+◌, ◌++◌, ◌∷◌, [], List, get_or, length, Some, None, arith, ap, sym, subst, ◌∙◌, length-set}
use Rattle.std.proofs.lemmas.Result.{IfOk-weaker}
use Rattle.std.specs.Option.{option_copied}
use Rattle.std.specs.Prelude.{slice_get}
use Rattle.tp_base.specs.Partition.{partition_number}
use Rattle.tp_ops.specs.declared.operation.Answer.{Answer}
use Rattle.tp_ops.specs.declared.operation.Op.{Op}
use Rattle.tp_ops.specs.Parts.{answers_in, key_of, merged}
use Rattle.tp_ops.proofs.Merging.{bound_more, merged_end, step_none, step_some}
use Rattle.tp_ops.proofs.parts.merge.Goals as goal
use Rattle.tp_ops.proofs.parts.merge.Goals.{in-Some+in_ok-copy+in_ok-add, in_default}

pub loop-op-preserved : goal.loop-op-preserved
loop-op-preserved c =
    let p = c.partition_of-p.result.0 in
    let e : p ≡ partition_number (key_of c.op-item.result) c.args.partitions = c.partition_of-p.ensures ∙ ap (λ (k : List ℕ). partition_number k c.args.partitions) c.key.ensures in
    let low : 1 ≤ p = omega arith in
    let at : c.from-place.result - 1 ≡ p - 1 = ap (λ (k : ℕ). k - 1) c.from-place.ensures in
    let within : c.from-place.result - 1 < length c.loop-op.taken = omega arith in
    elim c.match-answer.branch [
      | in-Some+in_ok-copy+in_ok-add w ↦
          let a = w.in-Some.answer.now in
          let here : slice_get (answers_in c.args.parts.now p) (get_or c.loop-op.taken (c.from-place.result - 1) 0) ≡ Some a = sym c.answer.ensures ∙ ap option_copied w.in-Some.is in
          let added : c.loop-op.merged ++ a ∷ [] ≡ c.match-answer.merged = sym (w.merged-is ∙ w.in_ok-add.ensures.added ∙ ap (λ (x : Answer). c.loop-op.merged ++ x ∷ []) w.in_ok-copy.ensures) in
          let step = step_some c.args.partitions c.as_slice-op-items.result.now c.op-item.result c.loop-op.op-index _ c.loop-op.merged c.args.parts.now c.loop-op.taken p (c.from-place.result - 1) a c.requires.some c.loop-op.invariant.so_far c.loop-op-test.true c.op-item.is e low at within here in
          record {
            places = ap length w.taken-is ∙ length-set _ _ _ ∙ c.loop-op.invariant.places;
            bound = λ k. subst (λ (taken : List ℕ). get_or taken k 0 ≤ c.loop-op.op-index + 1) (sym w.taken-is) (bound_more c.loop-op.taken (c.from-place.result - 1) c.loop-op.op-index k c.loop-op.invariant.bound within);
            so_far = rw (w.taken-is, ← added) step;
          }
      | in_default w ↦
          let here : slice_get (answers_in c.args.parts.now p) (get_or c.loop-op.taken (c.from-place.result - 1) 0) ≡ None = sym c.answer.ensures ∙ ap option_copied w.in_default.is in
          record {
            places = ap length w.taken-is ∙ c.loop-op.invariant.places;
            bound = λ k. subst (λ (taken : List ℕ). get_or taken k 0 ≤ c.loop-op.op-index + 1) (sym w.taken-is) (omega (arith, c.loop-op.invariant.bound k));
            so_far = rw (w.taken-is, w.merged-is) (step_none c.args.partitions c.as_slice-op-items.result.now c.op-item.result c.loop-op.op-index _ c.loop-op.merged c.args.parts.now c.loop-op.taken p (c.from-place.result - 1) c.requires.some c.loop-op.invariant.so_far c.loop-op-test.true c.op-item.is e at here);
          }
    ]

pub returns : goal.returns
returns c = IfOk-weaker c.new.result _ _ (λ answers same. same ∙ whole) c.new.ensures
  where
    whole : c.loop-op.merged ≡ merged c.args.partitions c.args.c.now.ops (answers_in c.args.parts.now)
    whole =
        sym (merged_end c.args.partitions c.as_slice-op-items.result.now _ _ _ _ c.loop-op.invariant.so_far c.loop-op-test.false)
        ∙ ap (λ (ops : List Op). merged c.args.partitions ops (answers_in c.args.parts.now)) c.as_slice-op-items.ensures
