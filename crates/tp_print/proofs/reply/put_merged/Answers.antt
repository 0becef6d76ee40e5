use Rattle.std.proofs.Common.{◌≡◌, ◌<◌, ◌≤◌, ℕ, ◌-◌, ◌+◌, ◌++◌, [], List, drop, get_or, length, Some, None, arith, ap, sym, subst, ◌∙◌, append_assoc, length-set, refl, set}
use Rattle.std.proofs.lemmas.List.{append-nil}
use Rattle.std.specs.List.{flat_map}
use Rattle.std.specs.Option.{option_copied}
use Rattle.std.specs.Prelude.{map, slice_get}
use Rattle.tp_base.specs.Partition.{partition_number}
use Rattle.tp_ops.specs.declared.operation.Answer.{Answer}
use Rattle.tp_ops.specs.declared.operation.Op.{Op}
use Rattle.tp_ops.specs.Parts.{answers_in, key_of, merged}
use Rattle.tp_ops.proofs.Merging.{bound_more, left, merged_end, step_none, step_some}
use Rattle.tp_print.specs.Report.{answer_word, spaced}
use Rattle.tp_print.proofs.reply.put_merged.Goals as goal
use Rattle.tp_print.proofs.reply.put_merged.Goals.{in-Some+in_ok-put_answer, in_default}

abbrev words : List Answer → List ℕ
words answers = flat_map spaced (map answer_word answers)

pub loop-op-preserved : goal.loop-op-preserved
loop-op-preserved c =
    let n = c.args.partitions in
    let ops = c.as_slice-op-items.result.now in
    let i = c.loop-op.op-index in
    let table = c.args.first.now in
    let taken = c.loop-op.taken in
    let p = c.partition_of-p.result.0 in
    let place = c.from-place.result - 1 in
    let e : p ≡ partition_number (key_of c.op-item.result) n = c.partition_of-p.ensures
    ∙ ap (λ (k : List ℕ). partition_number k n) c.key.ensures in
    let low : 1 ≤ p = omega arith in
    let at : place ≡ p - 1 = ap (λ (k : ℕ). k - 1) c.from-place.ensures in
    let within : place < length taken = omega arith in
    elim c.match-answer.branch [
      | in-Some+in_ok-put_answer w ↦
          let a = w.in-Some.answer.now in
          let here : slice_get (answers_in table p) (get_or taken place 0) ≡ Some a = sym c.answer.ensures
          ∙ ap option_copied w.in-Some.is in
          record {
            places = ap length w.taken-is ∙ length-set _ _ _ ∙ c.loop-op.invariant.places;
            bound = λ k. subst (λ (x : List ℕ). get_or x k 0 ≤ i + 1) (sym w.taken-is)
                (bound_more taken place i k c.loop-op.invariant.bound within);
            so_far = c.loop-op.invariant.so_far
                ∙ ap (λ (answers : List Answer). c.loop-op.out ++ words answers)
                (step_some n ops c.op-item.result i _ [] table taken p place a c.requires.some refl c.loop-op-test.true
                c.op-item.is e low at within here)
                ∙ sym (append_assoc c.loop-op.out (spaced (answer_word a))
                (words (merged n (drop (i + 1) ops) (left table (set taken place (get_or taken place 0 + 1))))))
                ∙ ap (λ (text : List ℕ). text ++ words
                (merged n (drop (i + 1) ops) (left table (set taken place (get_or taken place 0 + 1)))))
                (sym (w.out-is ∙ w.in_ok-put_answer.ensures))
                ∙ ap (λ (x : List ℕ). c.match-answer.out ++ words (merged n (drop (i + 1) ops) (left table x)))
                (sym w.taken-is);
          }
      | in_default w ↦
          let here : slice_get (answers_in table p) (get_or taken place 0) ≡ None = sym c.answer.ensures
          ∙ ap option_copied w.in_default.is in
          record {
            places = ap length w.taken-is ∙ c.loop-op.invariant.places;
            bound = λ k. subst (λ (x : List ℕ). get_or x k 0 ≤ i + 1) (sym w.taken-is)
                (omega (arith, c.loop-op.invariant.bound k));
            so_far = c.loop-op.invariant.so_far
                ∙ ap (λ (answers : List Answer). c.loop-op.out ++ words answers)
                (step_none n ops c.op-item.result i _ [] table taken p place c.requires.some refl c.loop-op-test.true
                c.op-item.is e at here)
                ∙ ap (λ (text : List ℕ). text ++ words (merged n (drop (i + 1) ops) (left table taken))) (sym w.out-is)
                ∙ ap (λ (x : List ℕ). c.match-answer.out ++ words (merged n (drop (i + 1) ops) (left table x)))
                (sym w.taken-is);
          }
    ]

pub returns : goal.returns
returns c =
    let n = c.args.partitions in
    let ops = c.as_slice-op-items.result.now in
    let rest = merged n (drop c.loop-op.op-index ops) (left c.args.first.now c.loop-op.taken) in
    sym (c.loop-op.invariant.so_far
    ∙ ap (λ (answers : List Answer). c.loop-op.out ++ words answers)
    (merged_end n ops c.loop-op.op-index rest [] (left c.args.first.now c.loop-op.taken) refl c.loop-op-test.false)
    ∙ append-nil c.loop-op.out)
    ∙ ap (λ (all : List Op). c.args.out.now ++ words (merged n all (answers_in c.args.first.now)))
    c.as_slice-op-items.ensures
