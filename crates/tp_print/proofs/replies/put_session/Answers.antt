use Rattle.std.proofs.Common.{◌≡◌, ◌+◌, ◌++◌, ℕ, suc, Bool, cond, length, sym, ap, ◌∙◌, arith}
use Rattle.std.specs.Option.{option_copied}
use Rattle.std.specs.Prelude.{filter}
use Rattle.tp_print.proofs.Lines.{count_more}
use Rattle.tp_print.proofs.Numbered.{filter_more}
use Rattle.tp_print.proofs.Rows.{at_most_one, counted_told}
use Rattle.tp_print.specs.Replies.{is_open, line_of}
use Rattle.tp_print.specs.Report.{id_of}
use Rattle.tp_rules.specs.Outcome.{reply_to}
use Rattle.tp_topology.specs.Counting.{up_to}
use Rattle.tp_print.proofs.replies.put_session.Goals as goal
use Rattle.tp_print.proofs.replies.put_session.Goals.{then-not-told, else-not-told}

-- the count goes on by whether the place's reply is told
counted : (c : goal.Joined-not-told) → c.if-not-told.unanswered ≡ c.loop-i.unanswered + cond c.in_ok-told.told 0 1
counted c = elim c.if-not-told.branch [
  | then-not-told w ↦ w.unanswered-is ∙ ap (λ (b : Bool). c.loop-i.unanswered + cond b 0 1) (sym w.if-not-told.true)
  | else-not-told w ↦ w.unanswered-is ∙ (omega (arith, ap (λ (b : Bool). cond {A = ℕ} b 0 1) (sym w.if-not-told.false)))
]

pub loop-i-preserved : goal.loop-i-preserved
loop-i-preserved c =
    let script = c.args.script.now in
    let i = c.loop-i.i in
    let next : i + 1 ≡ suc i = omega arith in
    record {
      lines = λ older s first row.
          count_more (line_of script older s) c.args.out.now c.loop-i.out c.put_place.new.out i
          (c.loop-i.invariant.lines older s first row)
          (c.in_ok-told.ensures.line older (id_of s (suc i)) first
          (row.commands i (option_copied c.at.result) c.at.ensures)
          ∙ ap (λ (n : ℕ). c.loop-i.out ++ line_of script older s n) (sym next));
      unanswered = λ older s first row.
          let told = c.in_ok-told.ensures.told older (id_of s (suc i)) first
          (row.commands i (option_copied c.at.result) c.at.ensures) in
          counted c
          ∙ ap (λ (n : ℕ). n + cond {A = ℕ} c.in_ok-told.told 0 1) (c.loop-i.invariant.unanswered older s first row)
          ∙ ap (λ (n : ℕ). length (filter (is_open script older s) (up_to i)) + n)
          (counted_told (reply_to script older (id_of s (suc i))) c.in_ok-told.told told)
          ∙ ap (λ (n : ℕ). length (filter (is_open script older s) (up_to i)) + cond {A = ℕ} (is_open script older s n)
          1 0) (sym next)
          ∙ sym (filter_more (is_open script older s) i);
      few = omega (arith, counted c, at_most_one c.in_ok-told.told, c.loop-i.invariant.few);
    }
