use Rattle.std.proofs.Common.{◌≡◌, ◌≤◌, ◌+◌, ◌++◌, ℕ, suc, List, Some, length, refl, subst, ap, ◌∙◌, arith}
use Rattle.std.specs.List.{flat_map}
use Rattle.std.specs.Prelude.{slice_get}
use Rattle.std.proofs.lemmas.Option.{slice_get_read}
use Rattle.tp_print.proofs.Lines.{count_more, count_whole}
use Rattle.tp_print.proofs.Numbered.{counted_few, of_session, total_more}
use Rattle.tp_print.proofs.Reporting.{open_count_is, reply_lines_are}
use Rattle.tp_print.proofs.Rows.{row_is}
use Rattle.tp_print.specs.Commands.{IsRow}
use Rattle.tp_print.specs.Replies.{lines_of, open_of}
use Rattle.tp_topology.specs.Counting.{up_to}
use Rattle.tp_print.proofs.replies.put_replies.Goals as goal

at : (c : goal.In_ok-unanswered) → slice_get c.args.table.now c.loop-i.i ≡ Some c.index-table-i.result
at c = slice_get_read c.args.table.now (length c.args.table.now) c.loop-i.i c.index-table-i.result refl
    c.loop-i-test.true c.index-table-i.is

row : (c : goal.In_ok-unanswered) → IsRow c.args.script.now (c.loop-i.i + 1) c.index-table-i.result
row c =
    let next : suc c.loop-i.i ≡ c.loop-i.i + 1 = omega arith in
    subst (λ (s : ℕ). IsRow c.args.script.now s c.index-table-i.result) next
    (row_is c.args.script.now c.args.table.now c.loop-i.i c.index-table-i.result c.requires (at c))

-- a session's commands are counted once
few : (c : goal.In_ok-unanswered)
    → c.loop-i.unanswered + c.in_ok-unanswered.field-0 ≤ length
    (flat_map (of_session c.args.script.now.commands) (up_to (c.loop-i.i + 1)))
few c = omega (
  arith,
  c.loop-i.invariant.few,
  c.in_ok-unanswered.ensures.few,
  (row c).numbers,
  total_more
      (of_session c.args.script.now.commands) c.loop-i.i,
)

pub overflow_add-unanswered : goal.overflow_add-unanswered
overflow_add-unanswered c = omega (
  arith,
  few c,
  counted_few c.args.script.now.commands (c.loop-i.i + 1),
  c.len-most.ensures.count,
  c.len-most.ensures.small,
)

pub loop-i-preserved : goal.loop-i-preserved
loop-i-preserved c = record {
  lines = λ older first.
      count_more (lines_of c.args.script.now older) c.args.out.now c.loop-i.out c.put_session.new.out c.loop-i.i
      (c.loop-i.invariant.lines older first)
      (c.in_ok-unanswered.ensures.lines older (c.loop-i.i + 1) first (row c));
  unanswered = λ older first.
      omega (
        arith,
        c.loop-i.invariant.unanswered older first,
        c.in_ok-unanswered.ensures.unanswered older
            (c.loop-i.i + 1) first (row c),
        total_more (open_of c.args.script.now older) c.loop-i.i,
      );
  few = few c;
}

pub returns-clause-lines : goal.returns-clause-lines
returns-clause-lines c = λ older first.
    count_whole (lines_of c.args.script.now older) c.args.out.now c.loop-i.out c.loop-i.i
    (length c.args.script.now.homes) (omega (arith, c.requires.count)) (c.loop-i.invariant.lines older first)
    ∙ ap (λ (text : List ℕ). c.args.out.now ++ text) (reply_lines_are c.args.script.now older)

pub returns-clause-unanswered : goal.returns-clause-unanswered
returns-clause-unanswered c = λ older first.
    let all : c.loop-i.i ≡ length c.args.script.now.homes = omega (arith, c.requires.count) in
    c.loop-i.invariant.unanswered older first
    ∙ ap (λ (n : ℕ). length (flat_map (open_of c.args.script.now older) (up_to n))) all
    ∙ open_count_is c.args.script.now older
