use Rattle.std.proofs.Common.{◌≡◌, ◌≤◌, ◌++◌, ℕ, List, length}
use Rattle.std.specs.List.{flat_map}
use Rattle.std.specs.Prelude.{filter}
use Rattle.tp_print.specs.Commands.{IsRow}
use Rattle.tp_print.specs.Replies.{is_open, line_of}
use Rattle.tp_print.specs.Results.{AreFirst}
use Rattle.tp_rules.specs.declared.event.Entry.{Entry}
use Rattle.tp_topology.specs.Counting.{up_to}
use Rattle.tp_print.proofs.replies.put_session.Given as goal

abbrev pub invariant-loop-i : goal.invariant-loop-i
invariant-loop-i l = record {
  lines : (older : List Entry) (s : ℕ) → AreFirst older l.results → IsRow l.script s l.commands
      → l.out ≡ l.initial.out ++ flat_map (line_of l.script older s) (up_to l.i);
  unanswered : (older : List Entry) (s : ℕ) → AreFirst older l.results → IsRow l.script s l.commands
      → l.unanswered ≡ length (filter (is_open l.script older s) (up_to l.i));
  few : l.unanswered ≤ l.i;
}
