use Rattle.std.proofs.Common.{◌≡◌, ◌≤◌, ◌++◌, List, length}
use Rattle.std.specs.List.{flat_map}
use Rattle.tp_print.proofs.Numbered.{of_session}
use Rattle.tp_print.specs.Replies.{lines_of, open_of}
use Rattle.tp_print.specs.Results.{AreFirst}
use Rattle.tp_rules.specs.declared.event.Entry.{Entry}
use Rattle.tp_topology.specs.Counting.{up_to}
use Rattle.tp_print.proofs.replies.put_replies.Given as goal

abbrev pub invariant-loop-i : goal.invariant-loop-i
invariant-loop-i l = record {
  lines : (older : List Entry) → AreFirst older l.results
      → l.out ≡ l.initial.out ++ flat_map (lines_of l.script older) (up_to l.i);
  unanswered : (older : List Entry) → AreFirst older l.results
      → l.unanswered ≡ length (flat_map (open_of l.script older) (up_to l.i));
  few : l.unanswered ≤ length (flat_map (of_session l.script.commands) (up_to l.i));
}
