-- The replies of one session, by the numbers of its commands.
use Rattle.std.specs.List.{flat_map}
use Rattle.std.specs.Prelude.{ℕ, Bool, List, filter, is_none, length}
use Rattle.tp_print.specs.Report.{id_of, reply_line}
use Rattle.tp_rules.specs.Journal.{commands_of}
use Rattle.tp_rules.specs.Outcome.{reply_to}
use Rattle.tp_rules.specs.declared.event.Entry.{Entry}
use Rattle.tp_script.specs.declared.script.Script.{Script}
use Rattle.tp_topology.specs.Counting.{up_to}

-- the numbers of a session's commands
abbrev pub numbers_of : Script → ℕ → List ℕ
numbers_of script s = up_to (length (commands_of script (record { 0 = s })))

abbrev pub line_of : Script → List Entry → ℕ → ℕ → List ℕ
line_of script older s n = reply_line (id_of s n) (reply_to script older (id_of s n))

abbrev pub is_open : Script → List Entry → ℕ → ℕ → Bool
is_open script older s n = is_none (reply_to script older (id_of s n))

-- the lines of a session
abbrev pub lines_of : Script → List Entry → ℕ → List ℕ
lines_of script older s = flat_map (line_of script older s) (numbers_of script s)

-- the numbers of a session's commands that aren't answered
abbrev pub open_of : Script → List Entry → ℕ → List ℕ
open_of script older s = filter (is_open script older s) (numbers_of script s)
