use Rattle.std.proofs.Common.{◌≡◌, drop, suc}
use Rattle.tp_script.specs.Print.{session_lines}
use Rattle.tp_script.proofs.printer.put_sessions.Given as goal
use Rattle.tp_text.specs.Writing.{with_lines}

abbrev pub invariant-loop-home : goal.invariant-loop-home
invariant-loop-home l = (with_lines l.text (session_lines (suc l.number) (drop l.home-index l.homes)) ≡ with_lines l.fn.text (session_lines 1 l.homes)) × (l.number ≡ l.home-index)
