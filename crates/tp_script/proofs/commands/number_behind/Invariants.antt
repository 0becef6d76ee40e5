use Rattle.std.proofs.Common.{◌≡◌, ◌≤◌, length, take}
use Rattle.tp_script.specs.Accepted.{commands_by}
use Rattle.tp_script.proofs.commands.number_behind.Given as goal

abbrev pub invariant-loop-command : goal.invariant-loop-command
invariant-loop-command l = (l.count ≡ length (commands_by l.session (take l.command-index l.commands))) × (l.count ≤ l.command-index)
