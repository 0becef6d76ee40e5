use Rattle.std.proofs.Common.{◌≡◌, drop, map}
use Rattle.tp_script.specs.Print.{command_words}
use Rattle.tp_script.proofs.printer.put_commands.Given as goal
use Rattle.tp_text.specs.Writing.{with_lines}

abbrev pub invariant-loop-command : goal.invariant-loop-command
invariant-loop-command l = with_lines l.text (map command_words (drop l.command-index l.commands)) ≡ with_lines l.fn.text (map command_words l.commands)
