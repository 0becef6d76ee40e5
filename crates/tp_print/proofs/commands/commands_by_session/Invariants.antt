use Rattle.std.proofs.Common.{length, take}
use Rattle.tp_print.specs.Commands.{AreNumbered}
use Rattle.tp_print.proofs.commands.commands_by_session.Given as goal

abbrev pub invariant-loop-command : goal.invariant-loop-command
invariant-loop-command l = AreNumbered (length l.script.homes) l.script.commands (take l.command-index l.command-items)
    l.table.items
