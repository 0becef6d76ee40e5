use Rattle.std.proofs.Common.{[], length, take}
use Rattle.tp_print.specs.Commands.{AreNumbered}
use Rattle.tp_print.proofs.commands.empty_places.Given as goal

abbrev pub invariant-loop-command : goal.invariant-loop-command
invariant-loop-command l = AreNumbered (length l.script.homes) (take l.command-index l.command-items) [] l.table.items
