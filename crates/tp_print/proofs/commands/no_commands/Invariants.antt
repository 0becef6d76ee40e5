use Rattle.std.proofs.Common.{[]}
use Rattle.tp_print.specs.Commands.{AreNumbered}
use Rattle.tp_print.proofs.commands.no_commands.Given as goal

abbrev pub invariant-loop-session : goal.invariant-loop-session
invariant-loop-session l = AreNumbered l._session [] [] l.table.items
