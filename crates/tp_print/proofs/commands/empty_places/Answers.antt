use Rattle.std.proofs.Common.{[], List, length, take}
use Rattle.tp_ops.specs.declared.command.Command.{Command}
use Rattle.tp_print.proofs.Lines.{take_next}
use Rattle.tp_print.specs.Commands.{AreNumbered}
use Rattle.tp_print.proofs.commands.empty_places.Goals as goal

pub loop-command-preserved : goal.loop-command-preserved
loop-command-preserved c =
    take_next (λ (counted : List Command). AreNumbered (length c.args.script.now.homes) counted []
    c.make_place.new.table.items)
    c.as_slice-command-items.result.now c.loop-command.command-index c.command-item.result c.loop-command-test.true
    c.command-item.is
    (c.in_ok-make_place.ensures (length c.args.script.now.homes)
    (take c.loop-command.command-index c.as_slice-command-items.result.now) c.loop-command.invariant)
