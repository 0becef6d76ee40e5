use Rattle.std.proofs.Common.{◌≡◌, drop, map}
use Rattle.tp_base.specs.Lists.{Each}
use Rattle.tp_entry.specs.Print.{output_words}
use Rattle.tp_entry.proofs.printer.put_outputs.Given as goal
use Rattle.tp_text.specs.Writing.{with_lines}
use Rattle.tp_wire.specs.Ranges.{IsInRange}

abbrev pub invariant-loop-message : goal.invariant-loop-message
invariant-loop-message l =
    (with_lines l.text (map output_words (drop l.message-index l.outputs)) ≡ with_lines l.fn.text (map output_words l.outputs))
    × Each IsInRange (drop l.message-index l.outputs)
