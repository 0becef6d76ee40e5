use Rattle.std.proofs.Common.{◌≡◌, drop}
use Rattle.tp_script.specs.Print.{more_words}
use Rattle.tp_script.proofs.printer.put_more.Given as goal
use Rattle.tp_text.specs.Writing.{with_words}

abbrev pub invariant-loop-op : goal.invariant-loop-op
invariant-loop-op l = with_words l.text (more_words (drop l.op-index l.ops)) ≡ with_words l.fn.text (more_words l.ops)
