use Rattle.std.proofs.Common.{◌≡◌, drop, map}
use Rattle.tp_script.specs.Print.{pick_words}
use Rattle.tp_script.proofs.printer.put_picks.Given as goal
use Rattle.tp_text.specs.Writing.{with_lines}

abbrev pub invariant-loop-pick : goal.invariant-loop-pick
invariant-loop-pick l = with_lines l.text (map pick_words (drop l.pick-index l.picks)) ≡ with_lines l.fn.text (map pick_words l.picks)
