use Rattle.std.proofs.Common.{◌≡◌, drop, map}
use Rattle.tp_script.specs.Print.{plan_words}
use Rattle.tp_script.proofs.printer.put_plan.Given as goal
use Rattle.tp_text.specs.Writing.{with_lines}

abbrev pub invariant-loop-line : goal.invariant-loop-line
invariant-loop-line l = with_lines l.text (map plan_words (drop l.line-index l.plan)) ≡ with_lines l.fn.text (map plan_words l.plan)
