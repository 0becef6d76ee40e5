use Rattle.std.proofs.Common.{◌≡◌, ◌-◌, length, map}
use Rattle.tp_netbook.proofs.Parts.{lines_from}
use Rattle.tp_netbook.proofs.line.lines_of.Given as goal
use Rattle.tp_netbook.specs.Netbook.{planned_of}

abbrev pub invariant-loop-k : goal.invariant-loop-k
invariant-loop-k l = map planned_of l.lines.items ≡ lines_from l.site l.script.plan (length l.script.plan - l.k)
