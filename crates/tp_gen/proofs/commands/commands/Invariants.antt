use Rattle.std.proofs.Common.{◌≡◌, ◌-◌, map}
use Rattle.tp_gen.proofs.commands.commands.Given as goal
use Rattle.tp_gen.specs.Generator.{command}
use Rattle.tp_topology.specs.Counting.{up_to}

abbrev pub invariant-loop-i : goal.invariant-loop-i
invariant-loop-i l = l.commands ≡ map (command l.n) (up_to (l.i - 1))
