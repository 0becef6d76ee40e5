use Rattle.std.proofs.Common.{◌≡◌, ◌-◌, map}
use Rattle.tp_gen.proofs.generator.picks.Given as goal
use Rattle.tp_gen.specs.Generator.{pick}
use Rattle.tp_topology.specs.Counting.{up_to}

abbrev pub invariant-loop-j : goal.invariant-loop-j
invariant-loop-j l = l.picks ≡ map (pick l.n) (up_to (l.j - 1))
