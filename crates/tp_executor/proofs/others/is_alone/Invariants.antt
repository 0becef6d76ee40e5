use Rattle.std.proofs.Common.{◌≡◌, [], not}
use Rattle.std.specs.Prelude.{◌==◌, filter}
use Rattle.tp_ops.specs.Parts.{is_accessed}
use Rattle.tp_topology.specs.Counting.{up_to}
use Rattle.tp_executor.proofs.others.is_alone.Given as goal

abbrev pub invariant-loop-i : goal.invariant-loop-i
invariant-loop-i l = filter (λ q. not (q == l.p.0)) (filter (is_accessed l.topology.partitions l.command) (up_to l.i)) ≡ []
