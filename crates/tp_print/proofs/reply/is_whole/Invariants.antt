use Rattle.std.proofs.Common.{◌≡◌, is_some}
use Rattle.std.specs.Prelude.{filter}
use Rattle.std.specs.List.{list_all}
use Rattle.tp_base.specs.Tables.{kept_at}
use Rattle.tp_ops.specs.Parts.{is_accessed}
use Rattle.tp_topology.specs.Counting.{up_to}
use Rattle.tp_print.proofs.reply.is_whole.Given as goal

abbrev pub invariant-loop-i : goal.invariant-loop-i
invariant-loop-i l = l.whole ≡ list_all (λ q. is_some (kept_at l.first q))
    (filter (is_accessed l.topology.partitions l.command) (up_to l.i))
