use Rattle.std.proofs.Common.{◌≡◌, ◌++◌, List}
use Rattle.std.specs.List.{flat_map}
use Rattle.tp_print.specs.Recorded.{AreRecorded}
use Rattle.tp_rules.specs.declared.event.Entry.{Entry}
use Rattle.tp_print.specs.Summary.{executed_line}
use Rattle.tp_rules.specs.Addresses.{site}
use Rattle.tp_topology.specs.Counting.{up_to}
use Rattle.tp_print.proofs.executions.put_partition_counts.Given as goal

abbrev pub invariant-loop-i : goal.invariant-loop-i
invariant-loop-i l = (older : List Entry) → AreRecorded older l.sites
    → l.out ≡ l.initial.out ++ flat_map (λ k. executed_line older (site l.partition.0 k)) (up_to l.i)
