use Rattle.std.proofs.Common.{◌≡◌, ◌-◌}
use Rattle.std.specs.List.{flat_map}
use Rattle.std.specs.Prelude.{filter, not}
use Rattle.tp_base.specs.Names.{same_name}
use Rattle.tp_base.specs.declared.names.ActorName.TheVariants.{Process}
use Rattle.tp_ops.specs.Parts.{is_accessed}
use Rattle.tp_rules.specs.Addresses.{processes_of}
use Rattle.tp_topology.specs.Counting.{up_to}
use Rattle.tp_process.proofs.addresses.other_processes.Given as goal

abbrev pub invariant-loop-number : goal.invariant-loop-number
invariant-loop-number l =
    l.names ≡ filter (λ to. not (same_name to (Process l.place.site)))
    (flat_map (processes_of l.place.topology) (filter (is_accessed l.place.topology.partitions l.command) (up_to (l.number - 1))))
