use Rattle.std.proofs.Common.{◌≡◌, ◌-◌, map}
use Rattle.std.specs.Prelude.{◌==◌, filter, not}
use Rattle.tp_base.specs.declared.names.ActorName.TheVariants.{Process}
use Rattle.tp_ops.specs.Parts.{is_accessed}
use Rattle.tp_rules.specs.Addresses.{site}
use Rattle.tp_topology.specs.Counting.{up_to}
use Rattle.tp_process.proofs.addresses.counterparts.Given as goal

abbrev pub invariant-loop-number : goal.invariant-loop-number
invariant-loop-number l =
    l.names ≡ map (λ q. Process (site q l.place.site.rank.0))
    (filter (λ q. not (q == l.place.site.partition.0)) (filter (is_accessed l.place.topology.partitions l.command) (up_to (l.number - 1))))
