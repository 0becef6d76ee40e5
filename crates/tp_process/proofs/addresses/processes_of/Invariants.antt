use Rattle.std.proofs.Common.{◌≡◌, ◌-◌, map}
use Rattle.tp_base.specs.declared.names.ActorName.TheVariants.{Process}
use Rattle.tp_rules.specs.Addresses.{site}
use Rattle.tp_topology.specs.Counting.{up_to}
use Rattle.tp_process.proofs.addresses.processes_of.Given as goal

abbrev pub invariant-loop-rank : goal.invariant-loop-rank
invariant-loop-rank l = l.names ≡ map (λ rank. Process (site l.partition.0 rank)) (up_to (l.rank - 1))
