use Rattle.std.proofs.Common.{◌≡◌, ◌++◌}
use Rattle.std.specs.List.{flat_map}
use Rattle.tp_base.specs.declared.names.ActorName.TheVariants.{Process, Executor}
use Rattle.tp_rules.specs.Addresses.{site}
use Rattle.tp_picture.specs.Scenes.{chosen}
use Rattle.tp_topology.specs.Counting.{up_to}
use Rattle.tp_picture.proofs.rows.put_partitions.Given as goal

abbrev pub invariant-loop-i : goal.invariant-loop-i
invariant-loop-i l = l.rows.items ≡ l.initial.rows.items ++ flat_map (λ p. flat_map (λ k. chosen l.view (Process (site p k))) (up_to l.replicas) ++ flat_map (λ k. chosen l.view (Executor (site p k))) (up_to l.replicas)) (up_to l.i)
