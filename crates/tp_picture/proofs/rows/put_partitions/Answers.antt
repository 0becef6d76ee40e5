use Rattle.std.proofs.Common.{◌++◌}
use Rattle.std.specs.List.{flat_map}
use Rattle.tp_base.specs.declared.names.ActorName.TheVariants.{Process, Executor}
use Rattle.tp_picture.proofs.Growing.{number_more}
use Rattle.tp_picture.specs.Scenes.{chosen}
use Rattle.tp_rules.specs.Addresses.{site}
use Rattle.tp_topology.specs.Counting.{up_to}
use Rattle.tp_picture.proofs.rows.put_partitions.Goals as goal

pub loop-i-preserved : goal.loop-i-preserved
loop-i-preserved c =
    number_more
    (λ p. flat_map (λ k. chosen c.args.view.now (Process (site p k))) (up_to c.args.replicas)
    ++ flat_map (λ k. chosen c.args.view.now (Executor (site p k))) (up_to c.args.replicas))
    c.args.rows.now.items c.loop-i.rows.items c.put_partition.new.rows.items c.loop-i.i c.loop-i.invariant c.in_ok-put_partition.ensures
