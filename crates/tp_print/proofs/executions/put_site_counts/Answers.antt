use Rattle.std.proofs.Common.{◌≡◌, arith}
use Rattle.std.specs.List.{flat_map}
use Rattle.tp_print.proofs.Lines.{count_more, count_whole}
use Rattle.tp_print.specs.Summary.{executed_line}
use Rattle.tp_rules.specs.Addresses.{site}
use Rattle.tp_topology.specs.Counting.{up_to}
use Rattle.tp_print.proofs.executions.put_site_counts.Goals as goal

pub loop-i-preserved : goal.loop-i-preserved
loop-i-preserved c = λ older h.
    count_more (λ p. flat_map (λ k. executed_line older (site p k)) (up_to c.args.topology.now.replicas))
    c.args.out.now c.loop-i.out c.put_partition_counts.new.out c.loop-i.i (c.loop-i.invariant older h)
    (c.in_ok-put_partition_counts.ensures older h)

pub returns : goal.returns
returns c = λ older h.
    let all : c.loop-i.i ≡ c.args.topology.now.partitions = omega (arith, c.partitions-i-end.ensures.value) in
    count_whole (λ p. flat_map (λ k. executed_line older (site p k)) (up_to c.args.topology.now.replicas))
    c.args.out.now c.loop-i.out c.loop-i.i c.args.topology.now.partitions all (c.loop-i.invariant older h)
