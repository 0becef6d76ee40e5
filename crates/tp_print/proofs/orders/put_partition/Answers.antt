use Rattle.std.proofs.Common.{◌≡◌, arith}
use Rattle.tp_print.proofs.Lines.{count_more, count_whole}
use Rattle.tp_print.specs.Report.{order_line}
use Rattle.tp_rules.specs.Addresses.{site}
use Rattle.tp_print.proofs.orders.put_partition.Goals as goal

pub loop-i-preserved : goal.loop-i-preserved
loop-i-preserved c = λ older h.
    count_more (λ k. order_line older (site c.args.partition.0 k)) c.args.out.now c.loop-i.out c.put_order.new.out
    c.loop-i.i
    (c.loop-i.invariant older h) (c.in_ok-put_order.ensures older h)

pub returns : goal.returns
returns c = λ older h.
    let all : c.loop-i.i ≡ c.args.topology.now.replicas = omega (arith, c.replicas-i-end.ensures.value) in
    count_whole (λ k. order_line older (site c.args.partition.0 k)) c.args.out.now c.loop-i.out c.loop-i.i
    c.args.topology.now.replicas all (c.loop-i.invariant older h)
