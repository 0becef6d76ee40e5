use Rattle.std.proofs.Common.{arith}
use Rattle.tp_topology.specs.Shape.{majority_size}
use Rattle.tp_topology.specs.Stability.{is_counted}
use Rattle.tp_stable.proofs.Thresholds.{found_more, none_stable, stable_below}
use Rattle.tp_stable.proofs.stability.threshold.Goals as goal

pub loop-k-init : goal.loop-k-init
loop-k-init c = λ told committed is. record {
  stable = none_stable (is_counted told committed) (majority_size c.args.topology.now) c.args.topology.now.replicas (omega arith);
  below = λ k low high. absurd (omega arith);
}

pub loop-k-preserved : goal.loop-k-preserved
loop-k-preserved c = λ told committed is.
    let found = c.loop-k.invariant told committed is in
    found_more (is_counted told committed) (majority_size c.args.topology.now) c.args.topology.now.replicas c.loop-k.top c.higher-top.result c.loop-k.k c.front.result
    found (record { all = c.front.ensures.counted told committed is; next = c.front.ensures.stopped told committed is }) c.higher-top.ensures.rises
    (c.higher-top.ensures.stable told committed is found.stable) (c.higher-top.ensures.low told committed is)

pub returns-clause-greatest : goal.returns-clause-greatest
returns-clause-greatest c = λ told committed stamp is stable.
    stable_below (is_counted told committed) (majority_size c.args.topology.now) c.args.topology.now.replicas c.loop-k.top stamp (omega arith)
    (λ k low high. (c.loop-k.invariant told committed is).below k low (omega arith)) stable
