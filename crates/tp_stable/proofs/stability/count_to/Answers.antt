use Rattle.std.proofs.Common.{true, false, sym, ◌∙◌, arith}
use Rattle.tp_topology.specs.Counting.{all_up_to}
use Rattle.tp_topology.specs.Stability.{is_counted}
use Rattle.tp_stable.proofs.Thresholds.{one_rank}
use Rattle.tp_stable.proofs.stability.count_to.Goals as goal
use Rattle.tp_stable.proofs.stability.count_to.Goals.{then-counts_to, else-counts_to}

pub loop-k-preserved : goal.loop-k-preserved
loop-k-preserved c = elim c.if-counts_to.branch [
  | then-counts_to w ↦ record {
    few = omega arith;
    counted = λ told committed is. one_rank (λ rank. all_up_to (is_counted told committed rank) c.args.stamp) c.loop-k.k c.loop-k.count c.if-counts_to.count true (c.loop-k.invariant.counted told committed is) (sym (c.counts_to.ensures told committed is) ∙ w.if-counts_to.true) w.count-is;
  }
  | else-counts_to w ↦ record {
    few = omega arith;
    counted = λ told committed is. one_rank (λ rank. all_up_to (is_counted told committed rank) c.args.stamp) c.loop-k.k c.loop-k.count c.if-counts_to.count false (c.loop-k.invariant.counted told committed is) (sym (c.counts_to.ensures told committed is) ∙ w.if-counts_to.false) w.count-is;
  }
]
