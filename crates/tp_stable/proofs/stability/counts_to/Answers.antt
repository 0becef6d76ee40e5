use Rattle.std.proofs.Common.{sym}
use Rattle.tp_stable.proofs.Thresholds.{front_says}
use Rattle.tp_topology.specs.Stability.{is_counted}
use Rattle.tp_stable.proofs.stability.counts_to.Goals as goal

pub returns : goal.returns
returns c = λ told committed is. sym (front_says (is_counted told committed c.args.rank.0) c.front.result c.args.stamp (record { all = c.front.ensures.counted told committed is; next = c.front.ensures.stopped told committed is }))
