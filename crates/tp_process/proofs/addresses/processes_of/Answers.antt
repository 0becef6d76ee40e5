use Rattle.std.proofs.Common.{◌≡◌, ◌-◌, arith}
use Rattle.tp_process.proofs.Rows.{each-next}
use Rattle.tp_process.proofs.addresses.processes_of.Goals as goal

pub loop-rank-preserved : goal.loop-rank-preserved
loop-rank-preserved c = each-next _ _ _ _ c.loop-rank.auto.rank c.loop-rank.invariant c.in_ok-add.ensures.added

pub returns : goal.returns
returns c = let all : c.loop-rank.rank - 1 ≡ c.args.topology.now.replicas = omega arith in rw all at c.loop-rank.invariant
