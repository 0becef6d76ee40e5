use Rattle.tp_netbook.proofs.Rosters.{next_of}
use Rattle.tp_netbook.proofs.roster.add_sites.Goals as goal
use Rattle.tp_rules.specs.Addresses.{site}

pub loop-rank-preserved : goal.loop-rank-preserved
loop-rank-preserved c =
    next_of (site c.args.partition.0) c.args.sites.now.items c.loop-rank.sites.items c.push.new.self.items c.loop-rank.rank c.loop-rank.auto.rank c.loop-rank.invariant c.in_ok-push.ensures.items
