use Rattle.std.proofs.Common.{◌≡◌, ◌++◌, ◌-◌, map}
use Rattle.tp_netbook.proofs.roster.add_sites.Given as goal
use Rattle.tp_rules.specs.Addresses.{site}
use Rattle.tp_topology.specs.Counting.{up_to}

abbrev pub invariant-loop-rank : goal.invariant-loop-rank
invariant-loop-rank l = l.sites.items ≡ l.fn.sites.items ++ map (site l.partition.0) (up_to (l.rank - 1))
