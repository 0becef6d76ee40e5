use Rattle.std.proofs.Common.{◌≡◌, ◌-◌}
use Rattle.std.specs.List.{flat_map}
use Rattle.tp_netbook.proofs.roster.sites_of.Given as goal
use Rattle.tp_rules.specs.Journal.{ranks_of}
use Rattle.tp_topology.specs.Counting.{up_to}

abbrev pub invariant-loop-p : goal.invariant-loop-p
invariant-loop-p l = l.sites.items ≡ flat_map (ranks_of l.script) (up_to (l.p - 1))
