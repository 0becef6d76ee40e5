use Rattle.std.proofs.Common.{◌≡◌, ◌-◌, ℕ, ap, ◌∙◌, arith}
use Rattle.std.specs.List.{flat_map}
use Rattle.tp_netbook.proofs.Rosters.{next_row}
use Rattle.tp_netbook.proofs.roster.sites_of.Goals as goal
use Rattle.tp_rules.specs.Journal.{ranks_of}
use Rattle.tp_topology.specs.Counting.{up_to}

pub loop-p-preserved : goal.loop-p-preserved
loop-p-preserved c =
    next_row c.args.script.now c.loop-p.sites.items c.add_sites.new.sites.items c.loop-p.p c.loop-p.auto.p c.loop-p.invariant c.in_ok-add_sites.ensures

pub returns : goal.returns
returns c =
    let last : c.loop-p.p - 1 ≡ c.args.script.now.topology.partitions = omega (arith, c.loop-p-test.false, c.loop-p.auto.p-end, c.partitions-p-end.ensures.value) in
    c.loop-p.invariant ∙ ap (λ (n : ℕ). flat_map (ranks_of c.args.script.now) (up_to n)) last
