use Rattle.std.proofs.Common.{◌≡◌, ◌++◌, ◌-◌, length, map, take}
use Rattle.tp_base.specs.declared.names.ActorName.TheVariants.{Process, Executor, Session}
use Rattle.tp_netbook.proofs.roster.roster.Given as goal
use Rattle.tp_topology.specs.Counting.{up_to}

abbrev pub invariant-loop-s : goal.invariant-loop-s
invariant-loop-s l = l.roster.items ≡ map (λ s. Session (record { 0 = s })) (up_to (l.s - 1))

abbrev pub invariant-loop-site : goal.invariant-loop-site
invariant-loop-site l = l.roster.items ≡ map (λ s. Session (record { 0 = s })) (up_to (length l.script.homes)) ++ map (λ s. Process s) (take l.site-index l.sites)

abbrev pub invariant-loop-site-2 : goal.invariant-loop-site-2
invariant-loop-site-2 l = l.roster.items ≡ map (λ s. Session (record { 0 = s })) (up_to (length l.script.homes)) ++ map (λ s. Process s) l.sites ++ map (λ s. Executor s) (take l.site-index l.sites)
