use Rattle.std.proofs.Common.{◌≡◌, take}
use Rattle.tp_shared.proofs.fetching.parcels_behind.Given as goal
use Rattle.tp_shared.specs.Fetched.{parcels_for}

abbrev pub invariant-loop-behind : goal.invariant-loop-behind
invariant-loop-behind l = l.parcels ≡ parcels_for l.actor l.number (take l.behind l.journal)
