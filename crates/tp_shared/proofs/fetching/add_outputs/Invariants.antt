use Rattle.std.proofs.Common.{◌≡◌, ◌++◌, filter, take}
use Rattle.tp_rules.specs.Journal.{numbered}
use Rattle.tp_shared.proofs.fetching.add_outputs.Given as goal
use Rattle.tp_shared.specs.Fetched.{is_for}

abbrev pub invariant-loop-place : goal.invariant-loop-place
invariant-loop-place l = l.parcels ≡ l.fn.parcels ++ filter (is_for l.actor) (numbered l.entry 1 (take l.place l.outputs))
