-- Ballots: those up to the number of replicas are the first coordinators', the others are dealt out round the ranks.
use Rattle.std.specs.Prelude.{ℕ, ◌+◌, ◌-◌, ◌%◌, max}
use Rattle.tp_topology.specs.Shape.{Shape}

-- the rank that a ballot belongs to
abbrev pub owner : Shape → ℕ → ℕ
owner s ballot = (ballot - 1) % s.replicas + 1

-- the first ballot from `from` on that belongs to a rank
abbrev pub first_ballot : Shape → ℕ → ℕ → ℕ
first_ballot s rank from = from + (rank + s.replicas - owner s from) % s.replicas

-- the least ballot of a rank that is above `replicas`, `own` and `tried`
abbrev pub next_ballot : Shape → ℕ → ℕ → ℕ → ℕ
next_ballot s rank own tried = first_ballot s rank (max s.replicas (max own tried) + 1)
