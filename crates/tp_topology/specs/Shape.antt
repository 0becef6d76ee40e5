-- The shape of the store, and its quorums.
use Rattle.std.specs.Prelude.{ℕ, ◌+◌, ◌-◌, ◌/◌, ◌%◌, ◌≤◌, ◌&&◌, Bool, nat_lt}
use Rattle.tp_base.specs.Limits.{IsFrom, is_from}
use Rattle.tp_base.specs.declared.names.Site.{Site}

-- partitions 1 to `partitions`, ranks 1 to `replicas`, of which `failures` may fail
pub record Shape : Type 0 where
  pub partitions : ℕ
  pub replicas : ℕ
  pub failures : ℕ

pub record IsShape (s : Shape) : Type 0 where
  pub some_partition : 1 ≤ s.partitions
  pub few_partitions : s.partitions ≤ 4
  pub some_replicas : 3 ≤ s.replicas
  pub few_replicas : s.replicas ≤ 7
  pub some_failure : 1 ≤ s.failures
  pub minority : s.failures ≤ (s.replicas - 1) / 2

-- a site in the shape
abbrev pub IsSiteOf : Shape → Site → Type 0
IsSiteOf shape site = IsFrom 1 shape.partitions site.partition.0 × IsFrom 1 shape.replicas site.rank.0

-- the test for it
abbrev pub is_site_of : Shape → Site → Bool
is_site_of shape site = is_from 1 shape.partitions site.partition.0 && is_from 1 shape.replicas site.rank.0

abbrev pub fast_size : Shape → ℕ
fast_size s = s.replicas / 2 + s.failures

abbrev pub slow_size : Shape → ℕ
slow_size s = s.failures + 1

abbrev pub recovery_size : Shape → ℕ
recovery_size s = s.replicas - s.failures

abbrev pub majority_size : Shape → ℕ
majority_size s = s.replicas / 2 + 1

-- whether a rank is among the first `fast_size` ranks of home, home + 1, .., round 1 to `replicas`
abbrev pub in_ring : Shape → ℕ → ℕ → Bool
in_ring s home rank = nat_lt ((rank + s.replicas - home) % s.replicas) (fast_size s)
