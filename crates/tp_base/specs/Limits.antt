-- The ranges of names and of stamps.
use Rattle.std.specs.Prelude.{ℕ, ◌^◌, ◌≤◌, ◌&&◌, nat_le, Bool}
use Rattle.tp_base.specs.declared.names.CommandId.{CommandId}
use Rattle.tp_base.specs.declared.names.SessionId.{SessionId}
use Rattle.tp_base.specs.declared.names.Site.{Site}

-- stamps and ballots stay below this
abbrev pub STAMP_LIMIT : ℕ
STAMP_LIMIT = 2 ^ 48

-- from low to high
abbrev pub IsFrom : ℕ → ℕ → ℕ → Type 0
IsFrom low high n = (low ≤ n) × (n ≤ high)

-- the test for it
abbrev pub is_from : ℕ → ℕ → ℕ → Bool
is_from low high n = nat_le low n && nat_le n high

abbrev pub IsSite : Site → Type 0
IsSite site = IsFrom 1 4 site.partition.0 × IsFrom 1 7 site.rank.0

abbrev pub IsSession : SessionId → Type 0
IsSession session = IsFrom 1 16 session.0

abbrev pub IsId : CommandId → Type 0
IsId id = IsSession id.session × IsFrom 1 1000 id.number
