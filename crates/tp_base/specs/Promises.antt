use Rattle.std.specs.Prelude.{◌≡◌, ◌≤◌, ◌<◌, ◌⊎◌, ℕ, ◌+◌, max, Option, Some, None}
use Rattle.tp_base.specs.declared.names.CommandId.{CommandId}

-- the stamp of a proposal, at least the floor and above the clock. It becomes the clock
abbrev pub proposed_stamp : ℕ → ℕ → ℕ
proposed_stamp floor clock = max floor (clock + 1)

-- the clock that has gone on to t, where it was not there yet
abbrev pub bumped_clock : ℕ → ℕ → ℕ
bumped_clock t clock = max t clock

-- a proposal for a command promises its stamp to that command, and to none what lies between the clock and the stamp
abbrev pub IsMadeByProposal : ℕ → ℕ → CommandId → ℕ → Option CommandId → Type 0
IsMadeByProposal floor clock id n owner =
    ((n ≡ proposed_stamp floor clock) × (owner ≡ Some id)) ⊎ ((clock < n) × (n < proposed_stamp floor clock) × (owner ≡ None))

-- a bump to t promises to none each number above the clock up to t
abbrev pub IsMadeByBump : ℕ → ℕ → ℕ → Option CommandId → Type 0
IsMadeByBump t clock n owner = (clock < n) × (n ≤ t) × (owner ≡ None)
