-- Which promises count at an executor, and which stamps are stable there.
use Rattle.std.specs.Prelude.{ℕ, ◌==◌, ◌&&◌, nat_lt, nat_le, Bool, true, false, cond, List, [], ◌∷◌, Option, Some, None}
use Rattle.tp_base.specs.declared.names.CommandId.{CommandId}
use Rattle.tp_base.specs.declared.names.Pair.{Pair}
use Rattle.tp_base.specs.Names.{same_id}
use Rattle.tp_base.specs.Lists.{has}
use Rattle.tp_topology.specs.Counting.{count_up_to, all_up_to}
use Rattle.tp_topology.specs.Shape.{Shape, majority_size}

-- what a process of this rank told: its promises above `lo` up to `hi`, of which these are attached
pub record Telling : Type 0 where
  pub rank : ℕ
  pub lo : ℕ
  pub hi : ℕ
  pub attached : List Pair

-- the command that a number is attached to, or none
abbrev pub attached_to : List Pair → ℕ → Option CommandId
attached_to [] n = None
attached_to (pair ∷ pairs) n = cond (pair.stamp.0 == n) (Some pair.id) (attached_to pairs n)

-- what one telling says of a rank's number: nothing, or the command that it is attached to, if any
abbrev pub told_by : Telling → ℕ → ℕ → Option (Option CommandId)
told_by t rank n = cond ((t.rank == rank) && nat_lt t.lo n && nat_le n t.hi) (Some (attached_to t.attached n)) None

abbrev pub first_of_both : Option (Option CommandId) → Option (Option CommandId) → Option (Option CommandId)
first_of_both None later = later
first_of_both (Some owner) later = Some owner

-- what was said first of a rank's number; the newest telling stands first
abbrev pub told_as : List Telling → ℕ → ℕ → Option (Option CommandId)
told_as [] rank n = None
told_as (t ∷ earlier) rank n = first_of_both (told_as earlier rank n) (told_by t rank n)

-- a promise that was told counts where it is detached, or its command is committed
abbrev pub counts : List CommandId → Option (Option CommandId) → Bool
counts committed None = false
counts committed (Some None) = true
counts committed (Some (Some id)) = has same_id id committed

abbrev pub is_counted : List Telling → List CommandId → ℕ → ℕ → Bool
is_counted told committed rank n = counts committed (told_as told rank n)

-- a stamp is stable where for some majority of ranks each number up to it is counted
abbrev pub is_stable : Shape → List Telling → List CommandId → ℕ → Bool
is_stable shape told committed stamp =
    nat_le (majority_size shape) (count_up_to (λ rank. all_up_to (is_counted told committed rank) stamp) shape.replicas)
