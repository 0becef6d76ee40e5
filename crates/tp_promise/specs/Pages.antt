-- What is kept of the promises that one rank told.
use Rattle.std.specs.Prelude.{◌≡◌, ◌≤◌, ◌<◌, ◌⊎◌, ◌↔◌, ℕ, ◌+◌, ◌==◌, ◌&&◌, ◌||◌, nat_lt, nat_le, not, Bool, true, false, List, [], ◌∷◌, Some, is_some}
use Rattle.tp_base.specs.declared.names.CommandId.{CommandId}
use Rattle.tp_base.specs.declared.names.Pair.{Pair}
use Rattle.tp_base.specs.Lists.{Ascends, Each, IsIn, has}
use Rattle.tp_base.specs.Names.{same_id}
use Rattle.tp_promise.specs.declared.ranges.Range.{Range}
use Rattle.tp_topology.specs.Stability.{Telling, is_counted, told_as}

-- whether a number is above `lo` and at most `hi`
abbrev pub in_range : Range → ℕ → Bool
in_range range n = nat_lt range.lo n && nat_le n range.hi

abbrev pub in_ranges : List Range → ℕ → Bool
in_ranges [] n = false
in_ranges (range ∷ ranges) n = in_range range n || in_ranges ranges n

-- whether a number is attached to some command
abbrev pub is_attached : List Pair → ℕ → Bool
is_attached [] n = false
is_attached (pair ∷ pairs) n = (pair.stamp.0 == n) || is_attached pairs n

-- each number up to the front is counted. Of those above it the ones in the ranges were told, and the attached ones wait for a commit
pub record Page : Type 0 where
  pub front : ℕ
  pub ranges : List Range
  pub attached : List Pair

-- the number after the front is in none of the ranges, or is attached
abbrev pub IsStopped : List Range → List Pair → ℕ → Type 0
IsStopped ranges attached front = (in_ranges ranges (front + 1) ≡ false) ⊎ (is_attached attached (front + 1) ≡ true)

-- the ranges are in order, and none overlaps or adjoins the next
pub record AreApart (ranges : List Range) : Type 0 where
  pub ascending : Ascends (λ a b. nat_lt a.hi b.lo) ranges
  pub some : Each (λ r. r.lo < r.hi) ranges

-- what each page keeps to
pub record IsKept (ranges : List Range) (attached : List Pair) (front : ℕ) : Type 0 where
  pub apart : AreApart ranges
  pub stopped : IsStopped ranges attached front

-- a telling's attached promises are of its numbers, in order
pub record AreTold (lo hi : ℕ) (pairs : List Pair) : Type 0 where
  pub ascending : Ascends (λ a b. nat_lt a.stamp.0 b.stamp.0) pairs
  pub within : Each (λ p. (lo < p.stamp.0) × (p.stamp.0 ≤ hi)) pairs

-- the page has what was told of a rank, with these commands committed
pub record IsPage (page : Page) (told : List Telling) (committed : List CommandId) (rank : ℕ) : Type 0 where
  pub below : (n : ℕ) → 1 ≤ n → n ≤ page.front → is_counted told committed rank n ≡ true
  pub above : (n : ℕ) → page.front < n → in_ranges page.ranges n ≡ is_some (told_as told rank n)
  pub waiting : (n : ℕ) (id : CommandId) → page.front < n
      → IsIn (record { id = id; stamp = record { 0 = n } }) page.attached ↔ ((told_as told rank n ≡ Some (Some id)) × (has same_id id committed ≡ false))

-- an attached promise that waits: it was not told before, and its command isn't committed
abbrev pub waits : ℕ → List Range → List CommandId → Pair → Bool
waits front ranges committed pair = nat_lt front pair.stamp.0 && not (in_ranges ranges pair.stamp.0) && not (has same_id pair.id committed)

-- from a front one comes to another past told numbers that are not attached, and no further
pub record Advances (ranges : List Range) (attached : List Pair) (from front : ℕ) : Type 0 where
  pub later : from ≤ front
  pub passed : (n : ℕ) → from < n → n ≤ front → (in_ranges ranges n ≡ true) × (is_attached attached n ≡ false)
