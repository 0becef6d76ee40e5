-- A list of bits: how many are set, where the set bit of a rank stands, and the counts that find it.
use Rattle.std.specs.Prelude.{ℕ, ◌≡◌, ◌+◌, ◌*◌, ◌<◌, ◌≤◌, ◌^◌, zero, suc, Bool, true, false, List, [], ◌∷◌, Option, Some, None, length, option_map, slice_get, take}
use Rattle.tp_bits.specs.declared.bits.Bits.{Bits}
use Rattle.tp_bits.specs.declared.tally.Spot.{Spot}

abbrev pub sum_of : {X : Type 0} → (X → ℕ) → List X → ℕ
sum_of f [] = 0
sum_of f (x ∷ xs) = f x + sum_of f xs

abbrev pub itself : ℕ → ℕ
itself n = n

abbrev pub one : Bool → ℕ
one true = 1
one false = 0

-- how many bits are set
abbrev pub ones : List Bool → ℕ
ones bits = sum_of one bits

abbrev pub next : ℕ → ℕ
next i = suc i

-- the place of the set bit that has so many set bits before it
abbrev pub select : List Bool → ℕ → Option ℕ
select [] rank = None
select (false ∷ bits) rank = option_map next (select bits rank)
select (true ∷ bits) zero = Some 0
select (true ∷ bits) (suc rank) = option_map next (select bits rank)

-- a place is one of a block's, all blocks of one width
abbrev pub IsBlockOf : ℕ → ℕ → ℕ → Type 0
IsBlockOf width place block = (width * block ≤ place) × (place < width * block + width)

-- how many bits are set in each block: before each block as many as before its first place
pub record IsTally (width : ℕ) (bits : List Bool) (counts : List ℕ) : Type 0 where
  pub wide : 0 < width
  pub sums : (i : ℕ) → sum_of itself (take i counts) ≡ ones (take (width * i) bits)
  pub enough : length bits ≤ width * length counts
  pub few : width * length counts < length bits + width

-- the count with the unit of a rank, counted from a block on, and its rank there; none where there are not so many units
abbrev pub IsSpot : List ℕ → ℕ → ℕ → Option Spot → Type 0
IsSpot counts from rank None = sum_of itself counts ≤ sum_of itself (take from counts) + rank
IsSpot counts from rank (Some spot) =
    (sum_of itself (take spot.block counts) + spot.rank ≡ sum_of itself (take from counts) + rank)
    × ((count : ℕ) × (slice_get counts spot.block ≡ Some count) × (spot.rank < count))

-- the bits of a list and its counts: in blocks of 32, in rows of 16 blocks, and in groups of 16 rows
pub record AreCounted (bits : List Bool) (b : Bits) : Type 0 where
  pub items : b.bits.items ≡ bits
  pub short : length bits < 2 ^ 63
  pub blocks : IsTally 32 bits b.blocks.items
  pub rows : IsTally 512 bits b.rows.items
  pub groups : IsTally 8192 bits b.groups.items

-- the bits of a list with their counts, how many are set, and which is the first that is set
pub record AreBits (bits : List Bool) (b : Bits) : Type 0 where
  pub counted : AreCounted bits b
  pub ones : b.ones ≡ ones bits
  pub first : b.first ≡ select bits 0

-- a set bit with none set from a place up to it
abbrev pub IsFirstFrom : List Bool → ℕ → ℕ → Type 0
IsFirstFrom bits from place = (slice_get bits place ≡ Some true) × (ones (take place bits) ≡ ones (take from bits))
