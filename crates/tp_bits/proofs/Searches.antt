-- The set bit of a rank, looked for in the groups, then in the rows, then in the blocks, then among the bits.
use Rattle.std.proofs.Common.{◌≡◌, ℕ, ◌+◌, ◌-◌, ◌*◌, ◌/◌, ◌<◌, ◌^◌, Bool, true, false, List, length, take, Option, Some, None, refl, sym, ap, ◌∙◌, arith}
use Rattle.std.proofs.lemmas.Option.{slice_get_within}
use Rattle.std.specs.Prelude.{min, not}
use mathlib.Core.Bool.{beq}
use Rattle.tp_bits.proofs.Selected.{select_none}
use Rattle.tp_bits.proofs.Tallies.{block_first, sum_is}
use Rattle.tp_bits.specs.Bits.{AreCounted, IsBlockOf, IsSpot, IsTally, itself, ones, select, sum_of}
use Rattle.tp_bits.specs.declared.bits.Bits.{Bits}
use Rattle.tp_bits.specs.declared.tally.Spot.{Spot}

pub in_block : (place : ℕ) → IsBlockOf 32 place (place / 32)
in_block place = (omega arith, omega arith)

pub in_row : (place : ℕ) → IsBlockOf 512 place (place / 512)
in_row place = (omega arith, omega arith)

pub in_group : (place : ℕ) → IsBlockOf 8192 place (place / 8192)
in_group place = (omega arith, omega arith)

pub same_bit : (old bit : Bool) → beq old bit ≡ true → old ≡ bit
same_bit true true e = refl
same_bit true false e = absurd cc
same_bit false true e = absurd cc
same_bit false false e = refl

pub other_bit : (old bit : Bool) → beq old bit ≡ false → old ≡ not bit
other_bit true true e = absurd cc
other_bit true false e = refl
other_bit false true e = refl
other_bit false false e = absurd cc

-- a rank looked for in the counts of one width, from a block on: from there so many more bits are set before it
module _ (w : ℕ) (bits : List Bool) (counts : List ℕ) (is : IsTally w bits counts) (from rank all : ℕ) (start : ones (take (w * from) bits) + rank ≡ all) where
  pub not_there : IsSpot counts from rank None → select bits all ≡ None
  not_there past = select_none bits all (omega (arith, past, is.sums from, start, sum_is w bits counts is))

  -- and then from the first bit of the block that is found
  pub there : length bits < 2 ^ 63 → (spot : Spot) → IsSpot counts from rank (Some spot) → (place : ℕ) → (w * spot.block < 2 ^ 63 → place ≡ w * spot.block)
      → ones (take place bits) + spot.rank ≡ all
  there short spot found place is_first =
      let inside : w * spot.block < length bits = block_first w bits counts is spot.block (slice_get_within counts spot.block found.1.0 found.1.1) in
      let same : ones (take place bits) ≡ sum_of itself (take spot.block counts) =
      ap (λ (n : ℕ). ones (take n bits)) (is_first (omega (arith, inside, short))) ∙ sym (is.sums spot.block) in
      omega (arith, same, found.0, is.sums from, start)

module _ (bits : List Bool) (b : Bits) (are : AreCounted bits b) (from : ℕ) (none : ones (take (8192 * from) bits) ≡ 0) (rank : ℕ) where
  in_groups : ones (take (8192 * from) bits) + rank ≡ rank
  in_groups = omega (arith, none)

  pub no_group : IsSpot b.groups.items from rank None → select bits rank ≡ None
  no_group = not_there 8192 bits b.groups.items are.groups from rank rank in_groups

  module _ (group : Spot) (found : IsSpot b.groups.items from rank (Some group)) (first : ℕ) (is_first : first ≡ min (group.block * 16) (2 ^ 64 - 1)) where
    in_rows : ones (take (512 * first) bits) + group.rank ≡ rank
    in_rows = there 8192 bits b.groups.items are.groups from rank rank in_groups are.short group found (512 * first) (λ lt. omega (arith, lt, is_first))

    pub no_row : IsSpot b.rows.items first group.rank None → select bits rank ≡ None
    no_row = not_there 512 bits b.rows.items are.rows first group.rank rank in_rows

    module _ (row : Spot) (within : IsSpot b.rows.items first group.rank (Some row)) (next : ℕ) (is_next : next ≡ min (row.block * 16) (2 ^ 64 - 1)) where
      in_blocks : ones (take (32 * next) bits) + row.rank ≡ rank
      in_blocks = there 512 bits b.rows.items are.rows first group.rank rank in_rows are.short row within (32 * next) (λ lt. omega (arith, lt, is_next))

      pub no_block : IsSpot b.blocks.items next row.rank None → select bits rank ≡ None
      no_block = not_there 32 bits b.blocks.items are.blocks next row.rank rank in_blocks

      pub bit_there : (block : Spot) → IsSpot b.blocks.items next row.rank (Some block) → (place : ℕ) → place ≡ min (block.block * 32) (2 ^ 64 - 1)
          → (o : Option ℕ) → o ≡ select b.bits.items (ones (take place b.bits.items) + block.rank) → o ≡ select bits rank
      bit_there block at place is_place o is =
          let all : ones (take place bits) + block.rank ≡ rank =
          there 32 bits b.blocks.items are.blocks next row.rank rank in_blocks are.short block at place (λ lt. omega (arith, lt, is_place)) in
          is ∙ ap (λ (l : List Bool). select l (ones (take place l) + block.rank)) are.items ∙ ap (select bits) all
