-- Counts of bits by blocks, after one more bit and after one that is turned.
use Rattle.std.proofs.Common.{◌≡◌, ℕ, suc, ◌+◌, ◌-◌, ◌*◌, ◌<◌, ◌≤◌, ◌^◌, inl, inr, Bool, true, false, List, [], ◌∷◌, ◌++◌, length, set, take, Some, sym, ap, subst, ◌∙◌, arith}
use Rattle.std.proofs.Math.Nat.{mul-le-mul_left}
use Rattle.std.proofs.lemmas.Bool.{cases_lt}
use Rattle.std.proofs.lemmas.List.{length-append, length-set}
use Rattle.std.specs.Prelude.{min, not, slice_get}
use Rattle.tp_bits.proofs.Sums.{ones_few, sum_all, sum_front, sum_fronts, sum_next, sum_push_after, sum_push_before, sum_set_after, sum_set_before, written_back}
use Rattle.tp_bits.specs.Bits.{IsBlockOf, IsTally, itself, one, ones, sum_of}

-- all blocks before another end before it
before : (w i j : ℕ) → i < j → w * i + w ≤ w * j
before w i j lt =
    let le : w * (i + 1) ≤ w * j = mul-le-mul_left w (omega arith) in
    let same : w * (i + 1) ≡ w * i + w = grind arith in
    omega (arith, le, same)

up_to : (w i j : ℕ) → i ≤ j → w * i ≤ w * j
up_to w i j le = mul-le-mul_left w le

-- counts are written back over others of the same number
pub counts_back : (w : ℕ) (bits : List Bool) (counts others : List ℕ) (n : ℕ) → n ≡ length counts → IsTally w bits counts → IsTally w bits (take n (counts ++ others))
counts_back w bits counts others n long = subst (IsTally w bits) (sym (written_back counts others n long))

module _ (w : ℕ) (bits : List Bool) (counts : List ℕ) (is : IsTally w bits counts) where
  pub sum_is : sum_of itself counts ≡ ones bits
  sum_is =
      sym (sum_all itself counts (length counts) (omega arith)) ∙ is.sums (length counts) ∙ sum_all one bits (w * length counts) is.enough

  -- a count is of bits
  pub count_few : (block count : ℕ) → slice_get counts block ≡ Some count → count ≤ length bits
  count_few block count at = omega (arith, sum_next itself counts block count at, sum_front itself counts (suc block), sum_is, ones_few bits)

  -- a block of a place that is there
  pub block_there : (place block : ℕ) → IsBlockOf w place block → place < length bits → block < length counts
  block_there place block of lt = elim (cases_lt block (length counts)) [
    | inl there ↦ there
    | inr past ↦ absurd (omega (arith, up_to w (length counts) block past, is.enough, of.0, lt))
  ]

  -- its first bit is one of the list
  pub block_first : (block : ℕ) → block < length counts → w * block < length bits
  block_first block lt = omega (arith, before w block (length counts) lt, is.few)

  pub turned : (place block count count' : ℕ) (old bit : Bool) → IsBlockOf w place block → slice_get bits place ≡ Some old → slice_get counts block ≡ Some count
      → count' + one old ≡ count + one bit → IsTally w (set bits place bit) (set counts block count')
  turned place block count count' old bit of at there changed = record {
    wide = is.wide;
    sums = sums;
    enough = omega (arith, is.enough, length-set bits place bit, length-set counts block count', same);
    few = omega (arith, is.few, length-set bits place bit, same);
  }
    where
      same : w * length (set counts block count') ≡ w * length counts
      same = ap (λ (n : ℕ). w * n) (length-set counts block count')

      sums : (i : ℕ) → sum_of itself (take i (set counts block count')) ≡ ones (take (w * i) (set bits place bit))
      sums i = elim (cases_lt block i) [
        | inl after ↦
            let past : place < w * i = omega (arith, before w block i after, of.1) in
            omega (arith, sum_set_after itself counts i block count' count there after, sum_set_after one bits (w * i) place bit old at past, is.sums i, changed)
        | inr until ↦
            sum_set_before itself counts i block count' until ∙ is.sums i
            ∙ sym (sum_set_before one bits (w * i) place bit (omega (arith, up_to w i block until, of.0)))
      ]

  -- as the code counts it: up by the new bit, down by the old one
  pub turned_to : (place block count up down : ℕ) (bit : Bool) → IsBlockOf w place block → slice_get bits place ≡ Some (not bit) → slice_get counts block ≡ Some count
      → length bits < 2 ^ 63 → up ≡ min (count + one bit) (2 ^ 64 - 1) → down ≡ up - one (not bit) → IsTally w (set bits place bit) (set counts block down)
  turned_to place block count up down bit of at there short is_up is_down = turned place block count down (not bit) bit of at there (by bit at is_up is_down)
    where
      some : slice_get bits place ≡ Some true → 1 ≤ count
      some set_now =
          let first : sum_of itself (take (suc block) counts) ≡ sum_of itself (take block counts) + count = sum_next itself counts block count there in
          let last : ones (take (suc place) bits) ≡ ones (take place bits) + 1 = sum_next one bits place true set_now in
          let after : suc place ≤ w * suc block = (let more : w * suc block ≡ w * block + w = grind arith in omega (arith, more, of.1)) in
          omega (arith, first, last, is.sums block, is.sums (suc block), sum_fronts one bits (suc place) (w * suc block) after, sum_fronts one bits (w * block) place of.0)

      by : (b : Bool) → slice_get bits place ≡ Some (not b) → up ≡ min (count + one b) (2 ^ 64 - 1) → down ≡ up - one (not b) → down + one (not b) ≡ count + one b
      by true now is_up is_down = omega (arith, is_up, is_down, count_few block count there, short)
      by false now is_up is_down = omega (arith, is_up, is_down, some now, count_few block count there, short)

  -- one more bit, in a block that is there
  pub more_there : (block count count' : ℕ) (bit : Bool) → IsBlockOf w (length bits) block → slice_get counts block ≡ Some count → block < length counts
      → count' ≡ count + one bit → IsTally w (bits ++ bit ∷ []) (set counts block count')
  more_there block count count' bit of there lt changed = record {
    wide = is.wide;
    sums = sums;
    enough = omega (arith, length-append bits (bit ∷ []), same, before w block (length counts) lt, of.1);
    few = omega (arith, length-append bits (bit ∷ []), same, is.few);
  }
    where
      same : w * length (set counts block count') ≡ w * length counts
      same = ap (λ (n : ℕ). w * n) (length-set counts block count')

      sums : (i : ℕ) → sum_of itself (take i (set counts block count')) ≡ ones (take (w * i) (bits ++ bit ∷ []))
      sums i = elim (cases_lt block i) [
        | inl after ↦
            let past : length bits < w * i = omega (arith, before w block i after, of.1) in
            omega (arith, sum_set_after itself counts i block count' count there after, sum_push_after one bits (w * i) bit past, is.sums i, changed)
        | inr until ↦
            sum_set_before itself counts i block count' until ∙ is.sums i
            ∙ sym (sum_push_before one bits (w * i) bit (omega (arith, up_to w i block until, of.0)))
      ]

  -- one more bit, in a new block
  pub more_new : (block : ℕ) (bit : Bool) → IsBlockOf w (length bits) block → length counts ≤ block → IsTally w (bits ++ bit ∷ []) (counts ++ one bit ∷ [])
  more_new block bit of past = record {
    wide = is.wide;
    sums = sums;
    enough = omega (arith, length-append bits (bit ∷ []), same, full, is.wide);
    few = omega (arith, length-append bits (bit ∷ []), same, full);
  }
    where
      full : w * length counts ≡ length bits
      full = omega (arith, is.enough, up_to w (length counts) block past, of.0)

      same : w * length (counts ++ one bit ∷ []) ≡ w * length counts + w
      same =
          let long : length (counts ++ one bit ∷ []) ≡ length counts + 1 = omega (arith, length-append counts (one bit ∷ [])) in
          let more : w * (length counts + 1) ≡ w * length counts + w = grind arith in
          ap (λ (n : ℕ). w * n) long ∙ more

      sums : (i : ℕ) → sum_of itself (take i (counts ++ one bit ∷ [])) ≡ ones (take (w * i) (bits ++ bit ∷ []))
      sums i = elim (cases_lt (length counts) i) [
        | inl after ↦
            let past : length bits < w * i = omega (arith, before w (length counts) i after, full, is.wide) in
            omega (arith, sum_push_after itself counts i (one bit) after, sum_push_after one bits (w * i) bit past, is.sums i)
        | inr until ↦
            sum_push_before itself counts i (one bit) until ∙ is.sums i
            ∙ sym (sum_push_before one bits (w * i) bit (omega (arith, up_to w i (length counts) until, full)))
      ]
