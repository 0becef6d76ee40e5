-- Which set bit is the first, after one more bit and after one that is turned.
use Rattle.std.proofs.Common.{◌≡◌, ◌≢◌, ℕ, suc, ◌*◌, ◌/◌, ◌<◌, ◌≤◌, Bool, true, false, List, [], ◌∷◌, ◌++◌, length, set, take, Some, None, refl, sym, ap, ◌∙◌, arith}
use Rattle.std.proofs.lemmas.Option.{slice_get_within}
use Rattle.std.specs.Prelude.{not, slice_get}
use Rattle.tp_base.proofs.Ends.{get_set_other, get_set_same, slice_get_left, slice_get_push}
use Rattle.tp_bits.proofs.Selected.{select_few, select_here, select_none, selected}
use Rattle.tp_bits.proofs.Sums.{ones_push, sum_front, sum_fronts, sum_next, sum_push_before, sum_set_before}
use Rattle.tp_bits.specs.Bits.{IsFirstFrom, one, ones, select}

-- with none before it, it is the first
pub first_here : (bits : List Bool) (i : ℕ) → slice_get bits i ≡ Some true → ones (take i bits) ≡ 0 → select bits 0 ≡ Some i
first_here bits i at none = ap (select bits) (sym none) ∙ select_here bits i at

pub first_from : (bits : List Bool) (from i : ℕ) → ones (take from bits) ≡ 0 → IsFirstFrom bits from i → select bits 0 ≡ Some i
first_from bits from i none is = first_here bits i is.0 (is.1 ∙ none)

-- none is set before the group of a place with none before it
pub group_before : (bits : List Bool) (i : ℕ) → ones (take i bits) ≡ 0 → ones (take (8192 * (i / 8192)) bits) ≡ 0
group_before bits i none = omega (arith, none, sum_fronts one bits (8192 * (i / 8192)) i (omega arith))

pub none_before : (bits : List Bool) (i : ℕ) → select bits 0 ≡ Some i → ones (take (8192 * (i / 8192)) bits) ≡ 0
none_before bits i is = group_before bits i (selected bits 0 i is).1

pub none_at_all : (bits : List Bool) (rank : ℕ) → select bits 0 ≡ None → select bits rank ≡ None
none_at_all bits rank none = select_none bits rank (omega (arith, select_few bits 0 none))

-- one more bit at the end
module _ (bits : List Bool) (bit : Bool) where
  pub push_after : (first : ℕ) → select bits 0 ≡ Some first → select (bits ++ bit ∷ []) 0 ≡ Some first
  push_after first is =
      let there : (slice_get bits first ≡ Some true) × (ones (take first bits) ≡ 0) = selected bits 0 first is in
      let lt : first < length bits = slice_get_within bits first true there.0 in
      first_here (bits ++ bit ∷ []) first (slice_get_left bits (bit ∷ []) first lt ∙ there.0) (sum_push_before one bits first bit (omega arith) ∙ there.1)

  pub push_first : bit ≡ true → select bits 0 ≡ None → select (bits ++ bit ∷ []) 0 ≡ Some (length bits)
  push_first set_now none =
      first_here (bits ++ bit ∷ []) (length bits) (slice_get_push bits bit ∙ ap (λ (b : Bool). Some b) set_now)
      (omega (arith, sum_push_before one bits (length bits) bit (omega arith), sum_front one bits (length bits), select_few bits 0 none))

  pub push_none : bit ≡ false → select bits 0 ≡ None → select (bits ++ bit ∷ []) 0 ≡ None
  push_none unset none = select_none (bits ++ bit ∷ []) 0 (omega (arith, ones_push bits bit, ap one unset, select_few bits 0 none))

-- a bit that is turned
module _ (bits : List Bool) (place : ℕ) (bit : Bool) (at : slice_get bits place ≡ Some (not bit)) where
  pub turn_after : (first : ℕ) → select bits 0 ≡ Some first → first < place → select (set bits place bit) 0 ≡ Some first
  turn_after first is lt =
      let there : (slice_get bits first ≡ Some true) × (ones (take first bits) ≡ 0) = selected bits 0 first is in
      let other : first ≢ place = λ e. absurd (omega (arith, e)) in
      first_here (set bits place bit) first (get_set_other bits place first bit other ∙ there.0) (sum_set_before one bits first place bit (omega arith) ∙ there.1)

  pub turn_to : bit ≡ true → ones (take place bits) ≡ 0 → select (set bits place bit) 0 ≡ Some place
  turn_to set_now none =
      first_here (set bits place bit) place (get_set_same bits place bit (not bit) at ∙ ap (λ (b : Bool). Some b) set_now)
      (sum_set_before one bits place place bit (omega arith) ∙ none)

  pub none_until : (first : ℕ) → select bits 0 ≡ Some first → place ≤ first → ones (take place bits) ≡ 0
  none_until first is le = omega (arith, (selected bits 0 first is).1, sum_fronts one bits place first le)

  -- where none was set, the turned one is
  pub turn_only : select bits 0 ≡ None → select (set bits place bit) 0 ≡ Some place
  turn_only none = turn_to (is_set bit at) (omega (arith, sum_front one bits place, select_few bits 0 none))
    where
      is_set : (b : Bool) → slice_get bits place ≡ Some (not b) → b ≡ true
      is_set true was = refl
      is_set false was = absurd (omega (arith, sum_next one bits place true was, sum_front one bits (suc place), select_few bits 0 none))
