-- The numbers from 1 to n: how many there are, which they are, and one more.
use Rattle.std.proofs.Common.{◌≡◌, ℕ, zero, suc, ◌+◌, ◌-◌, ◌<◌, ◌≤◌, inl, inr, List, [], ◌∷◌, ◌++◌, Some, length, ap, refl, ◌∙◌, arith}
use Rattle.std.proofs.lemmas.Bool.{cases_eq, cases_lt}
use Rattle.std.proofs.lemmas.List.{length-append}
use Rattle.std.specs.Prelude.{slice_get}
use Rattle.tp_base.proofs.Ends.{slice_get_left, slice_get_push}
use Rattle.tp_base.proofs.Members.{in_left, in_right}
use Rattle.tp_base.specs.Lists.{IsIn}
use Rattle.tp_topology.specs.Counting.{up_to}

pub length-up_to : (n : ℕ) → length (up_to n) ≡ n
length-up_to zero = refl
length-up_to (suc n) = omega (arith, length-append (up_to n) (suc n ∷ []), length-up_to n)

pub in_up_to : (n k : ℕ) → 1 ≤ k → k ≤ n → IsIn k (up_to n)
in_up_to zero k low high = absurd (omega arith)
in_up_to (suc n) k low high = elim (cases_eq k (suc n)) [
  | inl same ↦ in_right (up_to n) (suc n ∷ []) k (inl same)
  | inr apart ↦ in_left (up_to n) (suc n ∷ []) k (in_up_to n k low (omega arith))
]

pub get_up_to : (n i : ℕ) → i < n → slice_get (up_to n) i ≡ Some (suc i)
get_up_to zero i less = absurd (omega arith)
get_up_to (suc n) i less = elim (cases_lt i n) [
  | inl before ↦ slice_get_left (up_to n) (suc n ∷ []) i (omega (arith, length-up_to n)) ∙ get_up_to n i before
  | inr last ↦
      let place : i ≡ length (up_to n) = omega (arith, length-up_to n) in
      let value : n ≡ i = omega arith in
      ap (slice_get (up_to n ++ suc n ∷ [])) place ∙ slice_get_push (up_to n) (suc n) ∙ ap (λ (k : ℕ). Some (suc k)) value
]

-- a loop from 1 that has come to k, and one number further
pub up_to-next : (k : ℕ) → 1 ≤ k → up_to (k + 1 - 1) ≡ up_to (k - 1) ++ k ∷ []
up_to-next zero some = absurd (omega arith)
up_to-next (suc k) some =
    let here : suc k + 1 - 1 ≡ suc k = omega arith in
    let before : k ≡ suc k - 1 = omega arith in
    ap (λ (m : ℕ). up_to m) here ∙ ap (λ (m : ℕ). up_to m ++ suc k ∷ []) before
