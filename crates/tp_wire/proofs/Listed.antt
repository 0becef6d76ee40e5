-- So many of a kind, one after the other.
use Rattle.std.proofs.Common.{◌≡◌, ℕ, zero, suc, List, [], ◌∷◌, ◌++◌, length, Ok, refl, sym, ap, arith}
use Rattle.std.specs.List.{flat_map}
use Rattle.std.proofs.lemmas.List.{append-nil}
use Rattle.tp_base.specs.Lists.{Each}
use Rattle.tp_wire.specs.Meaning.{Reader, times_at}
use Rattle.tp_wire.proofs.Fielded.{IsField, ends, then_field, whole}

abbrev pub AreMany : {A : Type 0} → (A → Type 0) → ℕ → List A → Type 0
AreMany Fits n xs = (length xs ≡ n) × Each Fits xs

pub empty : {A : Type 0} (xs : List A) → length xs ≡ zero → [] ≡ xs
empty [] none = refl
empty (x ∷ xs) none = absurd (omega arith)

none_read : {A : Type 0} (text : A → List ℕ) (Fits : A → Type 0) → IsField {A = List A} (λ at. Ok ([], at)) (flat_map text) (AreMany Fits zero)
none_read text Fits = whole (ends []) (λ u _. (refl, (refl, tt))) (λ xs fits. (tt, empty xs fits.0, tt))

-- a list that isn't empty, by its first item and the others
first_and_others : {A : Type 0} (Fits : A → Type 0) (n : ℕ) (xs : List A) → AreMany Fits (suc n) xs
    → (p : A × (List A × Unit {0})) × (p.0 ∷ p.1.0 ≡ xs) × (Fits p.0 × (AreMany Fits n p.1.0 × Unit {0}))
first_and_others Fits n [] fits = absurd (omega (arith, fits.0))
first_and_others Fits n (x ∷ xs) fits = ((x, (xs, tt)), refl, (fits.1.0, ((omega (arith, fits.0), fits.1.1), tt)))

one_more : {A : Type 0} (reader : Reader A) (text : A → List ℕ) (Fits : A → Type 0) (n : ℕ) → IsField reader text Fits → IsField (times_at reader n) (flat_map text) (AreMany Fits n)
    → IsField (times_at reader (suc n)) (flat_map text) (AreMany Fits (suc n))
unfolding times_at
one_more reader text Fits n one others = whole
    (then_field one (λ x _. then_field others (λ xs _. ends (x ∷ xs))))
    (λ p fits. (ap (λ (t : List ℕ). text p.0 ++ t) (sym (append-nil (flat_map text p.1.0))), (ap (λ (k : ℕ). suc k) fits.1.0.0, (fits.0, fits.1.0.1))))
    (first_and_others Fits n)

pub times_field : {A : Type 0} (reader : Reader A) (text : A → List ℕ) (Fits : A → Type 0) → IsField reader text Fits → (n : ℕ) → IsField (times_at reader n) (flat_map text) (AreMany Fits n)
unfolding times_at
times_field reader text Fits one zero = none_read text Fits
times_field reader text Fits one (suc n) = one_more reader text Fits n one (times_field reader text Fits one n)
