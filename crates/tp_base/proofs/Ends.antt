-- Lists by their places and at their end.
use Rattle.std.proofs.Common.{◌≡◌, ◌≢◌, ℕ, zero, suc, ◌+◌, ◌<◌, ◌⊎◌, inl, inr, List, [], ◌∷◌, ◌++◌, length, set, Some, refl, sym, ap, subst, arith}
use Rattle.std.specs.Prelude.{reverse, slice_get}
use Rattle.std.proofs.lemmas.List.{reverse-append, reverse-reverse}

-- one more item at the end is one more at the head of the reverse
pub reverse_push : {X : Type 0} (xs : List X) (x : X) → reverse (xs ++ x ∷ []) ≡ x ∷ reverse xs
reverse_push xs x = reverse-append xs (x ∷ [])

pub slice_get_push : {X : Type 0} (xs : List X) (x : X) → slice_get (xs ++ x ∷ []) (length xs) ≡ Some x
slice_get_push [] x = refl
slice_get_push (y ∷ ys) x = slice_get_push ys x

pub slice_get_left : {X : Type 0} (xs ys : List X) (i : ℕ) → i < length xs → slice_get (xs ++ ys) i ≡ slice_get xs i
slice_get_left [] ys i lt = absurd (omega arith)
slice_get_left (x ∷ xs) ys zero lt = refl
slice_get_left (x ∷ xs) ys (suc i) lt = slice_get_left xs ys i (omega arith)

pub slice_get_right : {X : Type 0} (xs ys : List X) (i k : ℕ) → k ≡ length xs + i → slice_get (xs ++ ys) k ≡ slice_get ys i
slice_get_right [] ys i k e = let same : k ≡ i = omega arith in ap (slice_get ys) same
slice_get_right (x ∷ xs) ys i zero e = absurd (omega arith)
slice_get_right (x ∷ xs) ys i (suc k) e = slice_get_right xs ys i k (omega arith)

-- an item after one more stood there before, or is the new one
pub slice_get_push_cases : {X : Type 0} (xs : List X) (x : X) (i : ℕ) (a : X) → slice_get (xs ++ x ∷ []) i ≡ Some a
    → ((i < length xs) × (slice_get xs i ≡ Some a)) ⊎ ((i ≡ length xs) × (a ≡ x))
slice_get_push_cases [] x zero a e = inr (refl, cc)
slice_get_push_cases [] x (suc i) a e = absurd cc
slice_get_push_cases (y ∷ ys) x zero a e = inl (omega arith, e)
slice_get_push_cases (y ∷ ys) x (suc i) a e =
    elim (slice_get_push_cases ys x i a e) [ inl old ↦ inl (omega arith, old.1) | inr new ↦ inr (omega arith, new.1) ]

pub get_set_same : {X : Type 0} (xs : List X) (i : ℕ) (x a : X) → slice_get xs i ≡ Some a → slice_get (set xs i x) i ≡ Some x
get_set_same [] i x a e = absurd cc
get_set_same (y ∷ ys) zero x a e = refl
get_set_same (y ∷ ys) (suc i) x a e = get_set_same ys i x a e

pub get_set_here : {X : Type 0} (xs : List X) (i : ℕ) (x : X) → i < length xs → slice_get (set xs i x) i ≡ Some x
get_set_here [] i x lt = absurd (omega arith)
get_set_here (y ∷ ys) zero x lt = refl
get_set_here (y ∷ ys) (suc i) x lt = get_set_here ys i x (omega arith)

pub get_set_other : {X : Type 0} (xs : List X) (i k : ℕ) (x : X) → k ≢ i → slice_get (set xs i x) k ≡ slice_get xs k
get_set_other [] i k x apart = refl
get_set_other (y ∷ ys) zero zero x apart = absurd (apart refl)
get_set_other (y ∷ ys) zero (suc k) x apart = refl
get_set_other (y ∷ ys) (suc i) zero x apart = refl
get_set_other (y ∷ ys) (suc i) (suc k) x apart = get_set_other ys i k x (λ e. apart (ap (λ (n : ℕ). suc n) e))

-- what stands at a place after a write: what was written, or what stood there
pub get_set_cases : {X : Type 0} (xs : List X) (i j : ℕ) (x y : X) → slice_get (set xs i x) j ≡ Some y
    → ((j ≡ i) × (x ≡ y)) ⊎ (slice_get xs j ≡ Some y)
get_set_cases [] i j x y e = inr e
get_set_cases (z ∷ zs) zero zero x y e = inl (refl, cc)
get_set_cases (z ∷ zs) zero (suc j) x y e = inr e
get_set_cases (z ∷ zs) (suc i) zero x y e = inr e
get_set_cases (z ∷ zs) (suc i) (suc j) x y e = elim (get_set_cases zs i j x y e) [
  | inl new ↦ inl (ap (λ (n : ℕ). suc n) new.0, new.1)
  | inr old ↦ inr old
]

pub got_within : {X : Type 0} (xs : List X) (i : ℕ) (x : X) → slice_get xs i ≡ Some x → i < length xs
got_within [] i x e = absurd cc
got_within (y ∷ ys) zero x e = omega arith
got_within (y ∷ ys) (suc i) x e = let rest = got_within ys i x e in omega arith

-- induction at the end of a list
reverse_ind : {X : Type 0} (P : List X → Type 0) → P [] → ((xs : List X) (x : X) → P xs → P (xs ++ x ∷ [])) → (ys : List X) → P (reverse ys)
reverse_ind P none more [] = none
reverse_ind P none more (y ∷ ys) = subst P (sym (reverse-append (y ∷ []) ys)) (more (reverse ys) y (reverse_ind P none more ys))

pub snoc_ind : {X : Type 0} (P : List X → Type 0) → P [] → ((xs : List X) (x : X) → P xs → P (xs ++ x ∷ [])) → (xs : List X) → P xs
snoc_ind P none more xs = subst P (reverse-reverse xs) (reverse_ind P none more (reverse xs))
