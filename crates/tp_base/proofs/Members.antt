-- What is in a list, as a fact (`IsIn`) and as a test (`has`).
use Rattle.std.proofs.Common.{◌≡◌, ℕ, zero, suc, ◌⊎◌, inl, inr, Bool, true, List, [], ◌∷◌, ◌++◌, map, Some, refl, sym, ap, subst}
use Rattle.std.specs.Prelude.{slice_get, reverse}
use Rattle.std.specs.List.{flat_map}
use Rattle.std.proofs.lemmas.Bool.{or_cases, or_left, or_right}
use Rattle.std.proofs.lemmas.List.{reverse-append, reverse-reverse}
use Rattle.tp_base.specs.Lists.{IsIn, has}

pub in_get : {X : Type 0} (xs : List X) (i : ℕ) (x : X) → slice_get xs i ≡ Some x → IsIn x xs
in_get [] i x e = absurd cc
in_get (y ∷ ys) zero x e = inl cc
in_get (y ∷ ys) (suc i) x e = inr (in_get ys i x e)

pub get_in : {X : Type 0} (xs : List X) (x : X) → IsIn x xs → (i : ℕ) × (slice_get xs i ≡ Some x)
get_in [] x h = absurd h
get_in (y ∷ ys) x (inl e) = (zero, ap (λ (z : _). Some z) (sym e))
get_in (y ∷ ys) x (inr h) = let rest = get_in ys x h in (suc rest.0, rest.1)

pub in_one : {X : Type 0} (x y : X) → IsIn x (y ∷ []) → x ≡ y
in_one x y (inl e) = e
in_one x y (inr h) = absurd h

pub in_left : {X : Type 0} (xs ys : List X) (x : X) → IsIn x xs → IsIn x (xs ++ ys)
in_left [] ys x h = absurd h
in_left (z ∷ zs) ys x (inl e) = inl e
in_left (z ∷ zs) ys x (inr h) = inr (in_left zs ys x h)

pub in_right : {X : Type 0} (xs ys : List X) (x : X) → IsIn x ys → IsIn x (xs ++ ys)
in_right [] ys x h = h
in_right (z ∷ zs) ys x h = inr (in_right zs ys x h)

pub in_either : {X : Type 0} (xs ys : List X) (x : X) → IsIn x (xs ++ ys) → IsIn x xs ⊎ IsIn x ys
in_either [] ys x h = inr h
in_either (z ∷ zs) ys x (inl e) = inl (inl e)
in_either (z ∷ zs) ys x (inr h) = elim (in_either zs ys x h) [ inl l ↦ inl (inr l) | inr r ↦ inr r ]

pub in_push : {X : Type 0} (xs : List X) (x : X) → IsIn x (xs ++ x ∷ [])
in_push xs x = in_right xs (x ∷ []) x (inl refl)

pub in_push_cases : {X : Type 0} (xs : List X) (x y : X) → IsIn y (xs ++ x ∷ []) → IsIn y xs ⊎ (y ≡ x)
in_push_cases xs x y h = elim (in_either xs (x ∷ []) y h) [ inl old ↦ inl old | inr new ↦ inr (in_one y x new) ]

pub in_reverse : {X : Type 0} (xs : List X) (x : X) → IsIn x xs → IsIn x (reverse xs)
in_reverse [] x h = absurd h
in_reverse (y ∷ ys) x (inl e) = subst (IsIn x) (sym (reverse-append (y ∷ []) ys)) (in_right (reverse ys) (y ∷ []) x (inl e))
in_reverse (y ∷ ys) x (inr h) = subst (IsIn x) (sym (reverse-append (y ∷ []) ys)) (in_left (reverse ys) (y ∷ []) x (in_reverse ys x h))

pub in_reversed : {X : Type 0} (xs : List X) (x : X) → IsIn x (reverse xs) → IsIn x xs
in_reversed xs x h = subst (IsIn x) (reverse-reverse xs) (in_reverse (reverse xs) x h)

pub in_map : {X Y : Type 0} (f : X → Y) (xs : List X) (y : Y) → IsIn y (map f xs) → (x : X) × IsIn x xs × (y ≡ f x)
in_map f [] y h = absurd h
in_map f (x ∷ xs) y (inl e) = (x, inl refl, e)
in_map f (x ∷ xs) y (inr h) = let rest = in_map f xs y h in (rest.0, inr rest.1, rest.2)

pub map_in : {X Y : Type 0} (f : X → Y) (xs : List X) (x : X) → IsIn x xs → IsIn (f x) (map f xs)
map_in f [] x h = absurd h
map_in f (z ∷ zs) x (inl e) = inl (ap f e)
map_in f (z ∷ zs) x (inr h) = inr (map_in f zs x h)

pub in_flat : {X Y : Type 0} (f : X → List Y) (xs : List X) (y : Y) → IsIn y (flat_map f xs) → (x : X) × IsIn x xs × IsIn y (f x)
in_flat f [] y h = absurd h
in_flat f (x ∷ xs) y h = elim (in_either (f x) (flat_map f xs) y h) [
  | inl here ↦ (x, inl refl, here)
  | inr later ↦ let rest = in_flat f xs y later in (rest.0, inr rest.1, rest.2)
]

pub flat_in : {X Y : Type 0} (f : X → List Y) (xs : List X) (x : X) (y : Y) → IsIn x xs → IsIn y (f x) → IsIn y (flat_map f xs)
flat_in f [] x y h k = absurd h
flat_in f (z ∷ zs) x y (inl e) k = in_left (f z) (flat_map f zs) y (subst (λ w. IsIn y (f w)) e k)
flat_in f (z ∷ zs) x y (inr h) k = in_right (f z) (flat_map f zs) y (flat_in f zs x y h k)

-- the test

pub has_head : {X : Type 0} (same : X → X → Bool) (x : X) (xs : List X) → same x x ≡ true → has same x (x ∷ xs) ≡ true
has_head same x xs self = or_left (same x x) (has same x xs) self

pub has_left : {X : Type 0} (same : X → X → Bool) (x : X) (xs ys : List X) → has same x xs ≡ true → has same x (xs ++ ys) ≡ true
has_left same x [] ys h = absurd cc
has_left same x (z ∷ zs) ys h = elim (or_cases (same x z) (has same x zs) h) [
  | inl here ↦ or_left (same x z) (has same x (zs ++ ys)) here
  | inr later ↦ or_right (same x z) (has same x (zs ++ ys)) (has_left same x zs ys later)
]

pub has_right : {X : Type 0} (same : X → X → Bool) (x : X) (xs ys : List X) → has same x ys ≡ true → has same x (xs ++ ys) ≡ true
has_right same x [] ys h = h
has_right same x (z ∷ zs) ys h = or_right (same x z) (has same x (zs ++ ys)) (has_right same x zs ys h)

pub has_cases : {X : Type 0} (same : X → X → Bool) (x : X) (xs ys : List X) → has same x (xs ++ ys) ≡ true
    → (has same x xs ≡ true) ⊎ (has same x ys ≡ true)
has_cases same x [] ys h = inr h
has_cases same x (z ∷ zs) ys h = elim (or_cases (same x z) (has same x (zs ++ ys)) h) [
  | inl here ↦ inl (or_left (same x z) (has same x zs) here)
  | inr later ↦ elim (has_cases same x zs ys later) [ inl l ↦ inl (or_right (same x z) (has same x zs) l) | inr r ↦ inr r ]
]

-- the test says that an item is in the list, where the same are equal
pub has_in : {X : Type 0} (same : X → X → Bool) → ((a b : X) → same a b ≡ true → a ≡ b) → (x : X) (xs : List X) → has same x xs ≡ true → IsIn x xs
has_in same equal x [] h = absurd cc
has_in same equal x (z ∷ zs) h = elim (or_cases (same x z) (has same x zs) h) [
  | inl here ↦ inl (equal x z here)
  | inr later ↦ inr (has_in same equal x zs later)
]

pub in_has : {X : Type 0} (same : X → X → Bool) → ((a : X) → same a a ≡ true) → (x : X) (xs : List X) → IsIn x xs → has same x xs ≡ true
in_has same self x [] h = absurd h
in_has same self x (z ∷ zs) (inl e) = or_left (same x z) (has same x zs) (subst (λ w. same x w ≡ true) e (self x))
in_has same self x (z ∷ zs) (inr h) = or_right (same x z) (has same x zs) (in_has same self x zs h)
