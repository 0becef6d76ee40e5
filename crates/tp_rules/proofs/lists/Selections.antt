-- What holds of each item of a list that is filtered, mapped, flattened or turned round, and of the numbers 1 to n.
use Rattle.std.proofs.Common.{◌≡◌, ℕ, zero, suc, ◌≤◌, inl, inr, Bool, true, List, [], ◌∷◌, length, Option, Some, None, arith}
use Rattle.std.proofs.lemmas.Bool.{cond_both, or_cases}
use Rattle.std.specs.List.{flat_map, list_any}
use Rattle.std.specs.Prelude.{filter, map, replicate, reverse, slice_get}
use Rattle.tp_base.proofs.Each.{each_append, each_in, each_of, each_push, each_weaker}
use Rattle.tp_base.proofs.Members.{in_get, in_reversed}
use Rattle.tp_base.specs.Limits.{IsFrom}
use Rattle.tp_base.specs.Lists.{Each}
use Rattle.tp_topology.specs.Counting.{up_to}

-- P of what is there, if anything is
abbrev pub IfAny : {X : Type 0} → (X → Type 0) → Option X → Type 0
IfAny P None = Unit {0}
IfAny P (Some x) = P x

pub each_filter : {X : Type 0} (P : X → Type 0) (test : X → Bool) (xs : List X) → Each P xs → Each P (filter test xs)
each_filter P test [] h = tt
each_filter P test (x ∷ xs) h =
    cond_both (test x) (x ∷ filter test xs) (filter test xs) (Each P) (λ t. (h.0, each_filter P test xs h.1)) (λ f. each_filter P test xs h.1)

pub each_of_all : {X : Type 0} (P : X → Type 0) (xs : List X) → ((x : X) → P x) → Each P xs
each_of_all P [] h = tt
each_of_all P (x ∷ xs) h = (h x, each_of_all P xs h)

pub each_image : {X Y : Type 0} (P : Y → Type 0) (f : X → Y) (xs : List X) → Each (λ x. P (f x)) xs → Each P (map f xs)
each_image P f [] h = tt
each_image P f (x ∷ xs) h = (h.0, each_image P f xs h.1)

pub each_spread : {X Y : Type 0} (P : Y → Type 0) (f : X → List Y) (xs : List X) → Each (λ x. Each P (f x)) xs → Each P (flat_map f xs)
each_spread P f [] h = tt
each_spread P f (x ∷ xs) h = each_append P (f x) (flat_map f xs) h.0 (each_spread P f xs h.1)

pub each_turned : {X : Type 0} (P : X → Type 0) (xs : List X) → Each P xs → Each P (reverse xs)
each_turned P xs h = each_of P (reverse xs) (λ x k. each_in P xs x h (in_reversed xs x k))

pub each_up_to : (n : ℕ) → Each (IsFrom 1 n) (up_to n)
each_up_to zero = tt
each_up_to (suc n) = each_push (IsFrom 1 (suc n)) (up_to n) (suc n)
    (each_weaker (IsFrom 1 n) (IsFrom 1 (suc n)) (λ k h. (h.0, omega (arith, h.1))) (up_to n) (each_up_to n))
    (omega arith, omega arith)

pub each_get : {X : Type 0} (P : X → Type 0) (xs : List X) (i : ℕ) (x : X) → Each P xs → slice_get xs i ≡ Some x → P x
each_get P xs i x h e = each_in P xs x h (in_get xs i x e)

pub each_replicate : {X : Type 0} (P : X → Type 0) (n : ℕ) (x : X) → P x → Each P (replicate n x)
each_replicate P zero x h = tt
each_replicate P (suc n) x h = (h, each_replicate P n x h)

-- where some item passes, some are left
pub filter_some : {X : Type 0} (test : X → Bool) (xs : List X) → list_any test xs ≡ true → 1 ≤ length (filter test xs)
filter_some test [] h = absurd cc
filter_some test (x ∷ xs) h =
    cond_both (test x) (x ∷ filter test xs) (filter test xs) (λ (ys : List _). 1 ≤ length ys)
    (λ t. omega arith)
    (λ f. elim (or_cases (test x) (list_any test xs) h) [
      | inl here ↦ absurd cc
      | inr later ↦ filter_some test xs later
    ])
