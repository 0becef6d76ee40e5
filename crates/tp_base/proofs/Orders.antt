-- Lists in order.
use Rattle.std.proofs.Common.{◌≡◌, ℕ, zero, suc, ◌<◌, inl, inr, Bool, true, List, [], ◌∷◌, ◌++◌, Some, sym, subst, arith}
use Rattle.std.specs.Prelude.{slice_get}
use Rattle.tp_base.specs.Lists.{Ascends, Each, IsIn}
use Rattle.tp_base.proofs.Each.{each_in, each_left, each_push}
use Rattle.tp_base.proofs.Members.{in_get, in_right}

-- what stands further left is before what stands further right
pub ascends_before : {X : Type 0} (before : X → X → Bool) (xs ys : List X) (x y : X)
    → Ascends before (xs ++ ys) → IsIn x xs → IsIn y ys → before x y ≡ true
ascends_before before [] ys x y h here there = absurd here
ascends_before before (z ∷ zs) ys x y h (inl e) there =
    subst (λ w. before w y ≡ true) (sym e) (each_in (λ w. before z w ≡ true) (zs ++ ys) y h.0 (in_right zs ys y there))
ascends_before before (z ∷ zs) ys x y h (inr later) there = ascends_before before zs ys x y h.1 later there

pub ascends_left : {X : Type 0} (before : X → X → Bool) (xs ys : List X) → Ascends before (xs ++ ys) → Ascends before xs
ascends_left before [] ys h = tt
ascends_left before (x ∷ xs) ys h = (each_left (λ y. before x y ≡ true) xs ys h.0, ascends_left before xs ys h.1)

pub ascends_right : {X : Type 0} (before : X → X → Bool) (xs ys : List X) → Ascends before (xs ++ ys) → Ascends before ys
ascends_right before [] ys h = h
ascends_right before (x ∷ xs) ys h = ascends_right before xs ys h.1

-- one more at the end, after all others
pub ascends_push : {X : Type 0} (before : X → X → Bool) (xs : List X) (y : X)
    → Ascends before xs → Each (λ x. before x y ≡ true) xs → Ascends before (xs ++ y ∷ [])
ascends_push before [] y h after = (tt, tt)
ascends_push before (x ∷ xs) y h after = (each_push (λ z. before x z ≡ true) xs y h.0 after.0, ascends_push before xs y h.1 after.1)
