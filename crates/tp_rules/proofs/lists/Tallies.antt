-- How many items of a list pass a test, and totals of numbers over a list, under two tests or numberings of which one is
-- nowhere above the other. Used for the counts that fall along a run.
use Rattle.std.proofs.Common.{◌≡◌, ℕ, suc, ◌+◌, ◌*◌, ◌<◌, ◌≤◌, inl, inr, Bool, true, false, List, [], ◌∷◌, ◌++◌, length, map, refl, sym, ap, subst, ◌∙◌, arith}
use Rattle.std.specs.Prelude.{filter}
use Rattle.std.proofs.lemmas.Bool.{cases_Bool}
use Rattle.tp_base.specs.Lists.{IsIn}
use Rattle.tp_rules.specs.Left.{total}
pub use Rattle.tp_base.proofs.Tests.{filter_in, filter_length, filter_no, filter_none, filter_yes, in_filter}

pub count_yes : {X : Type 0} (p : X → Bool) (x : X) (xs : List X) → p x ≡ true → length (filter p (x ∷ xs)) ≡ suc (length (filter p xs))
count_yes p x xs e = ap length (filter_yes p x xs e)

pub count_no : {X : Type 0} (p : X → Bool) (x : X) (xs : List X) → p x ≡ false → length (filter p (x ∷ xs)) ≡ length (filter p xs)
count_no p x xs e = ap length (filter_no p x xs e)

-- where q passes no more than p does
pub fewer : {X : Type 0} (p q : X → Bool) (xs : List X) → ((x : X) → IsIn x xs → q x ≡ true → p x ≡ true) →
    length (filter q xs) ≤ length (filter p xs)
fewer p q [] h = omega arith
fewer p q (x ∷ xs) h =
    let rest = fewer p q xs (λ y k. h y (inr k)) in
    elim (cases_Bool (q x)) [
      | inl e ↦ omega (arith, count_yes q x xs e, count_yes p x xs (h x (inl refl) e))
      | inr e ↦ elim (cases_Bool (p x)) [
        | inl f ↦ omega (arith, count_no q x xs e, count_yes p x xs f)
        | inr f ↦ omega (arith, count_no q x xs e, count_no p x xs f)
      ]
    ]

-- and one item that p passes it doesn't
pub one_fewer : {X : Type 0} (p q : X → Bool) (xs : List X) (y : X) → ((x : X) → IsIn x xs → q x ≡ true → p x ≡ true) →
    IsIn y xs → p y ≡ true → q y ≡ false → length (filter q xs) < length (filter p xs)
one_fewer p q [] y h k does doesnt = absurd k
one_fewer p q (x ∷ xs) y h (inl same) does doesnt =
    let rest = fewer p q xs (λ z k. h z (inr k)) in
    omega (arith, count_no q x xs (ap q (sym same) ∙ doesnt), count_yes p x xs (ap p (sym same) ∙ does))
one_fewer p q (x ∷ xs) y h (inr later) does doesnt =
    let rest = one_fewer p q xs y (λ z k. h z (inr k)) later does doesnt in
    elim (cases_Bool (q x)) [
      | inl e ↦ omega (arith, count_yes q x xs e, count_yes p x xs (h x (inl refl) e))
      | inr e ↦ elim (cases_Bool (p x)) [
        | inl f ↦ omega (arith, count_no q x xs e, count_yes p x xs f)
        | inr f ↦ omega (arith, count_no q x xs e, count_no p x xs f)
      ]
    ]

pub total-append : (ms ns : List ℕ) → total (ms ++ ns) ≡ total ms + total ns
total-append [] ns = omega arith
total-append (m ∷ ms) ns = omega (arith, total-append ms ns)

-- where g is nowhere above f
pub lower_total : {X : Type 0} (f g : X → ℕ) (xs : List X) → ((x : X) → IsIn x xs → g x ≤ f x) → total (map g xs) ≤ total (map f xs)
lower_total f g [] h = omega arith
lower_total f g (x ∷ xs) h = omega (arith, h x (inl refl), lower_total f g xs (λ y k. h y (inr k)))

-- and below it at one item
pub less_total : {X : Type 0} (f g : X → ℕ) (xs : List X) (y : X) → ((x : X) → IsIn x xs → g x ≤ f x) → IsIn y xs → g y < f y →
    total (map g xs) < total (map f xs)
less_total f g [] y h k less = absurd k
less_total f g (x ∷ xs) y h (inl same) less =
    let here : g x < f x = subst (λ z. g z < f z) same less in
    omega (arith, here, lower_total f g xs (λ z k. h z (inr k)))
less_total f g (x ∷ xs) y h (inr later) less = omega (arith, h x (inl refl), less_total f g xs y (λ z k. h z (inr k)) later less)

pub total_bound : {X : Type 0} (f : X → ℕ) (xs : List X) (n : ℕ) → ((x : X) → IsIn x xs → f x ≤ n) → total (map f xs) ≤ length xs * n
total_bound f [] n h = omega arith
total_bound f (x ∷ xs) n h = omega (arith, h x (inl refl), total_bound f xs n (λ y k. h y (inr k)))
