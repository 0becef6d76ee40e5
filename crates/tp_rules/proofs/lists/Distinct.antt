-- Lists with no item twice: they are no longer than a list that has all their items.
use Rattle.std.proofs.Common.{◌≡◌, ◌≢◌, ℕ, suc, ◌≤◌, inl, inr, List, [], ◌∷◌, length, refl, sym, subst, ◌∙◌, ap, arith}
use Rattle.tp_base.specs.Lists.{IsIn}

-- no item stands twice
abbrev pub Distinct : {X : Type 0} → List X → Type 0
Distinct [] = Unit {0}
Distinct (x ∷ xs) = (IsIn x xs → ⊥) × Distinct xs

-- one item of a list taken out
record Without {X : Type 0} (x : X) (ys : List X) : Type 0 where
  rest : List X
  longer : length ys ≡ suc (length rest)
  others : (y : X) → IsIn y ys → y ≢ x → IsIn y rest

without : {X : Type 0} (x : X) (ys : List X) → IsIn x ys → Without x ys
without x [] h = absurd h
without x (y ∷ ys) (inl e) = record {
  rest = ys;
  longer = refl;
  others = λ z k apart. elim k [ inl same ↦ absurd (apart (same ∙ sym e)) | inr later ↦ later ];
}
without x (y ∷ ys) (inr h) =
    let w = without x ys h in
    record {
      rest = y ∷ w.rest;
      longer = ap (λ (n : ℕ). suc n) w.longer;
      others = λ z k apart. elim k [ inl same ↦ inl same | inr later ↦ inr (w.others z later apart) ];
    }

pub distinct_within : {X : Type 0} (xs ys : List X) → Distinct xs → ((x : X) → IsIn x xs → IsIn x ys) → length xs ≤ length ys
distinct_within [] ys once within = omega arith
distinct_within (x ∷ xs) ys once within =
    let w = without x ys (within x (inl refl)) in
    let rest : length xs ≤ length w.rest = distinct_within xs w.rest once.1
    (λ y k. w.others y (within y (inr k)) (λ (same : y ≡ x). once.0 (subst (λ z. IsIn z xs) same k))) in
    omega (arith, w.longer)
