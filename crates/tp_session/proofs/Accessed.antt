-- Filters and tests over the numbers from 1 up.
use Rattle.std.proofs.Common.{◌≡◌, ℕ, zero, suc, ◌+◌, ◌≤◌, inl, inr, Bool, true, false, ◌&&◌, cond, [], ◌∷◌, ◌++◌, refl, sym, ap, subst, ◌∙◌, arith}
use Rattle.std.specs.Prelude.{filter}
use Rattle.std.specs.List.{list_all}
use Rattle.std.proofs.lemmas.Bool.{and_from, and_left, and_right, cases_eq}
use Rattle.std.proofs.lemmas.List.Elements.{filter-append}
use Rattle.std.proofs.lemmas.List.Folds.{list_all-append}
use Rattle.tp_topology.specs.Counting.{up_to}

-- one more number, where it passes the filter or not
pub filter_up_to : (g : ℕ → Bool) (n : ℕ) → filter g (up_to (n + 1)) ≡ filter g (up_to n) ++ cond (g (n + 1)) ((n + 1) ∷ []) []
filter_up_to g n =
    let one : n + 1 ≡ suc n = omega arith in
    subst (λ (k : ℕ). filter g (up_to k) ≡ filter g (up_to n) ++ cond (g k) (k ∷ []) []) (sym one) (filter-append g (up_to n) (suc n ∷ []))

-- so far each number that passes g passes f
abbrev pub all_so_far : (ℕ → Bool) → (ℕ → Bool) → ℕ → Bool
all_so_far f g n = list_all f (filter g (up_to n))

all_more : (f g : ℕ → Bool) (n : ℕ) → all_so_far f g (n + 1) ≡ (all_so_far f g n && list_all f (cond (g (n + 1)) ((n + 1) ∷ []) []))
all_more f g n = ap (list_all f) (filter_up_to g n) ∙ list_all-append f (filter g (up_to n)) (cond (g (n + 1)) ((n + 1) ∷ []) [])

pub all_skips : (f g : ℕ → Bool) (n : ℕ) → g (n + 1) ≡ false → all_so_far f g n ≡ true → all_so_far f g (n + 1) ≡ true
all_skips f g n out so_far =
    all_more f g n ∙ and_from _ _ so_far (ap (λ (b : Bool). list_all f (cond b ((n + 1) ∷ []) [])) out)

pub all_passes : (f g : ℕ → Bool) (n : ℕ) → f (n + 1) ≡ true → all_so_far f g n ≡ true → all_so_far f g (n + 1) ≡ true
all_passes f g n passes so_far = all_more f g n ∙ and_from _ _ so_far (go (g (n + 1)))
  where
    go : (b : Bool) → list_all f (cond b ((n + 1) ∷ []) []) ≡ true
    go true = and_from _ _ passes refl
    go false = refl

-- one number that passes g and fails f settles the answer
pub all_fails : (f g : ℕ → Bool) (n k : ℕ) → 1 ≤ k → k ≤ n → g k ≡ true → f k ≡ false → all_so_far f g n ≡ false
all_fails f g zero k low high passes fails = absurd (omega arith)
all_fails f g (suc n) k low high passes fails =
    let more : all_so_far f g (suc n) ≡ (all_so_far f g n && list_all f (cond (g (suc n)) (suc n ∷ []) [])) =
    ap (list_all f) (filter-append g (up_to n) (suc n ∷ [])) ∙ list_all-append f (filter g (up_to n)) (cond (g (suc n)) (suc n ∷ []) []) in
    elim (cases_eq k (suc n)) [
      | inl e ↦
          let here : g (suc n) ≡ true = subst (λ (j : ℕ). g j ≡ true) e passes in
          let last : f (suc n) ≡ false = subst (λ (j : ℕ). f j ≡ false) e fails in
          more ∙ and_right _ _ (ap (λ (b : Bool). list_all f (cond b (suc n ∷ []) [])) here ∙ and_left _ _ last)
      | inr apart ↦ more ∙ and_left _ _ (all_fails f g n k low (omega arith) passes fails)
    ]
