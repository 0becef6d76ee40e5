-- How many of the numbers from 1 up pass a test, and how far all pass.
use Rattle.std.proofs.Common.{◌≡◌, ◌≢◌, ℕ, zero, suc, ◌+◌, ◌≤◌, inl, inr, Bool, true, false, cond, refl, sym, ap, subst, ◌∙◌, arith}
use Rattle.std.proofs.lemmas.Bool.{cases_eq, cases_lt}
use Rattle.tp_topology.specs.Counting.{all_up_to, count_up_to}

-- counting

one_number : (p q : ℕ → Bool) (n : ℕ) (a b : Bool) → p (suc n) ≡ a → q (suc n) ≡ b → (a ≡ true → b ≡ true) → count_up_to p n ≤ count_up_to q n
    → cond a (suc (count_up_to p n)) (count_up_to p n) ≤ cond b (suc (count_up_to q n)) (count_up_to q n)
one_number p q n true true e f more le = omega arith
one_number p q n true false e f more le = let no = more refl in absurd cc
one_number p q n false true e f more le = omega arith
one_number p q n false false e f more le = le

-- where more pass, as many do at least
pub count_more : (p q : ℕ → Bool) (n : ℕ) → ((k : ℕ) → 1 ≤ k → k ≤ n → p k ≡ true → q k ≡ true) → count_up_to p n ≤ count_up_to q n
count_more p q zero more = omega arith
count_more p q (suc n) more =
    one_number p q n (p (suc n)) (q (suc n)) refl refl (more (suc n) (omega arith) (omega arith)) (count_more p q n (λ k low high. more k low (omega arith)))

-- where the same pass, as many do
pub count_same : (p q : ℕ → Bool) (n : ℕ) → ((k : ℕ) → 1 ≤ k → k ≤ n → p k ≡ q k) → count_up_to p n ≡ count_up_to q n
count_same p q zero same = refl
count_same p q (suc n) same =
    let rest = count_same p q n (λ k low high. same k low (omega arith)) in
    ap (λ (b : Bool). cond b (suc (count_up_to p n)) (count_up_to p n)) (same (suc n) (omega arith) (omega arith))
    ∙ ap (λ (c : ℕ). cond (q (suc n)) (suc c) c) rest

pub count_within : (p : ℕ → Bool) (n : ℕ) → count_up_to p n ≤ n
count_within p zero = omega arith
count_within p (suc n) = go (p (suc n)) (count_within p n)
  where
    go : (b : Bool) → count_up_to p n ≤ n → cond b (suc (count_up_to p n)) (count_up_to p n) ≤ suc n
    go true le = omega arith
    go false le = omega arith

pub count_none : (p : ℕ → Bool) (n : ℕ) → ((k : ℕ) → 1 ≤ k → k ≤ n → p k ≡ false) → count_up_to p n ≡ 0
count_none p zero none = refl
count_none p (suc n) none =
    ap (λ (b : Bool). cond b (suc (count_up_to p n)) (count_up_to p n)) (none (suc n) (omega arith) (omega arith))
    ∙ count_none p n (λ k low high. none k low (omega arith))

-- one number more that passes
pub count_with_one : (p q : ℕ → Bool) (n x : ℕ) → 1 ≤ x → x ≤ n → p x ≡ false → q x ≡ true → ((k : ℕ) → k ≢ x → q k ≡ p k)
    → count_up_to q n ≡ suc (count_up_to p n)
count_with_one p q zero x low high out inside others = absurd (omega arith)
count_with_one p q (suc n) x low high out inside others = elim (cases_eq x (suc n)) [
  | inl last ↦
      let same : count_up_to q n ≡ count_up_to p n = count_same q p n (λ k _ le. others k (λ e. absurd (omega arith))) in
      let here : q (suc n) ≡ true = subst (λ (k : ℕ). q k ≡ true) last inside in
      let there : p (suc n) ≡ false = subst (λ (k : ℕ). p k ≡ false) last out in
      ap (λ (b : Bool). cond b (suc (count_up_to q n)) (count_up_to q n)) here
      ∙ ap (λ (c : ℕ). suc c) same
      ∙ sym (ap (λ (b : Bool). suc (cond b (suc (count_up_to p n)) (count_up_to p n))) there)
  | inr apart ↦
      let rest : count_up_to q n ≡ suc (count_up_to p n) = count_with_one p q n x low (omega arith) out inside others in
      let same : q (suc n) ≡ p (suc n) = others (suc n) (λ e. apart (sym e)) in
      ap (λ (b : Bool). cond b (suc (count_up_to q n)) (count_up_to q n)) same
      ∙ ap (λ (c : ℕ). cond (p (suc n)) (suc c) c) rest
      ∙ out_of (p (suc n)) (count_up_to p n)
]
  where
    out_of : (b : Bool) (c : ℕ) → cond b (suc (suc c)) (suc c) ≡ suc (cond b (suc c) c)
    out_of true c = refl
    out_of false c = refl

-- one number further
pub count_next : (p : ℕ → Bool) (n : ℕ) → count_up_to p (n + 1) ≡ cond (p (n + 1)) (count_up_to p n + 1) (count_up_to p n)
count_next p n =
    let one : n + 1 ≡ suc n = omega arith in
    let same : suc (count_up_to p n) ≡ count_up_to p n + 1 = omega arith in
    subst (λ (k : ℕ). count_up_to p k ≡ cond (p k) (count_up_to p n + 1) (count_up_to p n)) (sym one)
    (ap (λ (c : ℕ). cond (p (suc n)) c (count_up_to p n)) same)

-- all that pass

last_passes : (p : ℕ → Bool) (n : ℕ) (b : Bool) → p (suc n) ≡ b → cond b (all_up_to p n) false ≡ true → (p (suc n) ≡ true) × (all_up_to p n ≡ true)
last_passes p n true here e = (here, e)
last_passes p n false here e = absurd cc

-- each of them passes
pub all_each : (p : ℕ → Bool) (n k : ℕ) → all_up_to p n ≡ true → 1 ≤ k → k ≤ n → p k ≡ true
all_each p zero k e low high = absurd (omega arith)
all_each p (suc n) k e low high = let parts = last_passes p n (p (suc n)) refl e in elim (cases_lt k (suc n)) [
  | inl lt ↦ all_each p n k parts.1 low (omega arith)
  | inr ge ↦ let same : k ≡ suc n = omega arith in subst (λ (j : ℕ). p j ≡ true) (sym same) parts.0
]

pub all_from : (p : ℕ → Bool) (n : ℕ) → ((k : ℕ) → 1 ≤ k → k ≤ n → p k ≡ true) → all_up_to p n ≡ true
all_from p zero each = refl
all_from p (suc n) each =
    ap (λ (b : Bool). cond b (all_up_to p n) false) (each (suc n) (omega arith) (omega arith))
    ∙ all_from p n (λ k low high. each k low (omega arith))

pub all_below : (p : ℕ → Bool) (n m : ℕ) → m ≤ n → all_up_to p n ≡ true → all_up_to p m ≡ true
all_below p n m le e = all_from p m (λ k low high. all_each p n k e low (omega arith))

pub all_fails : (p : ℕ → Bool) (n k : ℕ) → 1 ≤ k → k ≤ n → p k ≡ false → all_up_to p n ≡ false
all_fails p n k low high e = go (all_up_to p n) refl
  where
    go : (b : Bool) → all_up_to p n ≡ b → b ≡ false
    go true all = let passes = all_each p n k all low high in absurd cc
    go false all = refl
