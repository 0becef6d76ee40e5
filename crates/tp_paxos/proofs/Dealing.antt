-- Ballots are dealt out round the ranks: the first of a rank from a ballot on.
use Rattle.std.proofs.Common.{◌≡◌, ◌≢◌, ℕ, ◌+◌, ◌-◌, ◌%◌, ◌<◌, ◌≤◌, ◌⊎◌, inl, inr, sym, ap, ◌∙◌, arith}
use Rattle.std.proofs.Math.Nat.{add-mod_right, mod-add-mod, mod-eq_of_lt, mod-lt}
use Rattle.std.proofs.lemmas.Bool.{cases_lt}
use Rattle.tp_topology.specs.Ballots.{first_ballot, owner}
use Rattle.tp_topology.specs.Shape.{Shape}

-- the rank that is so many steps from rank o on
landed : (r o e k : ℕ) → 1 ≤ o → o ≤ r → e < r → ((o + e) ≡ k) ⊎ ((o + e) ≡ k + r) → 1 ≤ k → k ≤ r → (o - 1 + e) % r + 1 ≡ k
landed r o e k low high few (inl near) some within =
    let at : (o - 1 + e) % r ≡ o - 1 + e = mod-eq_of_lt (omega arith) in omega arith
landed r o e k low high few (inr far) some within =
    let split : o - 1 + e ≡ (k - 1) + r = omega arith in
    let at : (o - 1 + e) % r ≡ k - 1 = ap (λ (n : ℕ). n % r) split ∙ add-mod_right (k - 1) r ∙ mod-eq_of_lt (omega arith) in
    omega arith

-- and how many steps a rank is from rank o on
distance : (r o k : ℕ) → 1 ≤ o → o ≤ r → 1 ≤ k → k ≤ r → ((o + (k + r - o) % r) ≡ k) ⊎ ((o + (k + r - o) % r) ≡ k + r)
distance r o k low high some within = elim (cases_lt k o) [
  | inl before ↦ let at : (k + r - o) % r ≡ k + r - o = mod-eq_of_lt (omega arith) in inr (omega arith)
  | inr from ↦
      let split : k + r - o ≡ (k - o) + r = omega arith in
      let at : (k + r - o) % r ≡ k - o = ap (λ (n : ℕ). n % r) split ∙ add-mod_right (k - o) r ∙ mod-eq_of_lt (omega arith) in
      inl (omega arith)
]

owner_low : (s : Shape) (b : ℕ) → 1 ≤ owner s b
owner_low s b = omega arith

owner_high : (s : Shape) (b : ℕ) → 1 ≤ s.replicas → owner s b ≤ s.replicas
owner_high s b some = let lt : (b - 1) % s.replicas < s.replicas = mod-lt (b - 1) (omega arith) in omega arith

-- the owner of a ballot that is e further on
owner_further : (s : Shape) (from e : ℕ) → 1 ≤ from → owner s (from + e) ≡ (owner s from - 1 + e) % s.replicas + 1
owner_further s from e some =
    let split : from + e - 1 ≡ (from - 1) + e = omega arith in
    let left : owner s from - 1 ≡ (from - 1) % s.replicas = omega arith in
    ap (λ (n : ℕ). n % s.replicas + 1) split
    ∙ ap (λ (n : ℕ). n + 1) (sym (mod-add-mod (from - 1) s.replicas e))
    ∙ ap (λ (n : ℕ). (n + e) % s.replicas + 1) (sym left)

abbrev steps : Shape → ℕ → ℕ → ℕ
steps s rank from = (rank + s.replicas - owner s from) % s.replicas

steps_few : (s : Shape) (rank from : ℕ) → 1 ≤ s.replicas → steps s rank from < s.replicas
steps_few s rank from some = mod-lt (rank + s.replicas - owner s from) (omega arith)

pub first_owner : (s : Shape) (rank from : ℕ) → 1 ≤ rank → rank ≤ s.replicas → 1 ≤ from → owner s (first_ballot s rank from) ≡ rank
first_owner s rank from some within one =
    let r : 1 ≤ s.replicas = omega arith in
    owner_further s from (steps s rank from) one
    ∙ landed s.replicas (owner s from) (steps s rank from) rank (owner_low s from) (owner_high s from r) (steps_few s rank from r)
    (distance s.replicas (owner s from) rank (owner_low s from) (owner_high s from r) some within) some within

nearest : (r o d e k : ℕ) → o ≤ r → k ≤ r → d < r → e < d → ((o + d) ≡ k) ⊎ ((o + d) ≡ k + r) → 1 ≤ k → 1 ≤ o → (o - 1 + e) % r + 1 ≢ k
nearest r o d e k high within few lt (inl near) some low same =
    let at : (o - 1 + e) % r ≡ o - 1 + e = mod-eq_of_lt (omega arith) in absurd (omega arith)
nearest r o d e k high within few lt (inr far) some low same = elim (cases_lt (o - 1 + e) r) [
  | inl short ↦ let at : (o - 1 + e) % r ≡ o - 1 + e = mod-eq_of_lt short in absurd (omega arith)
  | inr long ↦
      let split : o - 1 + e ≡ (o - 1 + e - r) + r = omega arith in
      let at : (o - 1 + e) % r ≡ o - 1 + e - r = ap (λ (n : ℕ). n % r) split ∙ add-mod_right (o - 1 + e - r) r ∙ mod-eq_of_lt (omega arith) in
      absurd (omega arith)
]

pub first_least : (s : Shape) (rank from b : ℕ) → 1 ≤ rank → rank ≤ s.replicas → 1 ≤ from → from ≤ b → owner s b ≡ rank → first_ballot s rank from ≤ b
first_least s rank from b some within one later owned =
    let r : 1 ≤ s.replicas = omega arith in
    elim (cases_lt b (first_ballot s rank from)) [
      | inl before ↦
          let split : from + (b - from) ≡ b = omega arith in
          let at : (owner s from - 1 + (b - from)) % s.replicas + 1 ≡ rank = sym (owner_further s from (b - from) one) ∙ ap (owner s) split ∙ owned in
          absurd (nearest s.replicas (owner s from) (steps s rank from) (b - from) rank (owner_high s from r) within (steps_few s rank from r) (omega arith)
          (distance s.replicas (owner s from) rank (owner_low s from) (owner_high s from r) some within) some (owner_low s from) at)
      | inr from ↦ from
    ]
