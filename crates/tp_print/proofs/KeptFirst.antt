-- A command's first results, by partition from 1: what stands there, and one more.
use Rattle.std.proofs.Common.{◌≡◌, ℕ, zero, suc, ◌-◌, ◌≤◌, inl, inr, Bool, true, false, cond, Bor, List, length, get_or, set, Option, Some, None, map, option_map, refl, sym, ap, ◌∙◌, arith}
use Rattle.std.specs.Option.{option_copied, option_or}
use Rattle.std.specs.Prelude.{◌==◌, is_some, slice_get}
use Rattle.std.proofs.lemmas.Bool.{cases_eq, eq-eqb, ne_eqb}
use Rattle.std.proofs.lemmas.Option.{slice_get-map, slice_get_read}
use Rattle.tp_base.proofs.Ends.{get_set_other, get_set_same}
use Rattle.tp_base.proofs.Options.{absent}
use Rattle.tp_base.specs.Tables.{flat, kept_at}
use Rattle.tp_ops.specs.declared.operation.Answer.{Answer}

-- references to the answers of each partition
abbrev Table : Type 0
Table = List (Option (Bor (List Answer)))

pub option_or_none : {X : Type 0} (o : Option X) → option_or o None ≡ o
option_or_none None = refl
option_or_none (Some x) = refl

-- the reference that stands at a place
found : (xs : Table) (place : ℕ) (o : Option (Bor (List Answer))) → slice_get xs place ≡ Some o
    → kept_at (map option_copied xs) (suc place) ≡ option_copied o
found xs place o at = ap flat (slice_get-map option_copied xs place ∙ ap (option_map option_copied) at)

module _ (xs : Table) (p place : ℕ) (o : Option (Bor (List Answer))) (low : 1 ≤ p) (high : p ≤ 4)
    (size : length xs ≡ 4) (at : place ≡ p - 1) (is : o ≡ get_or xs place o) where
  read : slice_get xs place ≡ Some o
  read = slice_get_read xs (length xs) place o refl (omega (arith, size)) is

  pub kept_here : kept_at (map option_copied xs) p ≡ option_copied o
  kept_here = let next : p ≡ suc place = omega arith in ap (kept_at (map option_copied xs)) next ∙ found xs place o read

  -- where none stood, the new ones stand
  pub kept_with : (a : Bor (List Answer)) → is_some o ≡ false → (q : ℕ)
      → kept_at (map option_copied (set xs place (Some a))) q ≡ option_or (kept_at (map option_copied xs) q)
      (cond (p == q) (Some a.now) None)
  kept_with a none zero = sym (ap (λ (b : Bool). cond b (Some a.now) None) (ne_eqb p zero (λ e. omega arith)))
  kept_with a none (suc k) = elim (cases_eq k place) [
    | inl e ↦
        let same : p ≡ suc k = omega arith in
        let empty : kept_at (map option_copied xs) (suc k) ≡ None =
        ap (λ (i : ℕ). kept_at (map option_copied xs) (suc i)) e ∙ found xs place o read
        ∙ ap option_copied (absent o none) in
        ap (λ (i : ℕ). kept_at (map option_copied (set xs place (Some a))) (suc i)) e
        ∙ found (set xs place (Some a)) place (Some a) (get_set_same xs place (Some a) o read)
        ∙ sym (ap (λ (b : Bool). cond b (Some a.now) None) (eq-eqb p (suc k) same))
        ∙ ap (λ (before : Option (List Answer)). option_or before (cond (p == suc k) (Some a.now) None)) (sym empty)
    | inr apart ↦
        let other : (p == suc k) ≡ false = ne_eqb p (suc k) (λ e. apart (omega arith)) in
        ap flat (slice_get-map option_copied (set xs place (Some a)) k
        ∙ ap (option_map option_copied) (get_set_other xs place k (Some a) apart)
        ∙ sym (slice_get-map option_copied xs k))
        ∙ sym (ap (λ (b : Bool). option_or (kept_at (map option_copied xs) (suc k)) (cond b (Some a.now) None)) other
        ∙ option_or_none (kept_at (map option_copied xs) (suc k)))
  ]

  -- where some stand, they stay
  pub kept_still : (a : List Answer) → is_some o ≡ true → (q : ℕ)
      → kept_at (map option_copied xs) q ≡ option_or (kept_at (map option_copied xs) q) (cond (p == q) (Some a) None)
  kept_still a some q = elim (cases_eq p q) [
    | inl e ↦ stays o some q (sym (ap (kept_at (map option_copied xs)) e) ∙ kept_here)
    | inr apart ↦ sym (ap (λ (b : Bool). option_or (kept_at (map option_copied xs) q) (cond b (Some a) None))
        (ne_eqb p q apart)
        ∙ option_or_none (kept_at (map option_copied xs) q))
  ]
    where
      stays : (r : Option (Bor (List Answer))) → is_some r ≡ true → (q : ℕ)
          → kept_at (map option_copied xs) q ≡ option_copied r
          → kept_at (map option_copied xs) q ≡ option_or (kept_at (map option_copied xs) q)
          (cond (p == q) (Some a) None)
      stays None e q here = absurd cc
      stays (Some r) e q here = here
          ∙ sym (ap (λ (before : Option (List Answer)). option_or before (cond (p == q) (Some a) None)) here)
