-- The attached promises of a process stand with the newest first, their stamps descending; those that it announces ascend.
use Rattle.std.proofs.Common.{ℕ, ◌-◌, ◌<◌, ◌≤◌, List, [], ◌∷◌, ◌++◌, sym, subst, arith}
use Rattle.std.proofs.lemmas.Bool.{cond_both, ltb-true}
use Rattle.std.specs.Prelude.{filter, nat_lt, reverse}
use Rattle.std.proofs.lemmas.List.{reverse-append}
use Rattle.tp_base.specs.Limits.{IsFrom, IsId}
use Rattle.tp_base.specs.Lists.{Each}
use Rattle.tp_base.specs.declared.names.Pair.{Pair}
use Rattle.tp_wire.specs.Ranges.{IsAttached}

-- each stamp at least 1 and below the one before it, the first one at most `top`
abbrev pub Descends : ℕ → List Pair → Type 0
Descends top [] = Unit {0}
Descends top (pair ∷ pairs) = IsFrom 1 top pair.stamp.0 × Descends (pair.stamp.0 - 1) pairs

pub descends_higher : (low high : ℕ) (pairs : List Pair) → low ≤ high → Descends low pairs → Descends high pairs
descends_higher low high [] le h = tt
descends_higher low high (pair ∷ pairs) le h = ((h.0.0, omega (arith, h.0.1)), h.1)

attached_higher : (lo low high : ℕ) (pairs : List Pair) → low ≤ high → IsAttached lo low pairs → IsAttached lo high pairs
attached_higher lo low high [] le h = tt
attached_higher lo low high (pair ∷ pairs) le h =
    (h.0, (h.1.0, omega (arith, h.1.1)), attached_higher pair.stamp.0 low high pairs le h.2)

-- one more at the end, above all others
attached_push : (lo top hi : ℕ) (pairs : List Pair) (pair : Pair) → IsAttached lo top pairs
    → IsId pair.id → lo < pair.stamp.0 → top < pair.stamp.0 → pair.stamp.0 ≤ hi → IsAttached lo hi (pairs ++ pair ∷ [])
attached_push lo top hi [] pair h is_id above above_top within = (is_id, (omega arith, within), tt)
attached_push lo top hi (first ∷ pairs) pair h is_id above above_top within = (
  h.0,
  (h.1.0, omega (arith, h.1.1)),
  attached_push first.stamp.0 top hi pairs pair h.2 is_id (omega (arith, h.1.1)) above_top within,
)

-- the attached promises above `lo`, turned round
pub untold_attached : (lo top : ℕ) (pairs : List Pair) → Descends top pairs → Each (λ pair. IsId pair.id) pairs
    → IsAttached lo top (reverse (filter (λ pair. nat_lt lo pair.stamp.0) pairs))
untold_attached lo top [] h ids = tt
untold_attached lo top (pair ∷ pairs) h ids =
    let rest = filter (λ (other : Pair). nat_lt lo other.stamp.0) pairs in
    let below : ℕ = pair.stamp.0 - 1 in
    let old : IsAttached lo below (reverse rest) = untold_attached lo below pairs h.1 ids.1 in
    cond_both (nat_lt lo pair.stamp.0) (pair ∷ rest) rest (λ (ps : List Pair). IsAttached lo top (reverse ps))
    (λ t. subst (IsAttached lo top) (sym (reverse-append (pair ∷ []) rest))
    (attached_push lo below top (reverse rest) pair old ids.0 (ltb-true lo pair.stamp.0 t) (omega (arith, h.0.0)) h.0.1))
    (λ f. attached_higher lo below top (reverse rest) (omega (arith, h.0.1)) old)
