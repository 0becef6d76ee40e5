-- The owners of promised numbers: of the attached promises, newest first, and of those that are announced.
-- Used for the facts about announcements, and to tell a proposal's stamp from its owner.
use Rattle.std.proofs.Common.{◌≡◌, ◌≢◌, ℕ, ◌-◌, ◌<◌, ◌≤◌, inl, inr, List, [], ◌∷◌, ◌++◌, Option, Some, None, refl, sym, ap, ◌∙◌, cond, arith}
use Rattle.std.proofs.lemmas.Bool.{cases_eq, cond-false, cond-true, cond_both, eq-eqb, ltb-false, ne_eqb}
use Rattle.std.proofs.lemmas.List.{reverse-append}
use Rattle.std.specs.Prelude.{filter, nat_lt, reverse, ◌==◌}
use Rattle.tp_base.specs.declared.names.CommandId.{CommandId}
use Rattle.tp_base.specs.declared.names.Pair.{Pair}
use Rattle.tp_base.specs.Lists.{IsIn}
use Rattle.tp_rules.proofs.fit.Promises.{Descends}
use Rattle.tp_topology.specs.Stability.{attached_to}

-- no number above the greatest is attached
attached_none : (top : ℕ) (pairs : List Pair) (n : ℕ) → Descends top pairs → top < n → attached_to pairs n ≡ None
attached_none top [] n h lt = refl
attached_none top (p ∷ ps) n h lt =
    cond-false (p.stamp.0 == n) (Some p.id) (attached_to ps n)
    (ne_eqb p.stamp.0 n (λ e. absurd (omega (arith, e, h.0.1))))
    ∙ attached_none (p.stamp.0 - 1) ps n h.1 (omega (arith, h.0.1))

push_none : (xs : List Pair) (p : Pair) (n : ℕ) → attached_to xs n ≡ None
    → attached_to (xs ++ p ∷ []) n ≡ cond (p.stamp.0 == n) (Some p.id) None
push_none [] p n none = refl
push_none (x ∷ xs) p n h = cond_both (x.stamp.0 == n) (Some x.id) (attached_to xs n)
    (λ (o : Option CommandId). o ≡ None
    → cond (x.stamp.0 == n) (Some x.id) (attached_to (xs ++ p ∷ []) n) ≡ cond (p.stamp.0 == n) (Some p.id) None)
    (λ y none. absurd cc)
    (λ f none. cond-false (x.stamp.0 == n) (Some x.id) (attached_to (xs ++ p ∷ []) n) f ∙ push_none xs p n none) h

push_other : (xs : List Pair) (p : Pair) (n : ℕ) → p.stamp.0 ≢ n → attached_to (xs ++ p ∷ []) n ≡ attached_to xs n
push_other [] p n apart = cond-false (p.stamp.0 == n) (Some p.id) None (ne_eqb p.stamp.0 n apart)
push_other (x ∷ xs) p n apart =
    ap (λ (o : Option CommandId). cond (x.stamp.0 == n) (Some x.id) o) (push_other xs p n apart)

-- the promises that are announced have the owners that they have among all
pub untold_owner : (lo top : ℕ) (pairs : List Pair) (n : ℕ) → Descends top pairs → lo < n
    → attached_to (reverse (filter (λ pair. nat_lt lo pair.stamp.0) pairs)) n ≡ attached_to pairs n
untold_owner lo top [] n h lt = refl
untold_owner lo top (p ∷ ps) n h lt =
    let rest : List Pair = filter (λ (pair : Pair). nat_lt lo pair.stamp.0) ps in
    let same : attached_to (reverse rest) n ≡ attached_to ps n = untold_owner lo (p.stamp.0 - 1) ps n h.1 lt in
    cond_both (nat_lt lo p.stamp.0) (p ∷ rest) rest
    (λ (ys : List Pair). attached_to (reverse ys) n ≡ attached_to (p ∷ ps) n)
    (λ y. ap (λ (ys : List Pair). attached_to ys n) (reverse-append (p ∷ []) rest) ∙ elim (cases_eq p.stamp.0 n) [
      | inl here ↦
          let none : attached_to ps n ≡ None = attached_none (p.stamp.0 - 1) ps n h.1 (omega (arith, here, h.0.0)) in
          push_none (reverse rest) p n (same ∙ none)
          ∙ ap (λ (o : Option CommandId). cond (p.stamp.0 == n) (Some p.id) o) (sym none)
      | inr apart ↦ push_other (reverse rest) p n apart ∙ same
          ∙ sym (cond-false (p.stamp.0 == n) (Some p.id) (attached_to ps n) (ne_eqb p.stamp.0 n apart))
    ])
    (λ f. let low = ltb-false lo p.stamp.0 f in
    same ∙ sym
    (cond-false (p.stamp.0 == n) (Some p.id) (attached_to ps n)
    (ne_eqb p.stamp.0 n (λ e. absurd (omega (arith, e, low))))))

-- an attached number has its command as owner
pub owner_of : (top : ℕ) (pairs : List Pair) (p : Pair) → Descends top pairs → IsIn p pairs
    → attached_to pairs p.stamp.0 ≡ Some p.id
owner_of top [] p h there = absurd there
owner_of top (q ∷ qs) p h (inl e) =
    cond-true (q.stamp.0 == p.stamp.0) (Some q.id) (attached_to qs p.stamp.0)
    (eq-eqb q.stamp.0 p.stamp.0 (ap (λ (x : Pair). x.stamp.0) (sym e)))
    ∙ ap (λ (x : Pair). Some x.id) (sym e)
owner_of top (q ∷ qs) p h (inr there) =
    let below : p.stamp.0 ≤ q.stamp.0 - 1 = within (q.stamp.0 - 1) qs p h.1 there in
    cond-false (q.stamp.0 == p.stamp.0) (Some q.id) (attached_to qs p.stamp.0)
    (ne_eqb q.stamp.0 p.stamp.0 (λ e. absurd (omega (arith, e, below, h.0.0))))
    ∙ owner_of (q.stamp.0 - 1) qs p h.1 there
  where
    within : (top : ℕ) (pairs : List Pair) (p : Pair) → Descends top pairs → IsIn p pairs → p.stamp.0 ≤ top
    within top [] p h there = absurd there
    within top (q ∷ qs) p h (inl e) =
        let same : p.stamp.0 ≡ q.stamp.0 = ap (λ (x : Pair). x.stamp.0) e in omega (arith, same, h.0.1)
    within top (q ∷ qs) p h (inr there) = let rest = within (q.stamp.0 - 1) qs p h.1 there in omega (arith, rest, h.0.1)
