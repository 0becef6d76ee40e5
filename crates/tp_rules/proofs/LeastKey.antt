-- No waiting command has a smaller key than the least one.
-- Used where an executor declares or executes its least waiting command.
use Rattle.std.proofs.Common.{◌≡◌, inl, inr, true, false, List, [], ◌∷◌, Option, Some, None, refl, sym, subst}
use Rattle.std.proofs.lemmas.Bool.{cond_both, false_from_ne_true}
use Rattle.tp_base.specs.Lists.{IsIn}
use Rattle.tp_base.specs.Names.{key_lt}
use Rattle.tp_base.proofs.SameNames.{key_lt_self, key_lt_then, key_cases}
use Rattle.tp_base.specs.declared.names.Key.{Key}
use Rattle.tp_rules.specs.Executor.{Committed, least, lesser}

-- the first key is not above the second
abbrev IsAtMost : Key → Key → Type 0
IsAtMost a b = key_lt b a ≡ false

smaller_at_most : (a b : Key) → key_lt a b ≡ true → IsAtMost a b
smaller_at_most a b smaller = false_from_ne_true (key_lt b a) (λ back.
    let around : key_lt a a ≡ true = key_lt_then a b a smaller back in
    let itself : key_lt a a ≡ false = key_lt_self a in
    absurd cc)

smaller_then_at_most : (a b c : Key) → key_lt a b ≡ true → IsAtMost b c → key_lt a c ≡ true
smaller_then_at_most a b c smaller at_most = elim (key_cases b c) [
  | inl same ↦ subst (λ (k : Key). key_lt a k ≡ true) same smaller
  | inr (inl less) ↦ key_lt_then a b c smaller less
  | inr (inr more) ↦ absurd cc
]

at_most_then : (a b c : Key) → IsAtMost a b → IsAtMost b c → IsAtMost a c
at_most_then a b c first second = false_from_ne_true (key_lt c a) (λ smaller.
    let below : key_lt c b ≡ true = smaller_then_at_most c a b smaller first in
    absurd cc)

lesser_at_most : (c d : Committed) → IsAtMost (lesser c (Some d)).key c.key × IsAtMost (lesser c (Some d)).key d.key
lesser_at_most c d =
    cond_both (key_lt d.key c.key) d c (λ (x : Committed). IsAtMost x.key c.key × IsAtMost x.key d.key)
    (λ smaller. (smaller_at_most d.key c.key smaller, key_lt_self d.key))
    (λ at_most. (key_lt_self c.key, at_most))

none_is_empty : (cs : List Committed) (x : Committed) → least cs ≡ None → IsIn x cs → ⊥
none_is_empty [] x none there = there
none_is_empty (d ∷ ds) x none there = cc

-- the least of a list is at most each of them
pub least_at_most : (cs : List Committed) (c x : Committed) → least cs ≡ Some c → IsIn x cs → key_lt x.key c.key ≡ false
least_at_most [] c x is there = absurd there
least_at_most (d ∷ ds) c x is there = by_rest (least ds) refl is there (λ b rest later. least_at_most ds b x rest later)
  where
    by_rest : (o : Option Committed) → least ds ≡ o → Some (lesser d o) ≡ Some c → IsIn x (d ∷ ds) →
        ((b : Committed) → least ds ≡ Some b → IsIn x ds → IsAtMost b.key x.key) → IsAtMost c.key x.key
    by_rest None none only (inl same) rest =
        let first : d ≡ c = cc in
        subst (λ (y : Committed). IsAtMost c.key y.key) (sym same)
        (subst (λ (y : Committed). IsAtMost y.key d.key) first (key_lt_self d.key))
    by_rest None none only (inr later) rest = absurd (none_is_empty ds x none later)
    by_rest (Some b) some both (inl same) rest =
        let lesser_one : lesser d (Some b) ≡ c = cc in
        subst (λ (y : Committed). IsAtMost c.key y.key) (sym same)
        (subst (λ (y : Committed). IsAtMost y.key d.key) lesser_one (lesser_at_most d b).0)
    by_rest (Some b) some both (inr later) rest =
        let lesser_one : lesser d (Some b) ≡ c = cc in
        at_most_then c.key b.key x.key
        (subst (λ (y : Committed). IsAtMost y.key b.key) lesser_one (lesser_at_most d b).1) (rest b some later)
