-- Two lists of sites: where no site stands more often in the one than in the other, and some site less often, the one is
-- shorter. Used for the crashes and recoveries of a plan.
use Rattle.std.proofs.Common.{◌≡◌, ℕ, suc, ◌+◌, ◌<◌, ◌≤◌, inl, inr, Bool, true, false, List, [], ◌∷◌, length, refl, ap, subst, arith}
use Rattle.std.specs.Prelude.{filter}
use Rattle.std.proofs.lemmas.Bool.{cases_Bool}
use Rattle.tp_base.specs.Names.{same_site}
use Rattle.tp_base.proofs.SameNames.{same_site_refl, same_site_is}
use Rattle.tp_base.specs.declared.names.Site.{Site}
use Rattle.tp_rules.proofs.lists.Tallies.{count_yes, count_no, filter_length}

-- how often a site is in a list
unfoldable pub often : Site → List Site → ℕ
often s sites = length (filter (λ x. same_site x s) sites)

-- 1 where both are one site
abbrev pub one_if : Bool → ℕ
one_if true = 1
one_if false = 0

pub often_none : (s : Site) → often s [] ≡ 0
unfolding often
often_none s = refl

pub often_more : (s x : Site) (sites : List Site) → often s (x ∷ sites) ≡ one_if (same_site x s) + often s sites
unfolding often
often_more s x sites = elim (cases_Bool (same_site x s)) [
  | inl t ↦ let one : one_if (same_site x s) ≡ 1 = ap one_if t in omega (arith, count_yes (λ (y : Site). same_site y s) x sites t)
  | inr f ↦ let none : one_if (same_site x s) ≡ 0 = ap one_if f in omega (arith, count_no (λ (y : Site). same_site y s) x sites f)
]

often_within : (s : Site) (sites : List Site) → often s sites ≤ length sites
unfolding often
often_within s sites = filter_length (λ x. same_site x s) sites

-- a list without one of its sites
record Without (x : Site) (sites : List Site) : Type 0 where
  rest : List Site
  shorter : length sites ≡ suc (length rest)
  same : (s : Site) → often s sites ≡ one_if (same_site x s) + often s rest

without : (x : Site) (sites : List Site) → 0 < often x sites → Without x sites
without x [] some = absurd (omega (arith, often_none x))
without x (y ∷ ys) some = elim (cases_Bool (same_site y x)) [
  | inl t ↦
      record { rest = ys; shorter = refl; same = λ s. subst (λ (z : Site). often s (y ∷ ys) ≡ one_if (same_site z s) + often s ys) (same_site_is y x t) (often_more s y ys) }
  | inr f ↦
      let none : one_if (same_site y x) ≡ 0 = ap one_if f in
      let deeper = without x ys (omega (arith, often_more x y ys)) in
      record {
        rest = y ∷ deeper.rest;
        shorter = ap (λ (n : ℕ). suc n) deeper.shorter;
        same = λ s. omega (arith, often_more s y ys, deeper.same s, often_more s y deeper.rest);
      }
]

pub fewer_sites : (es ls : List Site) (s : Site) → ((x : Site) → often x es ≤ often x ls) → often s es < often s ls → length es < length ls
fewer_sites [] ls s h less = omega (arith, often_within s ls)
fewer_sites (e ∷ es) ls s h less =
    let self : one_if (same_site e e) ≡ 1 = ap one_if (same_site_refl e) in
    let cut = without e ls (omega (arith, h e, often_more e e es)) in
    let deeper = fewer_sites es cut.rest s (λ x. omega (arith, h x, often_more x e es, cut.same x)) (omega (arith, often_more s e es, cut.same s)) in
    omega (arith, cut.shorter)
