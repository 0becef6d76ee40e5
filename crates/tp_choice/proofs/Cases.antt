-- The cases of the recovery choice.
use Rattle.std.proofs.Common.{◌≡◌, ◌≢◌, ℕ, ◌<◌, ◌≤◌, ◌⊎◌, inl, inr, Bool, true, false, cond, List, [], ◌∷◌, Option, Some, None, refl, sym, ap, subst, ◌∙◌, arith}
use Rattle.std.specs.Prelude.{◌==◌, ◌&&◌, ◌||◌, nat_lt}
use Rattle.std.specs.List.{list_any}
use Rattle.std.proofs.lemmas.Bool.{cases_lt, and_parts, or_cases, eqb-true}
use Rattle.tp_base.proofs.Tests.{none_in, some_in}
use Rattle.tp_base.specs.declared.names.Made.{Made}
use Rattle.tp_base.specs.declared.names.Made.TheVariants.{Proposal, Recovery}
use Rattle.tp_base.specs.Lists.{IsIn}
use Rattle.tp_choice.specs.declared.answer.RecoveryAnswer.{RecoveryAnswer}
use Rattle.tp_choice.specs.Choosing.{best_from, better, chosen_of_proposals, chosen_with, greatest_by, is_over, is_recovery, member_stamp, recovery_choice, tells_slow, IsChosen, accepted, of_all, of_members}

-- b is not better than a
abbrev IsUnder : RecoveryAnswer → RecoveryAnswer → Type 0
IsUnder b a = (b.accepted < a.accepted) ⊎ ((b.accepted ≡ a.accepted) × (a.rank.0 ≤ b.rank.0))

under_self : (a : RecoveryAnswer) → IsUnder a a
under_self a = inr (refl, omega arith)

under_then : (c b a : RecoveryAnswer) → IsUnder c b → IsUnder b a → IsUnder c a
under_then c b a (inl low) (inl lower) = inl (omega arith)
under_then c b a (inl low) (inr same) = inl (omega (arith, same.0))
under_then c b a (inr same) (inl lower) = inl (omega (arith, same.0))
under_then c b a (inr same) (inr as') = inr (omega (arith, same.0, as'.0), omega (arith, same.1, as'.1))

over_is : (a b : RecoveryAnswer) → is_over a b ≡ true → IsUnder b a
over_is a b e = grind arith

not_over : (a b : RecoveryAnswer) → is_over a b ≡ false → IsUnder a b
not_over a b e = grind arith

-- the better one is either, and neither is better than it

record IsBetter (x : RecoveryAnswer) (f : RecoveryAnswer) (b : RecoveryAnswer) : Type 0 where
  either : (b ≡ x) ⊎ (b ≡ f)
  first : IsUnder x b
  second : IsUnder f b

better_of : (x f : RecoveryAnswer) (t : Bool) → is_over x f ≡ t → IsBetter x f (cond t x f)
better_of x f true e = record { either = inl refl; first = under_self x; second = over_is x f e }
better_of x f false e = record { either = inr refl; first = not_over x f e; second = under_self f }

-- an answer that was there or was found before
abbrev IsAmong : RecoveryAnswer → Option RecoveryAnswer → List RecoveryAnswer → Type 0
IsAmong b found answers = IsIn b answers ⊎ (found ≡ Some b)

record IsBest (found : Option RecoveryAnswer) (answers : List RecoveryAnswer) (a : RecoveryAnswer) : Type 0 where
  among : IsAmong a found answers
  over : (b : RecoveryAnswer) → IsAmong b found answers → IsUnder b a

best_some : (f : RecoveryAnswer) (answers : List RecoveryAnswer) → (a : RecoveryAnswer) × (best_from (Some f) answers ≡ Some a) × IsBest (Some f) answers a
best_some f [] = (f, refl, record { among = inr refl; over = λ b h. elim h [ inl h ↦ absurd h | inr e ↦ let same : f ≡ b = cc in subst (λ (x : RecoveryAnswer). IsUnder x f) same (under_self f) ] })
best_some f (x ∷ xs) =
    let b : RecoveryAnswer = better x (Some f) in
    let is : IsBetter x f b = better_of x f (is_over x f) refl in
    let rest = best_some b xs in
    let low : IsUnder b rest.0 = rest.2.over b (inr refl) in (
      rest.0,
      rest.1,
      record {
        among = elim rest.2.among [
          | inl h ↦ inl (inr h)
          | inr e ↦ let same : b ≡ rest.0 = cc in elim is.either [ inl here ↦ inl (inl (sym same ∙ here)) | inr there ↦ inr (ap (λ (y : RecoveryAnswer). Some y) (sym there ∙ same)) ]
        ];
        over = λ y h. elim h [
          | inl h ↦ elim h [
            | inl e ↦ subst (λ (z : RecoveryAnswer). IsUnder z rest.0) (sym e) (under_then x b rest.0 is.first low)
            | inr later ↦ rest.2.over y (inl later)
          ]
          | inr e ↦ let same : f ≡ y = cc in subst (λ (z : RecoveryAnswer). IsUnder z rest.0) same (under_then f b rest.0 is.second low)
        ];
      },
    )

-- of some answers there is a best one
best_of : (x : RecoveryAnswer) (xs : List RecoveryAnswer)
    → (a : RecoveryAnswer) × (best_from None (x ∷ xs) ≡ Some a) × IsIn a (x ∷ xs) × ((b : RecoveryAnswer) → IsIn b (x ∷ xs) → IsUnder b a)
best_of x xs =
    let best = best_some x xs in (
      best.0,
      best.1,
      elim best.2.among [ inl h ↦ inr h | inr e ↦ let same : x ≡ best.0 = cc in inl (sym same) ],
      λ b h. elim h [ inl e ↦ best.2.over b (inr (ap (λ (y : RecoveryAnswer). Some y) (sym e))) | inr later ↦ best.2.over b (inl later) ],
    )

-- lists

pub greatest_over : (f : RecoveryAnswer → ℕ) (xs : List RecoveryAnswer) (x : RecoveryAnswer) → IsIn x xs → f x ≤ greatest_by f xs
greatest_over f [] x h = absurd h
greatest_over f (y ∷ ys) x (inl e) = let same : f x ≡ f y = ap f e in omega arith
greatest_over f (y ∷ ys) x (inr h) = let rest = greatest_over f ys x h in omega arith

greatest_of : (f : RecoveryAnswer → ℕ) (xs : List RecoveryAnswer) → 0 < greatest_by f xs → (a : RecoveryAnswer) × IsIn a xs × (f a ≡ greatest_by f xs)
greatest_of f [] some = absurd (omega arith)
greatest_of f (y ∷ ys) some = elim (cases_lt (f y) (greatest_by f ys)) [
  | inl later ↦ let rest = greatest_of f ys (omega arith) in (rest.0, inr rest.1, omega (arith, rest.2))
  | inr here ↦ (y, inl refl, omega arith)
]

-- the cases

made_by : (made : Made) → is_recovery made ≡ true → made ≡ Recovery
made_by Proposal e = absurd cc
made_by Recovery e = refl

made_as : (made : Made) → is_recovery made ≡ false → made ≡ Proposal
made_as Proposal e = refl
made_as Recovery e = absurd cc

slow_is : (in_quorum : ℕ → Bool) (home : ℕ) (a : RecoveryAnswer) → tells_slow in_quorum home a ≡ true → (in_quorum a.rank.0 ≡ true) × ((a.rank.0 ≡ home) ⊎ (a.made ≡ Recovery))
slow_is in_quorum home a e = let parts = and_parts (in_quorum a.rank.0) ((a.rank.0 == home) || is_recovery a.made) e in
    (parts.0, elim (or_cases (a.rank.0 == home) (is_recovery a.made) parts.1) [ inl same ↦ inl (eqb-true a.rank.0 home same) | inr made ↦ inr (made_by a.made made) ])

not_slow : (in_quorum : ℕ → Bool) (home : ℕ) (a : RecoveryAnswer) → tells_slow in_quorum home a ≡ false → in_quorum a.rank.0 ≡ true → (a.rank.0 ≢ home) × (a.made ≡ Proposal)
not_slow in_quorum home a e member = go (in_quorum a.rank.0) member e
  where
    go : (t : Bool) → t ≡ true → (t && ((a.rank.0 == home) || is_recovery a.made)) ≡ false → (a.rank.0 ≢ home) × (a.made ≡ Proposal)
    go true m e = (λ same. grind arith, let made : is_recovery a.made ≡ false = grind arith in made_as a.made made)
    go false m e = absurd cc

is_stamp : (in_quorum : ℕ → Bool) (a : RecoveryAnswer) (n : ℕ) → member_stamp in_quorum a ≡ n → 0 < n → (in_quorum a.rank.0 ≡ true) × (a.stamp.0 ≡ n)
is_stamp in_quorum a n e some = go (in_quorum a.rank.0) refl e
  where
    go : (t : Bool) → in_quorum a.rank.0 ≡ t → cond t a.stamp.0 0 ≡ n → (in_quorum a.rank.0 ≡ true) × (a.stamp.0 ≡ n)
    go true m e = (m, e)
    go false m e = absurd (omega arith)

proposals : (in_quorum : ℕ → Bool) (home : ℕ) (answers : List RecoveryAnswer) → ((b : RecoveryAnswer) → IsIn b answers → b.accepted ≡ 0)
    → IsChosen in_quorum home answers (chosen_of_proposals in_quorum home answers)
proposals in_quorum home answers none = go (list_any (tells_slow in_quorum home) answers) refl
  where
    go : (t : Bool) → list_any (tells_slow in_quorum home) answers ≡ t
        → IsChosen in_quorum home answers (cond t (greatest_by (λ a. a.stamp.0) answers) (greatest_by (member_stamp in_quorum) answers))
    go true e = let m = some_in (tells_slow in_quorum home) answers e in let is = slow_is in_quorum home m.0 m.2 in
        of_all none m.0 m.1 is.0 is.1 (greatest_over (λ a. a.stamp.0) answers) (greatest_of (λ a. a.stamp.0) answers)
    go false e = of_members none
        (λ b h member. not_slow in_quorum home b (none_in (tells_slow in_quorum home) answers b e h) member)
        (λ b h member. subst (λ (n : ℕ). n ≤ greatest_by (member_stamp in_quorum) answers) (ap (λ (t : Bool). cond t b.stamp.0 0) member) (greatest_over (member_stamp in_quorum) answers b h))
        (λ some. let a = greatest_of (member_stamp in_quorum) answers some in let is = is_stamp in_quorum a.0 (greatest_by (member_stamp in_quorum) answers) a.2 some in (a.0, a.1, is.0, is.1))

with_best : (in_quorum : ℕ → Bool) (home : ℕ) (answers : List RecoveryAnswer) (a : RecoveryAnswer) → IsIn a answers → ((b : RecoveryAnswer) → IsIn b answers → IsUnder b a)
    → IsChosen in_quorum home answers (chosen_with in_quorum home answers (Some a))
with_best in_quorum home answers a here over = go (nat_lt 0 a.accepted) refl
  where
    nothing : a.accepted ≡ 0 → (b : RecoveryAnswer) → IsUnder b a → b.accepted ≡ 0
    nothing e b (inl low) = omega arith
    nothing e b (inr same) = omega (arith, same.0)

    go : (t : Bool) → nat_lt 0 a.accepted ≡ t → IsChosen in_quorum home answers (cond t a.stamp.0 (chosen_of_proposals in_quorum home answers))
    go true e = let some : 0 < a.accepted = grind arith in accepted a here some refl over
    go false e = let zero' : a.accepted ≡ 0 = grind arith in proposals in_quorum home answers (λ b h. nothing zero' b (over b h))

-- which case the choice took, for every list of answers
pub choice_cases : (in_quorum : ℕ → Bool) (home : ℕ) (answers : List RecoveryAnswer) → IsChosen in_quorum home answers (recovery_choice in_quorum home answers)
unfolding recovery_choice
choice_cases in_quorum home [] = proposals in_quorum home [] (λ b h. absurd h)
choice_cases in_quorum home (x ∷ xs) =
    let best = best_of x xs in
    subst (λ (o : Option RecoveryAnswer). IsChosen in_quorum home (x ∷ xs) (chosen_with in_quorum home (x ∷ xs) o)) (sym best.1) (with_best in_quorum home (x ∷ xs) best.0 best.2 best.3)
