-- What a recovery chooses is in range, and so is the next ballot that it tries: of as many answers as a recovery quorum has, one is
-- of the fast quorum.
use Rattle.std.proofs.Common.{◌≡◌, ℕ, zero, suc, ◌+◌, ◌-◌, ◌/◌, ◌%◌, ◌^◌, ◌<◌, ◌≤◌, inl, inr, Bool, true, false, cond, max, List, [], ◌∷◌, length, replicate, set, Option, Some, None, is_some, refl, sym, ap, subst, ◌∙◌, arith}
use Rattle.std.proofs.Math.Nat.{mod-lt}
use Rattle.std.proofs.lemmas.Bool.{cond_both, eqb-true, ltb-true, or_cases}
use Rattle.std.proofs.lemmas.List.{length-replicate}
use Rattle.std.specs.List.{list_any}
use Rattle.std.specs.Prelude.{nat_lt, slice_get, ◌||◌, ◌==◌}
use Rattle.tp_base.proofs.Each.{each_in, each_weaker}
use Rattle.tp_base.proofs.Tables.{length_with}
use Rattle.tp_base.specs.Lists.{Each, IsIn}
use Rattle.tp_base.specs.Tables.{flat, kept_at, with_nth}
use Rattle.tp_choice.proofs.Cases.{greatest_over}
use Rattle.tp_choice.specs.Choosing.{best_from, better, chosen_of_proposals, chosen_with, greatest_by, is_over, member_stamp, recovery_choice, tells_slow}
use Rattle.tp_choice.specs.declared.answer.RecoveryAnswer.{RecoveryAnswer}
use Rattle.tp_ops.specs.declared.command.Command.{Command}
use Rattle.tp_quorum.specs.Choice.{present}
use Rattle.tp_rules.proofs.fit.Stamps.{with_fit}
use Rattle.tp_rules.proofs.lists.Selections.{IfAny, each_replicate}
use Rattle.tp_rules.specs.Sheet.{QuorumRule, ring_rule}
use Rattle.tp_topology.proofs.Meetings.{IsShared, shared}
use Rattle.tp_topology.proofs.Passing.{all_each}
use Rattle.tp_topology.specs.Ballots.{next_ballot}
use Rattle.tp_topology.specs.Counting.{all_up_to, count_up_to}
use Rattle.tp_topology.specs.Shape.{IsShape, Shape, fast_size, in_ring, recovery_size}
use Rattle.tp_wire.specs.Ranges.{IsNumber}

-- the next ballot

pub next_ballot_number : (shape : Shape) (rank own tried : ℕ) → IsShape shape → own < 2 ^ 48 - 8 → tried < 2 ^ 48 - 8
    → IsNumber (next_ballot shape rank own tried)
next_ballot_number shape rank own tried is own_low tried_low =
    let from : ℕ = max shape.replicas (max own tried) + 1 in
    let steps : ℕ = (rank + shape.replicas - ((from - 1) % shape.replicas + 1)) % shape.replicas in
    let few : steps < shape.replicas = mod-lt (rank + shape.replicas - ((from - 1) % shape.replicas + 1)) (omega (arith, is.some_replicas)) in
    let low : from ≤ 2 ^ 48 - 8 = omega (arith, own_low, tried_low, is.few_replicas) in
    (omega arith, omega (arith, few, low, is.few_replicas))

-- each fast quorum has the fast size, where the home is a rank
abbrev pub HasFastSize : QuorumRule → Type 0
HasFastSize s = (c : Command) → 1 ≤ c.home.0 → c.home.0 ≤ s.shape.replicas → count_up_to (s.in_quorum c) s.shape.replicas ≡ fast_size s.shape

-- the ring of each home has it, by computing each shape

abbrev is_sized : ℕ → ℕ → ℕ → Bool
is_sized r f home = let shape : Shape = record { partitions = 1; replicas = r; failures = f } in
    nat_lt ((r - 1) / 2) f || (nat_lt r home || (count_up_to (in_ring shape home) r == fast_size shape))

all_sized : all_up_to (λ r. all_up_to (λ f. all_up_to (is_sized r f) 7) 3) 7 ≡ true
all_sized = refl

pub ring_has_fast_size : (shape : Shape) → IsShape shape → HasFastSize (ring_rule shape)
ring_has_fast_size shape is c some few =
    let r : ℕ = shape.replicas in
    let f : ℕ = shape.failures in
    let home : ℕ = c.home.0 in
    let of_replicas : all_up_to (λ f. all_up_to (is_sized r f) 7) 3 ≡ true =
    all_each (λ r. all_up_to (λ f. all_up_to (is_sized r f) 7) 3) 7 r all_sized (omega (arith, is.some_replicas)) is.few_replicas in
    let of_failures : all_up_to (is_sized r f) 7 ≡ true =
    all_each (λ f. all_up_to (is_sized r f) 7) 3 f of_replicas is.some_failure (omega (arith, is.minority, is.few_replicas)) in
    let of_home : is_sized r f home ≡ true = all_each (is_sized r f) 7 home of_failures some (omega (arith, few, is.few_replicas)) in
    elim (or_cases (nat_lt ((r - 1) / 2) f) (nat_lt r home || (count_up_to (in_ring shape home) r == fast_size shape)) of_home) [
      | inl many ↦ let high = ltb-true ((r - 1) / 2) f many in absurd (omega (arith, high, is.minority))
      | inr rest ↦ elim (or_cases (nat_lt r home) (count_up_to (in_ring shape home) r == fast_size shape) rest) [
        | inl beyond ↦ let high = ltb-true r home beyond in absurd (omega (arith, high, few))
        | inr same ↦ eqb-true (count_up_to (in_ring shape home) r) (fast_size shape) same
      ]
    ]

-- tables of answers

abbrev pub is_there : {X : Type 0} → List (Option X) → ℕ → Bool
is_there table place = is_some (kept_at table place)

-- counted from the first place
count_first : (p q : ℕ → Bool) (n : ℕ) → ((k : ℕ) → q (suc k) ≡ p (suc (suc k)))
    → count_up_to p (suc n) ≡ cond (p 1) 1 0 + count_up_to q n
count_first p q zero same = go (p 1)
  where
    go : (b : Bool) → cond b 1 0 ≡ cond b 1 0 + 0
    go true = refl
    go false = refl
count_first p q (suc n) same =
    ap (λ (b : Bool). cond b (suc (count_up_to p (suc n))) (count_up_to p (suc n))) (sym (same n))
    ∙ ap (λ (c : ℕ). cond (q (suc n)) (suc c) c) (count_first p q n same)
    ∙ go (q (suc n)) (cond (p 1) 1 0)
  where
    go : (b : Bool) (one : ℕ) → cond b (suc (one + count_up_to q n)) (one + count_up_to q n) ≡ one + cond b (suc (count_up_to q n)) (count_up_to q n)
    go true one = omega arith
    go false one = refl

-- a table has no more values than places that are kept
pub present_counted : {X : Type 0} (table : List (Option X)) (n : ℕ) → length table ≤ n → length (present table) ≤ count_up_to (is_there table) n
present_counted [] n few = omega arith
present_counted (o ∷ table) zero few = absurd (omega arith)
present_counted (o ∷ table) (suc n) few =
    let all : count_up_to (is_there (o ∷ table)) (suc n) ≡ cond (is_some o) 1 0 + count_up_to (is_there table) n =
    count_first (is_there (o ∷ table)) (is_there table) n (λ k. refl) in
    let rest : length (present table) ≤ count_up_to (is_there table) n = present_counted table n (omega arith) in
    go o (omega (arith, all, rest))
  where
    go : (o : Option _) → cond (is_some o) 1 0 + length (present table) ≤ count_up_to (is_there (o ∷ table)) (suc n)
        → length (present (o ∷ table)) ≤ count_up_to (is_there (o ∷ table)) (suc n)
    go None le = omega (arith, le)
    go (Some x) le = omega (arith, le)

got_present : {X : Type 0} (table : List (Option X)) (i : ℕ) (x : X) → flat (slice_get table i) ≡ Some x → IsIn x (present table)
got_present [] i x e = absurd cc
got_present (None ∷ table) zero x e = absurd cc
got_present (Some y ∷ table) zero x e = inl (cc)
got_present (None ∷ table) (suc i) x e = got_present table i x e
got_present (Some y ∷ table) (suc i) x e = inr (got_present table i x e)

pub present_kept : {X : Type 0} (table : List (Option X)) (place : ℕ) (x : X) → kept_at table place ≡ Some x → IsIn x (present table)
present_kept table zero x e = absurd cc
present_kept table (suc i) x e = got_present table i x e

-- a table of answers, each in its rank's place and in range
pub record AreAnswers (replicas : ℕ) (answers : List (Option RecoveryAnswer)) : Type 0 where
  pub few : length answers ≤ replicas
  pub numbers : Each (IfAny (λ a. IsNumber a.stamp.0)) answers
  pub placed : (k : ℕ) → IfAny (λ a. a.rank.0 ≡ k) (kept_at answers k)

-- of as many as a recovery quorum has, one is of the fast quorum
some_member : (s : QuorumRule) → HasFastSize s → (c : Command) (answers : List (Option RecoveryAnswer)) → IsShape s.shape
    → 1 ≤ c.home.0 → c.home.0 ≤ s.shape.replicas → AreAnswers s.shape.replicas answers → length (present answers) ≡ recovery_size s.shape
    → (a : RecoveryAnswer) × IsIn a (present answers) × (s.in_quorum c a.rank.0 ≡ true)
some_member s sized c answers is some few are as_many =
    let counted : length (present answers) ≤ count_up_to (is_there answers) s.shape.replicas = present_counted answers s.shape.replicas are.few in
    let whole : count_up_to (s.in_quorum c) s.shape.replicas ≡ fast_size s.shape = sized c some few in
    let both : IsShared (s.in_quorum c) (is_there answers) s.shape.replicas =
    shared (s.in_quorum c) (is_there answers) s.shape.replicas
    (omega (arith, counted, whole, as_many, is.some_replicas, is.some_failure, is.minority)) in
    go both.rank (kept_at answers both.rank) refl (are.placed both.rank) both.first both.second
  where
    go : (k : ℕ) (o : Option RecoveryAnswer) → kept_at answers k ≡ o → IfAny (λ a. a.rank.0 ≡ k) (kept_at answers k) → s.in_quorum c k ≡ true
        → is_there answers k ≡ true → (a : RecoveryAnswer) × IsIn a (present answers) × (s.in_quorum c a.rank.0 ≡ true)
    go k None e placed member there = absurd cc
    go k (Some a) e placed member there =
        let here : a.rank.0 ≡ k = subst (IfAny (λ (a : RecoveryAnswer). a.rank.0 ≡ k)) e placed in
        (a, present_kept answers k a e, subst (λ (j : ℕ). s.in_quorum c j ≡ true) (sym here) member)

-- what is chosen

pub greatest_by_low : (f : RecoveryAnswer → ℕ) (answers : List RecoveryAnswer) (n : ℕ) → Each (λ a. f a ≤ n) answers → greatest_by f answers ≤ n
greatest_by_low f [] n h = omega arith
greatest_by_low f (a ∷ answers) n h = let rest = greatest_by_low f answers n h.1 in omega (arith, rest, h.0)

better_fit : (P : RecoveryAnswer → Type 0) (a : RecoveryAnswer) (found : Option RecoveryAnswer) → P a → IfAny P found → P (better a found)
better_fit P a None h k = h
better_fit P a (Some b) h k = cond_both (is_over a b) a b P (λ t. h) (λ f. k)

pub best_fit : (P : RecoveryAnswer → Type 0) (found : Option RecoveryAnswer) (answers : List RecoveryAnswer) → IfAny P found → Each P answers
    → IfAny P (best_from found answers)
best_fit P found [] h all = h
best_fit P found (a ∷ answers) h all = best_fit P (Some (better a found)) answers (better_fit P a found all.0 h) all.1

abbrev IsStamped : RecoveryAnswer → Type 0
IsStamped a = IsNumber a.stamp.0

member_stamp_low : (in_quorum : ℕ → Bool) (a : RecoveryAnswer) → IsStamped a → member_stamp in_quorum a ≤ 2 ^ 48 - 1
member_stamp_low in_quorum a h = cond_both (in_quorum a.rank.0) a.stamp.0 0 (λ (n : ℕ). n ≤ 2 ^ 48 - 1) (λ t. h.1) (λ f. omega arith)

member_stamp_high : (in_quorum : ℕ → Bool) (a : RecoveryAnswer) → in_quorum a.rank.0 ≡ true → IsStamped a → 1 ≤ member_stamp in_quorum a
member_stamp_high in_quorum a member h =
    cond_both (in_quorum a.rank.0) a.stamp.0 0 (λ (n : ℕ). 1 ≤ n) (λ t. h.0) (λ f. absurd cc)

proposals_number : (in_quorum : ℕ → Bool) (home : ℕ) (answers : List RecoveryAnswer) (a : RecoveryAnswer) → Each IsStamped answers
    → IsIn a answers → in_quorum a.rank.0 ≡ true → IsNumber (chosen_of_proposals in_quorum home answers)
proposals_number in_quorum home answers a all there member =
    let one : IsStamped a = each_in IsStamped answers a all there in
    cond_both (list_any (tells_slow in_quorum home) answers) (greatest_by (λ a. a.stamp.0) answers) (greatest_by (member_stamp in_quorum) answers) IsNumber
    (λ t.
    let high : a.stamp.0 ≤ greatest_by (λ a. a.stamp.0) answers = greatest_over (λ a. a.stamp.0) answers a there in
    let low : greatest_by (λ a. a.stamp.0) answers ≤ 2 ^ 48 - 1 = greatest_by_low (λ a. a.stamp.0) answers (2 ^ 48 - 1)
    (each_weaker IsStamped (λ a. a.stamp.0 ≤ 2 ^ 48 - 1) (λ a h. h.1) answers all) in
    (omega (arith, high, one.0), low))
    (λ f.
    let some : 1 ≤ member_stamp in_quorum a = member_stamp_high in_quorum a member one in
    let high : member_stamp in_quorum a ≤ greatest_by (member_stamp in_quorum) answers = greatest_over (member_stamp in_quorum) answers a there in
    let low : greatest_by (member_stamp in_quorum) answers ≤ 2 ^ 48 - 1 = greatest_by_low (member_stamp in_quorum) answers (2 ^ 48 - 1)
    (each_weaker IsStamped (λ a. member_stamp in_quorum a ≤ 2 ^ 48 - 1) (λ a h. member_stamp_low in_quorum a h) answers all) in
    (omega (arith, high, some), low))

chosen_number : (in_quorum : ℕ → Bool) (home : ℕ) (answers : List RecoveryAnswer) (best : Option RecoveryAnswer) → IfAny IsStamped best
    → IsNumber (chosen_of_proposals in_quorum home answers) → IsNumber (chosen_with in_quorum home answers best)
chosen_number in_quorum home answers None h of_proposals = of_proposals
chosen_number in_quorum home answers (Some best) h of_proposals =
    cond_both (nat_lt 0 best.accepted) best.stamp.0 (chosen_of_proposals in_quorum home answers) IsNumber (λ t. h) (λ f. of_proposals)

choice_of_some : (in_quorum : ℕ → Bool) (home : ℕ) (answers : List RecoveryAnswer) (a : RecoveryAnswer) → Each IsStamped answers
    → IsIn a answers → in_quorum a.rank.0 ≡ true → IsNumber (recovery_choice in_quorum home answers)
unfolding recovery_choice
choice_of_some in_quorum home answers a all there member =
    chosen_number in_quorum home answers (best_from None answers) (best_fit IsStamped None answers tt all)
    (proposals_number in_quorum home answers a all there member)

present_stamped : (table : List (Option RecoveryAnswer)) → Each (IfAny IsStamped) table → Each IsStamped (present table)
present_stamped [] h = tt
present_stamped (None ∷ table) h = present_stamped table h.1
present_stamped (Some x ∷ table) h = (h.0, present_stamped table h.1)

pub recovery_number : (s : QuorumRule) → HasFastSize s → (c : Command) (answers : List (Option RecoveryAnswer)) → IsShape s.shape
    → 1 ≤ c.home.0 → c.home.0 ≤ s.shape.replicas → AreAnswers s.shape.replicas answers → length (present answers) ≡ recovery_size s.shape
    → IsNumber (recovery_choice (s.in_quorum c) c.home.0 (present answers))
recovery_number s sized c answers is some few are as_many =
    let one = some_member s sized c answers is some few are as_many in
    choice_of_some (s.in_quorum c) c.home.0 (present answers) one.0 (present_stamped answers are.numbers) one.1 one.2

-- one answer more

empty_got : {X : Type 0} (P : X → Type 0) (n i : ℕ) → IfAny P (flat (slice_get (replicate n (let none : Option X = None in none)) i))
empty_got P zero i = tt
empty_got P (suc n) zero = tt
empty_got P (suc n) (suc i) = empty_got P n i

pub empty_kept : {X : Type 0} (P : X → Type 0) (n k : ℕ) → IfAny P (kept_at (replicate n (let none : Option X = None in none)) k)
empty_kept P n zero = tt
empty_kept P n (suc i) = empty_got P n i

-- what is kept at a place after another value was put at one
set_got : {X : Type 0} (P : X → Type 0) (table : List (Option X)) (i k : ℕ) (x : X) → (i ≡ k → P x) → IfAny P (flat (slice_get table k))
    → IfAny P (flat (slice_get (set table i (Some x)) k))
set_got P [] i k x new old = old
set_got P (o ∷ table) zero zero x new old = new refl
set_got P (o ∷ table) zero (suc k) x new old = old
set_got P (o ∷ table) (suc i) zero x new old = old
set_got P (o ∷ table) (suc i) (suc k) x new old = set_got P table i k x (λ e. new (ap (λ (n : ℕ). suc n) e)) old

with_nth_kept : {X : Type 0} (P : X → Type 0) (table : List (Option X)) (place k : ℕ) (x : X) → (place ≡ k → P x) → IfAny P (kept_at table k)
    → IfAny P (kept_at (with_nth table place (Some x)) k)
with_nth_kept P table zero k x new old = old
with_nth_kept P table (suc i) zero x new old = tt
with_nth_kept P table (suc i) (suc k) x new old = set_got P table i k x (λ e. new (ap (λ (n : ℕ). suc n) e)) old

pub answered : (replicas : ℕ) (answers : List (Option RecoveryAnswer)) (a : RecoveryAnswer) → IsNumber a.stamp.0 → AreAnswers replicas answers
    → AreAnswers replicas (with_nth answers a.rank.0 (Some a))
answered replicas answers a number are = record {
  few = let same : length (with_nth answers a.rank.0 (Some a)) ≡ length answers = length_with answers a.rank.0 (Some a) in omega (arith, same, are.few);
  numbers = with_fit (IfAny IsStamped) answers a.rank.0 (Some a) are.numbers number;
  placed = λ k. with_nth_kept (λ (b : RecoveryAnswer). b.rank.0 ≡ k) answers a.rank.0 k a (λ e. e) (are.placed k);
}

pub unanswered : (replicas : ℕ) → AreAnswers replicas (replicate replicas None)
unanswered replicas = record {
  few = let same = length-replicate replicas (let none : Option RecoveryAnswer = None in none) in omega (arith, same);
  numbers = each_replicate (IfAny IsStamped) replicas None tt;
  placed = λ k. empty_kept (λ (b : RecoveryAnswer). b.rank.0 ≡ k) replicas k;
}
