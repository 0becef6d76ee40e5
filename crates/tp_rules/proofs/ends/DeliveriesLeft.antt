-- What one more entry does to the deliveries that are left of an output: one less of that which it delivers or loses, and no
-- other changes. Used for the end of runs.
use Rattle.std.proofs.Common.{◌≡◌, ℕ, suc, ◌<◌, ◌≤◌, inl, inr, Bool, true, false, List, [], ◌∷◌, Option, Some, None, refl, sym, ap, subst, ◌∙◌, arith}
use Rattle.std.specs.Prelude.{filter_map, ◌==◌, ◌||◌, ◌&&◌}
use Rattle.std.specs.List.{list_any}
use Rattle.std.proofs.lemmas.Bool.{cases_Bool, eq-eqb, and_from, or_left, or_right, cond-true, cond-false, cond_both}
use Rattle.tp_base.proofs.Options.{some_is}
use Rattle.tp_base.specs.Lists.{IsIn, Each}
use Rattle.tp_base.specs.Names.{same_name}
use Rattle.tp_base.specs.declared.names.ActorName.{ActorName}
use Rattle.tp_rules.proofs.sent.Parcels.{fate_stays}
use Rattle.tp_rules.proofs.lists.Tallies.{count_yes, count_no}
use Rattle.tp_rules.specs.Journal.{sent, is_delivery_of, is_loss_of}
use Rattle.tp_rules.specs.Plan.{Fate, Lost, Times, fate_of, ordinal_of, deliveries, was_lost, left_by, deliveries_left, repeated_by, times_for_all, first_or, is_lost_by}
use Rattle.tp_rules.specs.Runs.{IsLost}
use Rattle.tp_rules.specs.declared.event.Entry.{Entry}
use Rattle.tp_rules.specs.declared.event.Event.TheVariants.{Deliver, Dropped}
use Rattle.tp_rules.specs.declared.event.Parcel.{Parcel}
use Rattle.tp_script.specs.Accepted.{IsAccepted, IsPlanLineOf}
use Rattle.tp_script.specs.declared.script.PlanLine.{PlanLine}
use Rattle.tp_script.specs.declared.script.PlanLine.TheVariants.{Crash as CrashLine, Recover as RecoverLine, Lose, Repeat, RepeatAll}
use Rattle.tp_script.specs.declared.script.Script.{Script}

-- an entry that neither delivers nor loses an output leaves it as it is
pub deliveries_stay : (script : Script) (older : List Entry) (e : Entry) (p : Parcel) → IsIn p (sent older) →
    is_delivery_of p.entry p.place e.event ≡ false → is_loss_of p.entry p.place e.event ≡ false →
    deliveries_left script (e ∷ older) p ≡ deliveries_left script older p
unfolding deliveries_left
deliveries_stay script older e p h delivery loss =
    let fates = fate_stays script older e p h in
    let count : deliveries (e ∷ older) p.entry p.place ≡ deliveries older p.entry p.place =
    count_no (λ x. is_delivery_of p.entry p.place x.event) e older delivery in
    let lost : was_lost (e ∷ older) p.entry p.place ≡ was_lost older p.entry p.place = ap (λ (b : Bool). b || was_lost older p.entry p.place) loss in
    cc

lower_by : (fate : Fate) (m n : ℕ) (before after : Bool) → m ≤ n → (before ≡ true → after ≡ true) → left_by fate n after ≤ left_by fate m before
lower_by Lost m n true true le h = omega arith
lower_by Lost m n true false le h = let wrong = h refl in absurd cc
lower_by Lost m n false true le h = omega arith
lower_by Lost m n false false le h = omega arith
lower_by (Times k) m n before after le h = omega arith

-- no entry adds to the deliveries left of an output
pub deliveries_fall : (script : Script) (older : List Entry) (e : Entry) (p : Parcel) → IsIn p (sent older) →
    deliveries_left script (e ∷ older) p ≤ deliveries_left script older p
unfolding deliveries_left
deliveries_fall script older e p h =
    let fates = fate_stays script older e p h in
    let more : deliveries older p.entry p.place ≤ deliveries (e ∷ older) p.entry p.place =
    elim (cases_Bool (is_delivery_of p.entry p.place e.event)) [
      | inl t ↦ omega (arith, count_yes (λ (x : Entry). is_delivery_of p.entry p.place x.event) e older t)
      | inr f ↦ omega (arith, count_no (λ (x : Entry). is_delivery_of p.entry p.place x.event) e older f)
    ] in
    let lost : was_lost older p.entry p.place ≡ true → was_lost (e ∷ older) p.entry p.place ≡ true =
    or_right (is_loss_of p.entry p.place e.event) _ in
    subst (λ (fate : Fate). left_by fate (deliveries (e ∷ older) p.entry p.place) (was_lost (e ∷ older) p.entry p.place) ≤ deliveries_left script older p) (sym fates)
    (lower_by (fate_of script older p) _ _ _ _ more lost)

delivered_by : (fate : Fate) (m n : ℕ) (before after : Bool) → n ≡ suc m → (IsLost fate → ⊥) → 0 < left_by fate m before →
    suc (left_by fate n after) ≡ left_by fate m before
delivered_by Lost m n before after e h some = absurd (h tt)
delivered_by (Times k) m n before after e h some = omega arith

-- a delivery leaves one less of the output delivered
pub delivery_falls : (script : Script) (older : List Entry) (e : Entry) (p : Parcel) → IsIn p (sent older) →
    e.event ≡ Deliver p.entry p.place → (IsLost (fate_of script older p) → ⊥) → 0 < deliveries_left script older p →
    suc (deliveries_left script (e ∷ older) p) ≡ deliveries_left script older p
unfolding deliveries_left
delivery_falls script older e p h event live some =
    let fates = fate_stays script older e p h in
    let delivers : is_delivery_of p.entry p.place e.event ≡ true =
    ap (is_delivery_of p.entry p.place) event ∙ and_from (p.entry == p.entry) (p.place == p.place) (eq-eqb p.entry p.entry refl)
    (eq-eqb p.place p.place refl) in
    let count : deliveries (e ∷ older) p.entry p.place ≡ suc (deliveries older p.entry p.place) =
    count_yes (λ (x : Entry). is_delivery_of p.entry p.place x.event) e older delivers in
    subst (λ (fate : Fate). suc (left_by fate (deliveries (e ∷ older) p.entry p.place) (was_lost (e ∷ older) p.entry p.place)) ≡ deliveries_left script older p) (sym fates)
    (delivered_by (fate_of script older p) _ _ _ _ count live some)

lost_by : (fate : Fate) (m n : ℕ) (before after : Bool) → after ≡ true → IsLost fate → 0 < left_by fate m before →
    suc (left_by fate n after) ≡ left_by fate m before
lost_by Lost m n true after e h some = absurd (omega arith)
lost_by Lost m n false true e h some = refl
lost_by Lost m n false false e h some = absurd cc
lost_by (Times k) m n before after e h some = absurd h

-- and so does a loss
pub loss_falls : (script : Script) (older : List Entry) (e : Entry) (p : Parcel) → IsIn p (sent older) →
    e.event ≡ Dropped p.entry p.place → IsLost (fate_of script older p) → 0 < deliveries_left script older p →
    suc (deliveries_left script (e ∷ older) p) ≡ deliveries_left script older p
unfolding deliveries_left
loss_falls script older e p h event lost some =
    let fates = fate_stays script older e p h in
    let loses : is_loss_of p.entry p.place e.event ≡ true =
    ap (is_loss_of p.entry p.place) event ∙ and_from (p.entry == p.entry) (p.place == p.place) (eq-eqb p.entry p.entry refl)
    (eq-eqb p.place p.place refl) in
    let gone : was_lost (e ∷ older) p.entry p.place ≡ true = or_left (is_loss_of p.entry p.place e.event) (was_lost older p.entry p.place) loses in
    subst (λ (fate : Fate). suc (left_by fate (deliveries (e ∷ older) p.entry p.place) (was_lost (e ∷ older) p.entry p.place)) ≡ deliveries_left script older p) (sym fates)
    (lost_by (fate_of script older p) _ _ _ _ gone lost some)

-- the times of a script's text are 9 at most

first_few : (f : PlanLine → Option ℕ) (script : Script) (plan : List PlanLine) (n : ℕ) → n ≤ 9 →
    ((line : PlanLine) (times : ℕ) → IsPlanLineOf script line → f line ≡ Some times → times ≤ 9) →
    Each (IsPlanLineOf script) plan → first_or (filter_map f plan) n ≤ 9
first_few f script [] n low h lines = low
first_few f script (line ∷ plan) n low h lines = by_line (f line) refl (first_few f script plan n low h lines.1)
  where
    by_line : (o : Option ℕ) → f line ≡ o → first_or (filter_map f plan) n ≤ 9 → first_or (filter_map f (line ∷ plan)) n ≤ 9
    by_line None e rest = subst (λ (l : List ℕ). first_or l n ≤ 9) (sym (skipped e)) rest
      where
        skipped : f line ≡ None → filter_map f (line ∷ plan) ≡ filter_map f plan
        skipped e = rw e refl
    by_line (Some times) e rest = subst (λ (l : List ℕ). first_or l n ≤ 9) (sym (taken e)) (h line times lines.0 e)
      where
        taken : f line ≡ Some times → filter_map f (line ∷ plan) ≡ times ∷ filter_map f plan
        taken e = rw e refl

for_all_few : (script : Script) (line : PlanLine) (times : ℕ) → IsPlanLineOf script line → times_for_all line ≡ Some times → times ≤ 9
for_all_few script (RepeatAll n) times h e = let same : n ≡ times = cc in omega (arith, h.1)
for_all_few script (CrashLine site after) times h e = absurd cc
for_all_few script (RecoverLine site id after) times h e = absurd cc
for_all_few script (Lose from to n) times h e = absurd cc
for_all_few script (Repeat from to n k) times h e = absurd cc

repeated_few : (script : Script) (from to : ActorName) (n : ℕ) (line : PlanLine) (times : ℕ) → IsPlanLineOf script line →
    repeated_by from to n line ≡ Some times → times ≤ 9
repeated_few script from to n (Repeat a b ordinal k) times h e = elim (cases_Bool (same_name a from && same_name b to && (ordinal == n))) [
  | inl t ↦ let same : k ≡ times =
      some_is (sym (cond-true (same_name a from && same_name b to && (ordinal == n)) (Some k) None t) ∙ e) in omega (arith, h.4)
  | inr f ↦ let nothing : None ≡ Some times = sym (cond-false (same_name a from && same_name b to && (ordinal == n)) (Some k) None f) ∙ e in absurd cc
]
repeated_few script from to n (RepeatAll k) times h e = absurd cc
repeated_few script from to n (CrashLine site after) times h e = absurd cc
repeated_few script from to n (RecoverLine site id after) times h e = absurd cc
repeated_few script from to n (Lose a b k) times h e = absurd cc

times_few : (script : Script) → IsAccepted script → (from to : ActorName) (n : ℕ) →
    first_or (filter_map (repeated_by from to n) script.plan) (first_or (filter_map times_for_all script.plan) 1) ≤ 9
times_few script accepted from to n =
    first_few (repeated_by from to n) script script.plan _
    (first_few times_for_all script script.plan 1 (omega arith) (for_all_few script) accepted.plan)
    (repeated_few script from to n) accepted.plan

lost_few : (m : ℕ) (lost : Bool) → left_by Lost m lost ≤ 9
lost_few m true = omega arith
lost_few m false = omega arith

-- no output of an accepted script is delivered more than 9 times
pub deliveries_few : (script : Script) → IsAccepted script → (older : List Entry) (p : Parcel) → deliveries_left script older p ≤ 9
unfolding deliveries_left fate_of
deliveries_few script accepted older p =
    let from = p.message.from in
    let to = p.message.to in
    let n = ordinal_of older p in
    let few = times_few script accepted from to n in
    cond_both (list_any (is_lost_by from to n) script.plan) Lost _
    (λ (fate : Fate). left_by fate (deliveries older p.entry p.place) (was_lost older p.entry p.place) ≤ 9)
    (λ t. lost_few (deliveries older p.entry p.place) (was_lost older p.entry p.place))
    (λ f. omega arith)
