-- The fates that a netbook keeps are those of the plan, line by line. Used by the functions on fates.
use Rattle.std.proofs.Common.{◌≡◌, ℕ, zero, suc, ◌+◌, ◌-◌, ◌<◌, length, arith, Result, Ok, Err, OnOk, Bool, true, false, List, [], ◌∷◌, Option, Some, None, refl, sym, ap, subst, ◌∙◌}
use Rattle.std.proofs.lemmas.Bool.{and_parts, eqb-true}
use Rattle.std.specs.Prelude.{◌==◌, cond, filter_map, option_map, drop, slice_get}
use Rattle.tp_base.specs.declared.names.ActorName.{ActorName}
use Rattle.tp_fates.proofs.SameRoutes.{same_route_is}
use Rattle.tp_fates.specs.Fates.{AreFates, Names, fate_of, first_times, is_lost, named_by, named_in, repeated, same_passage}
use Rattle.tp_fates.specs.Routes.{same_route}
use Rattle.tp_fates.specs.declared.fate.Fate.{Fate as FateValue}
use Rattle.tp_fates.specs.declared.fate.Fate.TheVariants.{Lost as IsLost, Times as IsTimes}
use Rattle.tp_fates.specs.declared.fate.Fates.{Fates}
use Rattle.tp_fates.specs.declared.fate.Passage.{Passage}
use Rattle.tp_rules.specs.Plan.{Fate, Lost, Times, fate_by, first_or, times_for_all}
use Rattle.tp_script.specs.declared.script.PlanLine.{PlanLine}
use Rattle.tp_script.specs.declared.script.PlanLine.TheVariants.{Crash, Recover, Lose, Repeat, RepeatAll}
use Rattle.tp_base.specs.declared.names.Site.{Site}
use Rattle.tp_base.specs.declared.names.CommandId.{CommandId}

abbrev numbered : ActorName → ActorName → ℕ → Passage
numbered from to n = record { route = record { from = from; to = to }; ordinal = n }

pub same_passage_is : (a b : Passage) → same_passage a b ≡ true → a ≡ b
same_passage_is a b h =
    let parts = and_parts (same_route a.route b.route) (a.ordinal == b.ordinal) h in
    let route : a.route ≡ b.route = same_route_is a.route b.route parts.0 in
    let ordinal : a.ordinal ≡ b.ordinal = eqb-true a.ordinal b.ordinal parts.1 in
    λ i. record { route = route i; ordinal = ordinal i }

-- a fate by its name, or that of all others, is the plan's

named_fate : (lost : Bool) (times : List ℕ) (n : ℕ) (f : Fate) → cond lost (Some Lost) (first_times times) ≡ Some f → f ≡ cond lost Lost (Times (first_or times n))
named_fate true times n f e = cc
named_fate false [] n f e = absurd cc
named_fate false (m ∷ ms) n f e = cc

unnamed_fate : (lost : Bool) (times : List ℕ) (n : ℕ) → cond lost (Some Lost) (first_times times) ≡ None → Times n ≡ cond lost Lost (Times (first_or times n))
unnamed_fate true times n e = absurd cc
unnamed_fate false [] n e = refl
unnamed_fate false (m ∷ ms) n e = absurd cc

module _ (plan : List PlanLine) (fates : Fates) (are : AreFates plan fates) (p : Passage) where
  pub fate_is : (f : FateValue) → named_in fates p ≡ Some f → fate_of f ≡ fate_by plan p.route.from p.route.to p.ordinal
  fate_is f e = named_fate _ _ _ (fate_of f) (sym (are.named p) ∙ ap (option_map fate_of) e)

  pub fate_of_others : named_in fates p ≡ None → Times fates.others ≡ fate_by plan p.route.from p.route.to p.ordinal
  fate_of_others e = ap (λ (n : ℕ). Times n) are.others ∙ unnamed_fate _ _ _ (sym (are.named p) ∙ ap (option_map fate_of) e)

-- an output that the plan loses stays lost where it is repeated
pub stays_lost : (fates : Fates) (p : Passage) (times : ℕ) → is_lost (named_in fates p) ≡ true → Names fates fates p (repeated times (named_in fates p))
stays_lost fates p times lost = record { named = λ q. by q (same_passage p q) refl; others = refl }
  where
    again : (o : Option FateValue) → is_lost o ≡ true → o ≡ repeated times o
    again None e = absurd cc
    again (Some IsLost) e = refl
    again (Some (IsTimes n)) e = absurd cc

    by : (q : Passage) (b : Bool) → same_passage p q ≡ b → named_in fates q ≡ cond b (repeated times (named_in fates p)) (named_in fates q)
    by q false e = refl
    by q true e = ap (λ (r : Passage). named_in fates r) (sym (same_passage_is p q e)) ∙ again (named_in fates p) lost

pub repeated_is : (o : Option FateValue) (times : ℕ) → is_lost o ≡ false → Some (IsTimes times) ≡ repeated times o
repeated_is None times e = refl
repeated_is (Some IsLost) times e = absurd cc
repeated_is (Some (IsTimes n)) times e = refl

-- one more line

module _ (plan : List PlanLine) (old new : Fates) (are : AreFates plan old) where
  passed : (line : PlanLine) → ((q : Passage) → named_by (line ∷ plan) q.route.from q.route.to q.ordinal ≡ named_by plan q.route.from q.route.to q.ordinal)
      → filter_map times_for_all (line ∷ plan) ≡ filter_map times_for_all plan → old ≡ new → AreFates (line ∷ plan) new
  passed line named others same = record {
    named = λ q. ap (λ (f : Fates). option_map fate_of (named_in f q)) (sym same) ∙ are.named q ∙ sym (named q);
    others = ap (λ (f : Fates). f.others) (sym same) ∙ are.others ∙ ap (λ (ns : List ℕ). first_or ns 1) (sym others);
  }

  pub with_loss : (from to : ActorName) (n : ℕ) → Names old new (numbered from to n) (Some IsLost) → AreFates (Lose from to n ∷ plan) new
  with_loss from to n is = record {
    named = λ q. ap (option_map fate_of) (is.named q) ∙ by q (same_passage (numbered from to n) q) refl;
    others = is.others ∙ are.others;
  }
    where
      by : (q : Passage) (b : Bool) → same_passage (numbered from to n) q ≡ b
          → option_map fate_of (cond b (Some IsLost) (named_in old q)) ≡ named_by (Lose from to n ∷ plan) q.route.from q.route.to q.ordinal
      by q true e = rw e refl
      by q false e = rw e (are.named q)

  pub with_times : (from to : ActorName) (n times : ℕ) → Names old new (numbered from to n) (repeated times (named_in old (numbered from to n)))
      → AreFates (Repeat from to n times ∷ plan) new
  with_times from to n times is = record {
    named = λ q. ap (option_map fate_of) (is.named q) ∙ by q (same_passage (numbered from to n) q) refl;
    others = is.others ∙ are.others;
  }
    where
      again : (o : Option FateValue) (lost : Bool) (ns : List ℕ) → option_map fate_of o ≡ cond lost (Some Lost) (first_times ns)
          → option_map fate_of (repeated times o) ≡ cond lost (Some Lost) (Some (Times times))
      again None true ns e = absurd cc
      again None false ns e = refl
      again (Some IsLost) true ns e = refl
      again (Some IsLost) false [] e = absurd cc
      again (Some IsLost) false (m ∷ ms) e = absurd cc
      again (Some (IsTimes m)) true ns e = absurd cc
      again (Some (IsTimes m)) false ns e = refl

      by : (q : Passage) (b : Bool) → same_passage (numbered from to n) q ≡ b
          → option_map fate_of (cond b (repeated times (named_in old (numbered from to n))) (named_in old q)) ≡ named_by (Repeat from to n times ∷ plan) q.route.from q.route.to q.ordinal
      by q false e = rw e (are.named q)
      by q true e =
          let same : numbered from to n ≡ q = same_passage_is (numbered from to n) q e in
          rw e (again (named_in old (numbered from to n)) _ _
          (ap (λ (p : Passage). option_map fate_of (named_in old p)) same ∙ are.named q))

  pub with_all : (times : ℕ) → ((q : Passage) → named_in new q ≡ named_in old q) → new.others ≡ times → AreFates (RepeatAll times ∷ plan) new
  with_all times named others = record { named = λ q. ap (option_map fate_of) (named q) ∙ are.named q; others = others }

  pub with_crash : (s : Site) (n : ℕ) → old ≡ new → AreFates (Crash s n ∷ plan) new
  with_crash s n same = passed (Crash s n) (λ q. refl) refl same

  pub with_recovery : (s : Site) (id : CommandId) (n : ℕ) → old ≡ new → AreFates (Recover s id n ∷ plan) new
  with_recovery s id n same = passed (Recover s id n) (λ q. refl) refl same

on_ok : {T E P Q : Type 0} (r : Result T E) → (P → Q) → OnOk r P → OnOk r Q
on_ok (Ok x) f h = f h
on_ok (Err e) f h = h

pub with_repeat : {T E : Type 0} (r : Result T E) (old new : Fates) (line : PlanLine) (p : Passage) (from to : ActorName) (n times : ℕ)
    → line ≡ Repeat from to n times → p ≡ numbered from to n → OnOk r (Names old new p (repeated times (named_in old p)))
    → OnOk r ((plan : List PlanLine) → AreFates plan old → AreFates (line ∷ plan) new)
with_repeat r old new line p from to n times is name names = on_ok r (λ k plan are.
    subst (λ (l : PlanLine). AreFates (l ∷ plan) new) (sym is)
    (with_times plan old new are from to n times (subst (λ (q : Passage). Names old new q (repeated times (named_in old q))) name k))) names

-- a plan from a line on
pub drop_next : (plan : List PlanLine) (i : ℕ) (line : PlanLine) → slice_get plan i ≡ Some line → drop i plan ≡ line ∷ drop (suc i) plan
drop_next [] i line at = absurd cc
drop_next (x ∷ xs) zero line at = let same : x ≡ line = cc in ap (λ (y : PlanLine). y ∷ xs) same
drop_next (x ∷ xs) (suc i) line at = drop_next xs i line at

pub more_lines : (plan : List PlanLine) (k : ℕ) (old new : Fates) (line : PlanLine) → k < length plan → slice_get plan (length plan - 1 - k) ≡ Some line
    → AreFates (drop (length plan - k) plan) old → ((rest : List PlanLine) → AreFates rest old → AreFates (line ∷ rest) new)
    → AreFates (drop (length plan - (k + 1)) plan) new
more_lines plan k old new line lt at are more =
    let next : suc (length plan - 1 - k) ≡ length plan - k = omega (arith, lt) in
    let here : length plan - (k + 1) ≡ length plan - 1 - k = omega (arith, lt) in
    subst (λ (l : List PlanLine). AreFates l new)
    (sym (ap (λ (i : ℕ). drop i plan) here ∙ drop_next plan (length plan - 1 - k) line at ∙ ap (λ (i : ℕ). line ∷ drop i plan) next))
    (more (drop (length plan - k) plan) are)
