-- An entry without a cause is legal, so a journal in which no entry has a cause is a run. Used by the law of causes.
use Rattle.std.proofs.Common.{◌≡◌, ◌≢◌, ◌⊎◌, ℕ, zero, suc, ◌+◌, ◌<◌, ◌≤◌, inl, inr, Bool, true, false, List, [], ◌∷◌, drop, length, take, Option, Some, None, refl, sym, ap, subst, ◌∙◌, arith}
use Rattle.std.proofs.lemmas.Bool.{cases_Bool}
use Rattle.std.proofs.lemmas.List.{take_all}
use Rattle.std.specs.Prelude.{reverse, slice_get}
use Rattle.tp_base.proofs.SameNames.{same_name_is, same_name_refl}
use Rattle.tp_base.specs.Names.{same_name}
use Rattle.tp_base.specs.declared.names.ActorName.{ActorName}
use Rattle.tp_base.specs.declared.names.ActorName.TheVariants.{Process, Executor, Session}
use Rattle.tp_check.proofs.Decided.{same_event, same_or_differ, same_step}
use Rattle.tp_check.proofs.Flaws.{legal_flawless}
use Rattle.tp_check.proofs.Replays.{legal_at, next_is, run_next, whole_is}
use Rattle.tp_check.specs.Causes.{HasFlaw, IsBarred, IsCause, IsForAnother, IsUnsent, order}
use Rattle.tp_check.specs.Verdicts.{HasNoCause}
use Rattle.tp_check.specs.declared.verdict.EntryCause.{EntryCause}
use Rattle.tp_check.specs.declared.verdict.EntryCause.TheVariants.{Stranger, Dead, Message as NoMessage, Addressee, Plan, NotEnabled, Outputs}
use Rattle.tp_rules.proofs.Journals.{run_none}
use Rattle.tp_rules.proofs.sent.Parcels.{parcel}
use Rattle.tp_rules.specs.Journal.{acts, identity_in, is_known, is_live, output_at}
use Rattle.tp_rules.specs.Plan.{Fate, Lost, Times, deliveries_left, due_of, fate_of, is_planned}
use Rattle.tp_rules.specs.Rules.{IsOfProcess, enabled}
use Rattle.tp_rules.specs.Runs.{FollowsFate, FollowsLine, FollowsPlan, IsFor, IsLegal, IsLost, IsRun, MayHappen, outputs_in}
use Rattle.tp_rules.specs.declared.event.Entry.{Entry}
use Rattle.tp_rules.specs.declared.event.Event.{Event}
use Rattle.tp_rules.specs.declared.event.Event.TheVariants.{Deliver, Dropped, Inner as OfItself}
use Rattle.tp_rules.specs.declared.event.Inner.{Inner}
use Rattle.tp_rules.specs.declared.event.Inner.TheVariants.{Submit, Recover, Announce, Declare, Execute, Crash}
use Rattle.tp_rules.specs.declared.event.Parcel.{Parcel}
use Rattle.tp_script.specs.declared.script.Script.{Script}
use Rattle.tp_wire.specs.declared.message.Message.{Message}

true_or : (b : Bool) → ¬ (b ≡ false) → b ≡ true
true_or true h = refl
true_or false h = absurd (h refl)

module _ (script : Script) (older : List Entry) (e : Entry) where
  -- where no entry has a cause, none has a flaw
  flawless : ((cause : EntryCause) → ¬ IsCause script older e cause) → (n : ℕ) → (cause : EntryCause) → order cause < n → ¬ HasFlaw script older e cause
  flawless none zero cause lt flaw = omega arith
  flawless none (suc n) cause lt flaw =
      none cause (record { flaw = flaw; first = λ earlier below. flawless none n earlier (omega (arith, below, lt)) })

  few : (cause : EntryCause) → order cause < 8
  few Stranger = omega arith
  few Dead = omega arith
  few NoMessage = omega arith
  few Addressee = omega arith
  few Plan = omega arith
  few NotEnabled = omega arith
  few (Outputs place) = omega arith

  -- what follows the plan can be decided

  line_or : (o : Option Inner) (event : Event) → FollowsLine o event ⊎ (¬ FollowsLine o event)
  line_or (Some inner) event = same_event event (OfItself inner)
  line_or None event = elim (cases_Bool (is_planned event)) [
    | inl t ↦ inr (λ wrong. let both : true ≡ false = sym t ∙ wrong in cc)
    | inr f ↦ inl f
  ]

  some_or : (n : ℕ) → (0 < n) ⊎ (¬ (0 < n))
  some_or zero = inr (λ wrong. omega arith)
  some_or (suc n) = inl (omega arith)

  lost_or : (f : Fate) → IsLost f ⊎ (¬ IsLost f)
  lost_or Lost = inl tt
  lost_or (Times n) = inr (λ wrong. wrong)

  delivered_or : (entry place : ℕ) (o : Option Message) → output_at older entry place ≡ o
      → FollowsFate script older (Deliver entry place) ⊎ (¬ FollowsFate script older (Deliver entry place))
  delivered_or entry place None at = inl (λ m there. absurd (let wrong : None ≡ Some m = sym at ∙ there in cc))
  delivered_or entry place (Some n) at =
      let p : Parcel = parcel entry place n in
      elim (lost_or (fate_of script older p)) [
        | inl lost ↦ inr (λ follows. (follows n at).0 lost)
        | inr kept ↦ elim (some_or (deliveries_left script older p)) [
          | inl some ↦ inl (λ m there. let both : Some n ≡ Some m = sym at ∙ there in let same : n ≡ m = cc in
              subst (λ (x : Message). (¬ IsLost (fate_of script older (parcel entry place x))) × (0 < deliveries_left script older (parcel entry place x))) same (kept, some))
          | inr spent ↦ inr (λ follows. spent (follows n at).1)
        ]
      ]

  dropped_or : (entry place : ℕ) (o : Option Message) → output_at older entry place ≡ o
      → FollowsFate script older (Dropped entry place) ⊎ (¬ FollowsFate script older (Dropped entry place))
  dropped_or entry place None at = inl (λ m there. absurd (let wrong : None ≡ Some m = sym at ∙ there in cc))
  dropped_or entry place (Some n) at =
      let p : Parcel = parcel entry place n in
      elim (lost_or (fate_of script older p)) [
        | inl lost ↦ elim (some_or (deliveries_left script older p)) [
          | inl some ↦ inl (λ m there. let both : Some n ≡ Some m = sym at ∙ there in let same : n ≡ m = cc in
              subst (λ (x : Message). IsLost (fate_of script older (parcel entry place x)) × (0 < deliveries_left script older (parcel entry place x))) same (lost, some))
          | inr spent ↦ inr (λ follows. spent (follows n at).1)
        ]
        | inr kept ↦ inr (λ follows. kept (follows n at).0)
      ]

  fate_or : (event : Event) → FollowsFate script older event ⊎ (¬ FollowsFate script older event)
  fate_or (Deliver entry place) = delivered_or entry place (output_at older entry place) refl
  fate_or (Dropped entry place) = dropped_or entry place (output_at older entry place) refl
  fate_or (OfItself inner) = inl tt

  planned : ¬ (¬ FollowsPlan script older e) → FollowsPlan script older e
  planned h = elim (line_or (due_of script older e.actor) e.event) [
    | inl line ↦ elim (fate_or e.event) [
      | inl fate ↦ record { line = line; fate = fate }
      | inr no_fate ↦ absurd (h (λ plan. no_fate plan.fate))
    ]
    | inr no_line ↦ absurd (h (λ plan. no_line plan.line))
  ]

  -- and what may happen

  for_it : (o : Option Message) → ¬ (o ≡ None) → ((m : Message) → o ≡ Some m → ¬ (m.to ≢ e.actor)) → IsFor e.actor o
  for_it None there other = absurd (there refl)
  for_it (Some m) there other = elim (cases_Bool (same_name m.to e.actor)) [
    | inl t ↦ same_name_is m.to e.actor t
    | inr f ↦ absurd (other m refl (λ (k : m.to ≡ e.actor).
        let is_same : same_name m.to e.actor ≡ true = ap (same_name m.to) (sym k) ∙ same_name_refl m.to in
        let wrong : true ≡ false = sym is_same ∙ f in cc))
  ]

  of_process : (a : ActorName) → ¬ (¬ IsOfProcess (identity_in script a)) → IsOfProcess (identity_in script a)
  of_process (Process s) h = tt
  of_process (Executor s) h = absurd (h (λ wrong. wrong))
  of_process (Session s) h = absurd (h (λ wrong. wrong))

  step_or : (inner : Inner) → ¬ (¬ (enabled (identity_in script e.actor) (acts older e.actor) ≡ Some inner)) → enabled (identity_in script e.actor) (acts older e.actor) ≡ Some inner
  step_or inner h = elim (same_step (enabled (identity_in script e.actor) (acts older e.actor)) (Some inner)) [ inl same ↦ same | inr apart ↦ absurd (h apart) ]

  may : (event : Event) → ¬ IsUnsent older event → ¬ IsForAnother older e.actor event → ¬ IsBarred script older e.actor event → MayHappen script older e.actor event
  may (Deliver entry place) there other bar = for_it (output_at older entry place) there (λ m at wrong. other (m, at, wrong))
  may (Dropped entry place) there other bar = for_it (output_at older entry place) there (λ m at wrong. other (m, at, wrong))
  may (OfItself (Submit n)) there other bar = step_or (Submit n) bar
  may (OfItself (Recover id)) there other bar = of_process e.actor bar
  may (OfItself Announce) there other bar = step_or Announce bar
  may (OfItself (Declare id)) there other bar = step_or (Declare id) bar
  may (OfItself (Execute id)) there other bar = step_or (Execute id) bar
  may (OfItself Crash) there other bar = of_process e.actor bar

  pub no_cause_legal : ((cause : EntryCause) → ¬ IsCause script older e cause) → IsLegal script older e
  no_cause_legal none =
      let clean : (cause : EntryCause) → ¬ HasFlaw script older e cause = (λ cause. flawless none 8 cause (few cause)) in record {
        rules = record {
          known = true_or (is_known script e.actor) (clean Stranger);
          live = true_or (is_live older e.actor) (clean Dead);
          may = may e.event (clean NoMessage) (clean Addressee) (clean NotEnabled);
          outputs = elim (same_or_differ e.outputs (outputs_in script older e.actor e.event)) [
            | inl same ↦ same
            | inr found ↦ absurd (clean (Outputs found.0) found.1)
          ];
        };
        plan = planned (clean Plan);
      }

-- a journal

module _ (script : Script) (journal : List Entry) where
  entry_at : (k : ℕ) → k < length journal → (e : Entry) × (slice_get journal k ≡ Some e)
  entry_at k lt = of (slice_get journal k) refl
    where
      none_within : {X : Type 0} (xs : List X) (k : ℕ) → k < length xs → slice_get xs k ≡ None → ⊥
      none_within [] k lt e = omega arith
      none_within (x ∷ xs) zero lt e = absurd cc
      none_within (x ∷ xs) (suc k) lt e = none_within xs k (omega arith) e

      of : (o : Option Entry) → slice_get journal k ≡ o → (e : Entry) × (slice_get journal k ≡ Some e)
      of (Some e) at = (e, at)
      of None at = absurd (none_within journal k lt at)

  fronts : HasNoCause script journal → (k : ℕ) → k ≤ length journal → IsRun script (take k journal)
  fronts none zero le = run_none script
  fronts none (suc k) le =
      let found = entry_at k (omega (arith, le)) in
      let before : IsRun script (take k journal) = fronts none k (omega (arith, le)) in
      let one : k + 1 ≡ suc k = omega arith in
      subst (λ n. IsRun script (take n journal)) one (subst (IsRun script) (next_is script journal k found.0 found.1)
      (run_next script journal k found.0 found.1 before (no_cause_legal script (reverse (take k journal)) found.0
      (λ cause. none (take k journal) found.0 (drop (k + 1) journal) cause (whole_is script journal k found.0 found.1)))))

  pub no_cause_run : HasNoCause script journal → IsRun script journal
  no_cause_run none = subst (IsRun script) (take_all (length journal) journal (omega arith)) (fronts none (length journal) (omega arith))

  pub run_no_cause : IsRun script journal → HasNoCause script journal
  run_no_cause run before e after cause whole is = legal_flawless script (reverse before) e (legal_at script journal before after e whole run) cause is.flaw
