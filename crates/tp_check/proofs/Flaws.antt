-- The first flaw of an entry; an entry without one is legal, and a legal one has none. Used where the checker finds a cause.
use Rattle.std.proofs.Common.{◌≡◌, ◌≢◌, ◌⊎◌, ℕ, ◌<◌, ◌≤◌, inl, inr, Bool, true, false, List, get_or, Option, Some, None, refl, sym, ap, subst, ◌∙◌, arith}
use Rattle.std.proofs.lemmas.Bool.{cases_Bool, cond-false, cond-true}
use Rattle.std.specs.Prelude.{◌↔◌, IsTrue, reverse}
use Rattle.tp_base.proofs.SameNames.{same_name_is, same_name_refl}
use Rattle.tp_base.specs.Names.{same_name}
use Rattle.tp_base.specs.Tables.{nth}
use Rattle.tp_base.specs.declared.names.ActorName.{ActorName}
use Rattle.tp_base.specs.declared.names.ActorName.TheVariants.{Process, Executor, Session}
use Rattle.tp_check.specs.Causes.{DifferFirst, HasFlaw, IsBarred, IsCause, IsForAnother, IsUnsent, order}
use Rattle.tp_check.specs.Steps.{IsAble, IsAllowed, message_flaw, output_flaw}
use Rattle.tp_check.specs.declared.verdict.EntryCause.{EntryCause}
use Rattle.tp_check.specs.declared.verdict.EntryCause.TheVariants.{Stranger, Dead, Message as NoMessage, Addressee, Plan, NotEnabled, Outputs}
use Rattle.tp_driver.proofs.Stands.{there}
use Rattle.tp_driver.specs.Cast.{AllStand}
use Rattle.tp_netbook.specs.Places.{place_of}
use Rattle.tp_rules.specs.Acts.{Act, Identity}
use Rattle.tp_rules.specs.Journal.{acts, identity_in, is_known, is_live, output_at}
use Rattle.tp_rules.specs.Plan.{due_of}
use Rattle.tp_rules.specs.Rules.{MayMake}
use Rattle.tp_rules.specs.Runs.{FollowsLine, FollowsPlan, IsFor, IsLegal, MayHappen, outputs_in}
use Rattle.tp_rules.specs.declared.event.Entry.{Entry}
use Rattle.tp_rules.specs.declared.event.Event.{Event}
use Rattle.tp_rules.specs.declared.event.Event.TheVariants.{Deliver, Dropped, Inner as OfItself}
use Rattle.tp_rules.specs.declared.event.Inner.{Inner}
use Rattle.tp_rules.specs.declared.event.Inner.TheVariants.{Submit, Recover, Announce, Declare, Execute, Crash}
use Rattle.tp_script.specs.declared.script.Script.{Script}
use Rattle.tp_wire.specs.declared.message.Message.{Message}

-- what a delivery or a loss says by its output

sent_to : (a : ActorName) (o : Option Message) → IsFor a o → (m : Message) × (o ≡ Some m) × (m.to ≡ a)
sent_to a None h = absurd h
sent_to a (Some m) h = (m, refl, h)

module _ (script : Script) (older : List Entry) (e : Entry) where
  abbrev Flaw : EntryCause → Type 0
  Flaw cause = HasFlaw script older e cause

  -- of the causes before a number none is a flaw
  abbrev pub NoneBefore : ℕ → Type 0
  NoneBefore n = (cause : EntryCause) → order cause < n → ¬ Flaw cause

  none_before : (n : ℕ) → n ≤ 7 → (1 < n → ¬ Flaw Stranger) → (2 < n → ¬ Flaw Dead) → (3 < n → ¬ Flaw NoMessage) → (4 < n → ¬ Flaw Addressee)
      → (5 < n → ¬ Flaw Plan) → (6 < n → ¬ Flaw NotEnabled) → NoneBefore n
  none_before n low a b c d f g Stranger lt = a lt
  none_before n low a b c d f g Dead lt = b lt
  none_before n low a b c d f g NoMessage lt = c lt
  none_before n low a b c d f g Addressee lt = d lt
  none_before n low a b c d f g Plan lt = f lt
  none_before n low a b c d f g NotEnabled lt = g lt
  none_before n low a b c d f g (Outputs place) lt = absurd (omega (arith, low, lt))

  -- each test that an entry passes rules a flaw out

  no_stranger : is_known script e.actor ≡ true → ¬ Flaw Stranger
  no_stranger known wrong = absurd (let both : true ≡ false = sym known ∙ wrong in cc)

  no_dead : is_live older e.actor ≡ true → ¬ Flaw Dead
  no_dead live wrong = absurd (let both : true ≡ false = sym live ∙ wrong in cc)

  there_is : (entry place : ℕ) → IsFor e.actor (output_at older entry place) → output_at older entry place ≡ None → ⊥
  there_is entry place may none = let found = sent_to e.actor (output_at older entry place) may in let both : Some found.0 ≡ None = sym found.1 ∙ none in cc

  is_for : (entry place : ℕ) → IsFor e.actor (output_at older entry place) → (m : Message) → output_at older entry place ≡ Some m → m.to ≢ e.actor → ⊥
  is_for entry place may m at other =
      let found = sent_to e.actor (output_at older entry place) may in
      let both : Some found.0 ≡ Some m = sym found.1 ∙ at in
      let same : found.0 ≡ m = cc in
      other (ap (λ (x : Message). x.to) (sym same) ∙ found.2)

  no_message : (event : Event) → MayHappen script older e.actor event → ¬ IsUnsent older event
  no_message (Deliver entry place) may wrong = there_is entry place may wrong
  no_message (Dropped entry place) may wrong = there_is entry place may wrong
  no_message (OfItself inner) may wrong = wrong

  no_addressee : (event : Event) → MayHappen script older e.actor event → ¬ IsForAnother older e.actor event
  no_addressee (Deliver entry place) may wrong = is_for entry place may wrong.0 wrong.1 wrong.2
  no_addressee (Dropped entry place) may wrong = is_for entry place may wrong.0 wrong.1 wrong.2
  no_addressee (OfItself inner) may wrong = wrong

  no_bar : (event : Event) → MayHappen script older e.actor event → ¬ IsBarred script older e.actor event
  no_bar (Deliver entry place) may wrong = wrong
  no_bar (Dropped entry place) may wrong = wrong
  no_bar (OfItself inner) may wrong = wrong may

  allowed_none : IsAllowed script older e → NoneBefore 7
  allowed_none allowed = none_before 7 (omega arith) (λ _. no_stranger allowed.known) (λ _. no_dead allowed.live) (λ _. no_message e.event allowed.may)
      (λ _. no_addressee e.event allowed.may) (λ _ wrong. wrong allowed.plan) (λ _. no_bar e.event allowed.may)

  -- where a message was found for it, by its event

  abbrev pub IsForIt : Event → Type 0
  IsForIt (Deliver entry place) = IsFor e.actor (output_at older entry place)
  IsForIt (Dropped entry place) = IsFor e.actor (output_at older entry place)
  IsForIt (OfItself inner) = Unit {0}

  for_it_message : (event : Event) → IsForIt event → ¬ IsUnsent older event
  for_it_message (Deliver entry place) may wrong = there_is entry place may wrong
  for_it_message (Dropped entry place) may wrong = there_is entry place may wrong
  for_it_message (OfItself inner) may wrong = wrong

  for_it_addressee : (event : Event) → IsForIt event → ¬ IsForAnother older e.actor event
  for_it_addressee (Deliver entry place) may wrong = is_for entry place may wrong.0 wrong.1 wrong.2
  for_it_addressee (Dropped entry place) may wrong = is_for entry place may wrong.0 wrong.1 wrong.2
  for_it_addressee (OfItself inner) may wrong = wrong

  -- the causes that the checker finds

  pub stranger : is_known script e.actor ≡ false → IsCause script older e Stranger
  stranger unknown = record {
    flaw = unknown;
    first = none_before 1 (omega arith) (λ lt. absurd (omega arith)) (λ lt. absurd (omega arith)) (λ lt. absurd (omega arith))
        (λ lt. absurd (omega arith)) (λ lt. absurd (omega arith)) (λ lt. absurd (omega arith));
  }

  module _ (known : is_known script e.actor ≡ true) where
    pub dead : is_live older e.actor ≡ false → IsCause script older e Dead
    dead gone = record {
      flaw = gone;
      first = none_before 2 (omega arith) (λ _. no_stranger known) (λ lt. absurd (omega arith)) (λ lt. absurd (omega arith))
          (λ lt. absurd (omega arith)) (λ lt. absurd (omega arith)) (λ lt. absurd (omega arith));
    }

    module _ (live : is_live older e.actor ≡ true) where
      unsent : IsUnsent older e.event → IsCause script older e NoMessage
      unsent none = record {
        flaw = none;
        first = none_before 3 (omega arith) (λ _. no_stranger known) (λ _. no_dead live) (λ lt. absurd (omega arith))
            (λ lt. absurd (omega arith)) (λ lt. absurd (omega arith)) (λ lt. absurd (omega arith));
      }

      sent_elsewhere : ¬ IsUnsent older e.event → IsForAnother older e.actor e.event → IsCause script older e Addressee
      sent_elsewhere there other = record {
        flaw = other;
        first = none_before 4 (omega arith) (λ _. no_stranger known) (λ _. no_dead live) (λ _. there)
            (λ lt. absurd (omega arith)) (λ lt. absurd (omega arith)) (λ lt. absurd (omega arith));
      }

      found_cause : (o : Option Message) (cause : EntryCause) → output_flaw e.actor o ≡ Some cause
          → ((o ≡ None) × (cause ≡ NoMessage)) ⊎ ((m : Message) × (o ≡ Some m) × (m.to ≢ e.actor) × (cause ≡ Addressee))
      found_cause None cause is = inl (refl, let same : NoMessage ≡ cause = cc in sym same)
      found_cause (Some m) cause is = elim (cases_Bool (same_name m.to e.actor)) [
        | inl t ↦ absurd (let wrong : None ≡ Some cause = sym (cond-true (same_name m.to e.actor) None (Some Addressee) t) ∙ is in cc)
        | inr f ↦
            let both : Some Addressee ≡ Some cause = sym (cond-false (same_name m.to e.actor) None (Some Addressee) f) ∙ is in
            let same : Addressee ≡ cause = cc in
            inr (
              m,
              refl,
              (λ (k : m.to ≡ e.actor). let is_same : same_name m.to e.actor ≡ true = ap (same_name m.to) (sym k) ∙ same_name_refl m.to in
                  let wrong : true ≡ false = sym is_same ∙ f in cc),
              sym same,
            )
      ]

      output_cause : (entry place : ℕ) (cause : EntryCause) → (e.event ≡ Deliver entry place) ⊎ (e.event ≡ Dropped entry place)
          → output_flaw e.actor (output_at older entry place) ≡ Some cause → IsCause script older e cause
      output_cause entry place cause event is = elim (found_cause (output_at older entry place) cause is) [
        | inl none ↦ subst (IsCause script older e) (sym none.1) (unsent (elim event [
          | inl d ↦ subst (IsUnsent older) (sym d) none.0
          | inr d ↦ subst (IsUnsent older) (sym d) none.0
        ]))
        | inr other ↦
            let there : output_at older entry place ≡ None → ⊥ = (λ none. let both : Some other.0 ≡ None = sym other.1 ∙ none in cc) in
            subst (IsCause script older e) (sym other.3) (elim event [
              | inl d ↦ sent_elsewhere (λ wrong. there (subst (IsUnsent older) d wrong)) (subst (IsForAnother older e.actor) (sym d) (other.0, other.1, other.2))
              | inr d ↦ sent_elsewhere (λ wrong. there (subst (IsUnsent older) d wrong)) (subst (IsForAnother older e.actor) (sym d) (other.0, other.1, other.2))
            ])
      ]

      pub message_cause : (cause : EntryCause) → message_flaw older e.actor e.event ≡ Some cause → IsCause script older e cause
      message_cause cause is = by e.event refl is
        where
          by : (event : Event) → e.event ≡ event → message_flaw older e.actor event ≡ Some cause → IsCause script older e cause
          by (Deliver entry place) k is = output_cause entry place cause (inl k) is
          by (Dropped entry place) k is = output_cause entry place cause (inr k) is
          by (OfItself inner) k is = absurd cc

      for_of : (o : Option Message) → output_flaw e.actor o ≡ None → IsFor e.actor o
      for_of None is = absurd cc
      for_of (Some m) is = elim (cases_Bool (same_name m.to e.actor)) [
        | inl t ↦ same_name_is m.to e.actor t
        | inr f ↦ absurd (let wrong : Some Addressee ≡ None = sym (cond-false (same_name m.to e.actor) None (Some Addressee) f) ∙ is in cc)
      ]

      for_it : (event : Event) → message_flaw older e.actor event ≡ None → IsForIt event
      for_it (Deliver entry place) is = for_of (output_at older entry place) is
      for_it (Dropped entry place) is = for_of (output_at older entry place) is
      for_it (OfItself inner) is = tt

      module _ (none : message_flaw older e.actor e.event ≡ None) where
        to_it : IsForIt e.event
        to_it = for_it e.event none

        pub unplanned : ¬ FollowsPlan script older e → IsCause script older e Plan
        unplanned wrong = record {
          flaw = wrong;
          first = none_before 5 (omega arith) (λ _. no_stranger known) (λ _. no_dead live) (λ _. for_it_message e.event to_it)
              (λ _. for_it_addressee e.event to_it) (λ lt. absurd (omega arith)) (λ lt. absurd (omega arith));
        }

        module _ (plan : FollowsPlan script older e) where
          -- a step that the plan asks for is one of a process
          of_process : (a : ActorName) (event : Event) (inner : Inner) → event ≡ OfItself inner → FollowsLine (due_of script older a) event
              → (inner ≡ Crash) ⊎ ((id : _) × (inner ≡ Recover id)) → MayMake (identity_in script a) (acts older a) inner
          of_process (Process s) event inner is line asked = elim asked [
            | inl crash ↦ subst (MayMake (identity_in script (Process s)) (acts older (Process s))) (sym crash) tt
            | inr recover ↦ subst (MayMake (identity_in script (Process s)) (acts older (Process s))) (sym recover.1) tt
          ]
          of_process (Executor s) event inner is line asked = absurd (elim asked [
            | inl crash ↦ let wrong = subst (FollowsLine None) (is ∙ ap (λ (i : Inner). OfItself i) crash) line in cc
            | inr recover ↦ let wrong = subst (FollowsLine None) (is ∙ ap (λ (i : Inner). OfItself i) recover.1) line in cc
          ])
          of_process (Session s) event inner is line asked = absurd (elim asked [
            | inl crash ↦ let wrong = subst (FollowsLine None) (is ∙ ap (λ (i : Inner). OfItself i) crash) line in cc
            | inr recover ↦ let wrong = subst (FollowsLine None) (is ∙ ap (λ (i : Inner). OfItself i) recover.1) line in cc
          ])

          able : (event : Event) → e.event ≡ event → IsForIt event → IsAble (identity_in script e.actor) (acts older e.actor) event → MayHappen script older e.actor event
          able (Deliver entry place) is to can = to
          able (Dropped entry place) is to can = to
          able (OfItself (Submit n)) is to can = can
          able (OfItself (Recover id)) is to can = of_process e.actor e.event (Recover id) is plan.line (inr (id, refl))
          able (OfItself Announce) is to can = can
          able (OfItself (Declare id)) is to can = can
          able (OfItself (Execute id)) is to can = can
          able (OfItself Crash) is to can = of_process e.actor e.event Crash is plan.line (inl refl)

          barred : (event : Event) → ¬ IsAble (identity_in script e.actor) (acts older e.actor) event → IsBarred script older e.actor event
          barred (Deliver entry place) wrong = wrong tt
          barred (Dropped entry place) wrong = wrong tt
          barred (OfItself (Submit n)) wrong = wrong
          barred (OfItself (Recover id)) wrong = absurd (wrong tt)
          barred (OfItself Announce) wrong = wrong
          barred (OfItself (Declare id)) wrong = wrong
          barred (OfItself (Execute id)) wrong = wrong
          barred (OfItself Crash) wrong = absurd (wrong tt)

          pub not_enabled : ¬ IsAble (identity_in script e.actor) (acts older e.actor) e.event → IsCause script older e NotEnabled
          not_enabled wrong = record {
            flaw = barred e.event wrong;
            first = none_before 6 (omega arith) (λ _. no_stranger known) (λ _. no_dead live)
                (λ _. for_it_message e.event to_it) (λ _. for_it_addressee e.event to_it) (λ _ no_plan. no_plan plan) (λ lt. absurd (omega arith));
          }

          pub allowed : IsAble (identity_in script e.actor) (acts older e.actor) e.event → IsAllowed script older e
          allowed can = record { known = known; live = live; may = able e.event refl to_it can; plan = plan }

  -- what it sends

  pub differs : IsAllowed script older e → (place : ℕ) → DifferFirst e.outputs (outputs_in script older e.actor e.event) place → IsCause script older e (Outputs place)
  differs allowed place there = record { flaw = there; first = allowed_none allowed }

  pub legal : IsAllowed script older e → e.outputs ≡ outputs_in script older e.actor e.event → IsLegal script older e
  legal allowed same = record {
    rules = record { known = allowed.known; live = allowed.live; may = allowed.may; outputs = same };
    plan = allowed.plan;
  }

  -- a legal entry has no flaw

  pub legal_flawless : IsLegal script older e → (cause : EntryCause) → ¬ Flaw cause
  legal_flawless is Stranger = no_stranger is.rules.known
  legal_flawless is Dead = no_dead is.rules.live
  legal_flawless is NoMessage = no_message e.event is.rules.may
  legal_flawless is Addressee = no_addressee e.event is.rules.may
  legal_flawless is Plan = λ wrong. wrong is.plan
  legal_flawless is NotEnabled = no_bar e.event is.rules.may
  legal_flawless is (Outputs place) = λ differ. differ.there (ap (λ (ms : List Message). nth ms place) is.rules.outputs)

-- whether the actor at a place may make the step, said by itself

pub able_there : {A : Type 0} (identity_of : A → Identity) (is_spent : A → Bool) (stands : A → List Act → Type 0) (script : Script) (actors : List A)
    (earlier : List Entry) (all : AllStand identity_of is_spent stands script actors earlier) (name : ActorName) (known : is_known script name ≡ true)
    (home : ℕ) (is : home ≡ place_of script name) (a : A) → a ≡ get_or actors home a → (event : Event) (result : Bool)
    → ((acts : List Act) → stands a acts → IsTrue result ↔ IsAble (identity_of a) acts event)
    → IsTrue result ↔ IsAble (identity_in script name) (acts (reverse earlier) name) event
able_there {A} identity_of is_spent stands script actors earlier all name known home is a here event result says =
    let found : (identity_of a ≡ identity_in script name) × (is_spent a ≡ false) × stands a (acts (reverse earlier) name) =
    subst (λ (x : A). (identity_of x ≡ identity_in script name) × (is_spent x ≡ false) × stands x (acts (reverse earlier) name)) (sym here)
    (there identity_of is_spent stands script actors earlier all name known home is a) in
    subst (λ (i : Identity). IsTrue result ↔ IsAble i (acts (reverse earlier) name) event) found.0 (says (acts (reverse earlier) name) found.2)
