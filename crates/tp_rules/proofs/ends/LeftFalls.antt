-- Why every run of an accepted script ends: each entry lowers the number of what is left. The driver's loop goes by it.
use Rattle.std.proofs.Common.{◌≡◌, ℕ, ◌+◌, ◌<◌, ◌≤◌, inl, inr, true, List, [], ◌∷◌, Option, Some, None, length, refl, sym, ap, subst, ◌∙◌, arith}
use Rattle.std.specs.Prelude.{option_map}
use Rattle.tp_base.specs.Lists.{Each}
use Rattle.tp_base.proofs.Each.{each_weaker}
use Rattle.tp_base.proofs.Options.{some_is}
use Rattle.tp_base.specs.declared.names.ActorName.{ActorName}
use Rattle.tp_base.specs.declared.names.ActorName.TheVariants.{Process, Executor, Session}
use Rattle.tp_base.specs.declared.names.CommandId.{CommandId}
use Rattle.tp_rules.specs.Acts.{Act, Took, Did}
use Rattle.tp_rules.specs.Executor as executor
use Rattle.tp_rules.specs.Process as process
use Rattle.tp_rules.specs.Journal.{identity_in, output_at, act_of, acts}
use Rattle.tp_rules.specs.Left.{place_of, undelivered, unannounced, undeclared, unexecuted, counts, left}
use Rattle.tp_rules.specs.Plan.{is_planned, due}
use Rattle.tp_rules.specs.Rules.{outputs_of}
use Rattle.tp_rules.specs.Runs.{IsFor, MayHappen, outputs_by, FollowsRules, FollowsFate, IsLegal, IsHistory}
use Rattle.tp_rules.specs.Sheet.{ring_rule}
use Rattle.tp_rules.specs.declared.event.Entry.{Entry}
use Rattle.tp_rules.specs.declared.event.Event.{Event}
use Rattle.tp_rules.specs.declared.event.Event.TheVariants.{Deliver, Dropped, Inner as OfItself}
use Rattle.tp_rules.specs.declared.event.Inner.{Inner}
use Rattle.tp_rules.specs.declared.event.Inner.TheVariants.{Submit, Recover, Announce, Declare, Execute, Crash}
use Rattle.tp_script.specs.Accepted.{IsAccepted}
use Rattle.tp_script.specs.declared.script.Script.{Script}
use Rattle.tp_wire.specs.declared.message.Body.{Body}
use Rattle.tp_wire.specs.declared.message.Body.TheVariants.{MSubmit, MPropose, MPayload, MProposeAck, MBump, MConsensus, MConsensusAck, MCommit, MRec, MRecAck, MPromises, MCommitted, MStable, MResult}
use Rattle.tp_wire.specs.declared.message.Message.{Message}
use Rattle.tp_rules.proofs.ends.DeliveriesLeft.{delivery_falls, loss_falls}
use Rattle.tp_rules.proofs.Histories.{free_history}
use Rattle.tp_rules.proofs.ends.HowMany.{outputs_few}
use Rattle.tp_rules.proofs.ends.LaterKinds.{IsAfter, sends_later, announcement_is_later, declarations_are_later, results_are_later}
use Rattle.tp_rules.proofs.sent.Parcels.{parcel, output_sent}
use Rattle.tp_rules.proofs.ends.Unannounced.{AddsNone, unannounced_stays, unannounced_rises, unannounced_falls}
use Rattle.tp_rules.proofs.ends.Undelivered.{undelivered_stays, undelivered_rises, undelivered_falls}
use Rattle.tp_rules.proofs.ends.Unentered.{unentered_stays, unentered_falls}
use Rattle.tp_rules.proofs.ends.Unexecuted.{undeclared_stays, undeclared_falls, unexecuted_stays, unexecuted_falls}
use Rattle.tp_rules.proofs.ends.Unsubmitted.{unsubmitted_stays, unsubmitted_falls}
use Rattle.tp_rules.proofs.lists.Weights.{Lower, RisesLittle, weight_falls}

-- the counts from each place on

abbrev from_16 : Script → List Entry → List ℕ
from_16 script older = undelivered script older 16 ∷ []

abbrev from_15 : Script → List Entry → List ℕ
from_15 script older = unexecuted script older ∷ from_16 script older

abbrev from_14 : Script → List Entry → List ℕ
from_14 script older = undelivered script older 14 ∷ from_15 script older

abbrev from_13 : Script → List Entry → List ℕ
from_13 script older = undeclared script older ∷ from_14 script older

abbrev from_12 : Script → List Entry → List ℕ
from_12 script older = undelivered script older 12 ∷ from_13 script older

abbrev from_11 : Script → List Entry → List ℕ
from_11 script older = unannounced script older ∷ from_12 script older

abbrev from_10 : Script → List Entry → List ℕ
from_10 script older = undelivered script older 10 ∷ from_11 script older

abbrev from_9 : Script → List Entry → List ℕ
from_9 script older = undelivered script older 9 ∷ from_10 script older

abbrev from_8 : Script → List Entry → List ℕ
from_8 script older = undelivered script older 8 ∷ from_9 script older

abbrev from_7 : Script → List Entry → List ℕ
from_7 script older = undelivered script older 7 ∷ from_8 script older

abbrev from_6 : Script → List Entry → List ℕ
from_6 script older = undelivered script older 6 ∷ from_7 script older

abbrev from_5 : Script → List Entry → List ℕ
from_5 script older = undelivered script older 5 ∷ from_6 script older

abbrev from_4 : Script → List Entry → List ℕ
from_4 script older = undelivered script older 4 ∷ from_5 script older

abbrev from_3 : Script → List Entry → List ℕ
from_3 script older = undelivered script older 3 ∷ from_4 script older

for_some : (actor : ActorName) (o : Option Message) → IsFor actor o → (m : Message) × (o ≡ Some m)
for_some actor None h = absurd h
for_some actor (Some m) h = (m, refl)

module _ (script : Script) (accepted : IsAccepted script) (older : List Entry) (e : Entry) (few : length e.outputs ≤ 63) where
  abbrev Rises : (Script → List Entry → List ℕ) → Type 0
  Rises part = RisesLittle (part script older) (part script (e ∷ older))

  abbrev Lowers : (Script → List Entry → List ℕ) → Type 0
  Lowers part = Lower (part script older) (part script (e ∷ older))

  rise : (k : ℕ) → undelivered script (e ∷ older) k ≤ undelivered script older k + 599
  rise k = undelivered_rises script accepted older e k few

  rises_16 : Rises from_16
  rises_16 = (rise 16, tt)

  rises_15 : Rises from_15
  rises_15 = (omega (arith, unexecuted_stays script older e), rises_16)

  rises_14 : Rises from_14
  rises_14 = (rise 14, rises_15)

  rises_13 : Rises from_13
  rises_13 = (omega (arith, undeclared_stays script older e), rises_14)

  rises_12 : Rises from_12
  rises_12 = (rise 12, rises_13)

  rises_11 : Rises from_11
  rises_11 = (unannounced_rises script accepted.shape older e, rises_12)

  rises_10 : Rises from_10
  rises_10 = (rise 10, rises_11)

  rises_9 : Rises from_9
  rises_9 = (rise 9, rises_10)

  rises_8 : Rises from_8
  rises_8 = (rise 8, rises_9)

  rises_7 : Rises from_7
  rises_7 = (rise 7, rises_8)

  rises_6 : Rises from_6
  rises_6 = (rise 6, rises_7)

  rises_5 : Rises from_5
  rises_5 = (rise 5, rises_6)

  rises_4 : Rises from_4
  rises_4 = (rise 4, rises_5)

  rises_3 : Rises from_3
  rises_3 = (rise 3, rises_4)

  -- the counts before a place do not rise

  lowers_3 : Lowers from_3 → Lowers counts
  unfolding counts
  lowers_3 h = inr (unsubmitted_stays script older e, inr (unentered_stays script older e, h))

  module _ (k : ℕ) (later : Each (IsAfter k) e.outputs) where
    stays : (j : ℕ) → j ≤ k → undelivered script (e ∷ older) j ≤ undelivered script older j
    stays j le = undelivered_stays script older e j (each_weaker (IsAfter k) (IsAfter j) (λ m after. omega arith) e.outputs later)

    lowers_4 : 3 ≤ k → Lowers from_4 → Lowers counts
    lowers_4 le h = lowers_3 (inr (stays 3 le, h))

    lowers_5 : 4 ≤ k → Lowers from_5 → Lowers counts
    lowers_5 le h = lowers_4 (omega arith) (inr (stays 4 le, h))

    lowers_6 : 5 ≤ k → Lowers from_6 → Lowers counts
    lowers_6 le h = lowers_5 (omega arith) (inr (stays 5 le, h))

    lowers_7 : 6 ≤ k → Lowers from_7 → Lowers counts
    lowers_7 le h = lowers_6 (omega arith) (inr (stays 6 le, h))

    lowers_8 : 7 ≤ k → Lowers from_8 → Lowers counts
    lowers_8 le h = lowers_7 (omega arith) (inr (stays 7 le, h))

    lowers_9 : 8 ≤ k → Lowers from_9 → Lowers counts
    lowers_9 le h = lowers_8 (omega arith) (inr (stays 8 le, h))

    lowers_10 : 9 ≤ k → Lowers from_10 → Lowers counts
    lowers_10 le h = lowers_9 (omega arith) (inr (stays 9 le, h))

    lowers_11 : 10 ≤ k → Lowers from_11 → Lowers counts
    lowers_11 le h = lowers_10 (omega arith) (inr (stays 10 le, h))

    module _ (silent : (act : Act) → act_of older e.event ≡ Some act → AddsNone act) where
      lowers_12 : 11 ≤ k → Lowers from_12 → Lowers counts
      lowers_12 le h = lowers_11 (omega arith) (inr (unannounced_stays script older e silent, h))

      lowers_13 : 12 ≤ k → Lowers from_13 → Lowers counts
      lowers_13 le h = lowers_12 (omega arith) (inr (stays 12 le, h))

      lowers_14 : 13 ≤ k → Lowers from_14 → Lowers counts
      lowers_14 le h = lowers_13 (omega arith) (inr (undeclared_stays script older e, h))

      lowers_15 : 14 ≤ k → Lowers from_15 → Lowers counts
      lowers_15 le h = lowers_14 (omega arith) (inr (stays 14 le, h))

      lowers_16 : 15 ≤ k → Lowers from_16 → Lowers counts
      lowers_16 le h = lowers_15 (omega arith) (inr (unexecuted_stays script older e, h))

  -- a message of each kind, with one delivery less
  by_body : (body : Body) → Each (IsAfter (place_of body)) e.outputs →
      undelivered script (e ∷ older) (place_of body) < undelivered script older (place_of body) →
      (11 < place_of body → (act : Act) → act_of older e.event ≡ Some act → AddsNone act) → Lowers counts
  by_body (MSubmit c) later less silent = lowers_3 (inl (less, rises_4))
  by_body (MRec c b) later less silent = lowers_3 (inl (less, rises_4))
  by_body (MPropose c floor) later less silent = lowers_4 4 later (omega arith) (inl (less, rises_5))
  by_body (MPayload c) later less silent = lowers_4 4 later (omega arith) (inl (less, rises_5))
  by_body (MProposeAck id t) later less silent = lowers_5 5 later (omega arith) (inl (less, rises_6))
  by_body (MRecAck id t made a b) later less silent = lowers_5 5 later (omega arith) (inl (less, rises_6))
  by_body (MConsensus c t b) later less silent = lowers_6 6 later (omega arith) (inl (less, rises_7))
  by_body (MConsensusAck id b) later less silent = lowers_7 7 later (omega arith) (inl (less, rises_8))
  by_body (MCommit c q t) later less silent = lowers_8 8 later (omega arith) (inl (less, rises_9))
  by_body (MCommitted c t) later less silent = lowers_9 9 later (omega arith) (inl (less, rises_10))
  by_body (MBump id t) later less silent = lowers_10 10 later (omega arith) (inl (less, rises_11))
  by_body (MPromises lo hi pairs) later less silent = lowers_12 12 later (silent (omega arith)) (omega arith) (inl (less, rises_13))
  by_body (MStable id) later less silent = lowers_14 14 later (silent (omega arith)) (omega arith) (inl (less, rises_15))
  by_body (MResult id q answers) later less silent = lowers_16 16 later (silent (omega arith)) (omega arith) (inl (less, tt))

  sends : FollowsRules script older e → (o : Option Act) → act_of older e.event ≡ o → e.outputs ≡ outputs_by script older e.actor o
  sends follows o is = follows.outputs ∙ ap (outputs_by script older e.actor) is

  -- a delivery
  delivered : IsLegal script older e → (entry place : ℕ) → e.event ≡ Deliver entry place → (m : Message) → output_at older entry place ≡ Some m →
      Lowers counts
  delivered legal entry place event m is =
      let p = parcel entry place m in
      let fate : FollowsFate script older (Deliver entry place) = subst (FollowsFate script older) event legal.plan.fate in
      let takes : act_of older e.event ≡ Some (Took m) = ap (act_of older) event ∙ ap (option_map Took) is in
      let later : Each (IsAfter (place_of m.body)) e.outputs =
      subst (Each (IsAfter (place_of m.body))) (sym (sends legal.rules (Some (Took m)) takes)) (sends_later script e.actor (acts older e.actor) m) in
      let sent_once = output_sent older entry place m is in
      let one_less = delivery_falls script older e p sent_once event (fate m is).0 (fate m is).1 in
      by_body m.body later (undelivered_falls script older e p later sent_once (omega arith))
      (λ high act same. let which : Took m ≡ act = some_is (sym takes ∙ same) in subst AddsNone which high)

  -- a loss
  dropped : IsLegal script older e → (entry place : ℕ) → e.event ≡ Dropped entry place → (m : Message) → output_at older entry place ≡ Some m →
      Lowers counts
  dropped legal entry place event m is =
      let p = parcel entry place m in
      let fate : FollowsFate script older (Dropped entry place) = subst (FollowsFate script older) event legal.plan.fate in
      let nothing : act_of older e.event ≡ None = ap (act_of older) event in
      let later : Each (IsAfter (place_of m.body)) e.outputs = subst (Each (IsAfter (place_of m.body))) (sym (sends legal.rules None nothing)) tt in
      let sent_once = output_sent older entry place m is in
      let one_less = loss_falls script older e p sent_once event (fate m is).0 (fate m is).1 in
      by_body m.body later (undelivered_falls script older e p later sent_once (omega arith))
      (λ high act same. let wrong : None ≡ Some act = sym nothing ∙ same in absurd cc)

  announces_later : (actor : ActorName) (before : List Act) → Each (IsAfter 11) (outputs_of (identity_in script actor) before (Did Announce))
  announces_later (Process s) before = announcement_is_later script.topology s (process.state_after (ring_rule script.topology) s before)
  announces_later (Executor s) before = tt
  announces_later (Session s) before = tt

  declares_later : (actor : ActorName) (before : List Act) (id : CommandId) →
      Each (IsAfter 13) (outputs_of (identity_in script actor) before (Did (Declare id)))
  declares_later (Process s) before id = tt
  declares_later (Executor s) before id = declarations_are_later script.topology s (executor.state_after script.topology s before)
  declares_later (Session s) before id = tt

  executes_later : (actor : ActorName) (before : List Act) (id : CommandId) →
      Each (IsAfter 15) (outputs_of (identity_in script actor) before (Did (Execute id)))
  executes_later (Process s) before id = tt
  executes_later (Executor s) before id = results_are_later script.topology s (executor.state_after script.topology s before)
  executes_later (Session s) before id = tt

  -- a due line
  planned : IsHistory script older → IsLegal script older e → is_planned e.event ≡ true → Lowers counts
  unfolding counts
  planned history legal due = inr (unsubmitted_stays script older e, inl (unentered_falls script older e history legal due, rises_3))

  -- a step of its own
  by_itself : IsHistory script older → IsLegal script older e → (inner : Inner) → e.event ≡ OfItself inner → Lowers counts
  unfolding counts
  by_itself history legal (Submit n) event =
      inl (unsubmitted_falls script accepted older e n (free_history script older history) legal.rules event, (omega (arith, unentered_stays script older e), rises_3))
  by_itself history legal (Recover id) event = planned history legal (ap is_planned event)
  by_itself history legal Crash event = planned history legal (ap is_planned event)
  by_itself history legal Announce event =
      let does : act_of older e.event ≡ Some (Did Announce) = ap (act_of older) event in
      let later : Each (IsAfter 11) e.outputs =
      subst (Each (IsAfter 11)) (sym (sends legal.rules (Some (Did Announce)) does)) (announces_later e.actor (acts older e.actor)) in
      lowers_11 11 later (omega arith) (inl (unannounced_falls script older e legal.rules event, rises_12))
  by_itself history legal (Declare id) event =
      let does : act_of older e.event ≡ Some (Did (Declare id)) = ap (act_of older) event in
      let later : Each (IsAfter 13) e.outputs =
      subst (Each (IsAfter 13)) (sym (sends legal.rules (Some (Did (Declare id))) does)) (declares_later e.actor (acts older e.actor) id) in
      let silent : (act : Act) → act_of older e.event ≡ Some act → AddsNone act =
      (λ act same. let which : Did (Declare id) ≡ act = some_is (sym does ∙ same) in subst AddsNone which tt) in
      lowers_13 13 later silent (omega arith)
      (inl (undeclared_falls script older e id (free_history script older history) legal.rules event, rises_14))
  by_itself history legal (Execute id) event =
      let does : act_of older e.event ≡ Some (Did (Execute id)) = ap (act_of older) event in
      let later : Each (IsAfter 15) e.outputs =
      subst (Each (IsAfter 15)) (sym (sends legal.rules (Some (Did (Execute id))) does)) (executes_later e.actor (acts older e.actor) id) in
      let silent : (act : Act) → act_of older e.event ≡ Some act → AddsNone act =
      (λ act same. let which : Did (Execute id) ≡ act = some_is (sym does ∙ same) in subst AddsNone which tt) in
      lowers_15 15 later silent (omega arith)
      (inl (unexecuted_falls script older e id (free_history script older history) legal.rules event, rises_16))

  by_event : IsHistory script older → IsLegal script older e → (event : Event) → e.event ≡ event → Lowers counts
  by_event history legal (Deliver entry place) event =
      let found = for_some e.actor (output_at older entry place) (subst (MayHappen script older e.actor) event legal.rules.may) in
      delivered legal entry place event found.0 found.1
  by_event history legal (Dropped entry place) event =
      let found = for_some e.actor (output_at older entry place) (subst (MayHappen script older e.actor) event legal.rules.may) in
      dropped legal entry place event found.0 found.1
  by_event history legal (OfItself inner) event = by_itself history legal inner event

-- each entry of a run lowers what is left
pub left_falls : (script : Script) (older : List Entry) (e : Entry) → IsAccepted script → IsHistory script (e ∷ older) →
    left script (e ∷ older) < left script older
unfolding left
left_falls script older e accepted history =
    weight_falls (counts script older) (counts script (e ∷ older))
    (by_event script accepted older e (outputs_few script accepted.shape older e history.1.rules) history.0 history.1 e.event refl)
