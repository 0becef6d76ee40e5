-- What is decided at a moment of a run is decided at each later one. Used for stamps that processes know.
use Rattle.std.proofs.Common.{◌≡◌, ℕ, inr, cond, List, ◌∷◌, Option, refl, sym, ap, ◌∙◌, subst, arith}
use Rattle.std.proofs.lemmas.Bool.{cond_both}
use Rattle.tp_base.proofs.SameNames.{same_id_is}
use Rattle.tp_base.specs.Names.{same_id}
use Rattle.tp_base.specs.declared.names.ActorName.TheVariants.{Process}
use Rattle.tp_base.specs.declared.names.CommandId.{CommandId}
use Rattle.tp_base.specs.declared.names.Site.{Site}
use Rattle.tp_quorum.specs.Choice.{present, greatest}
use Rattle.tp_rules.proofs.ActsMore.{acts_step}
use Rattle.tp_rules.specs.Acts.{Act}
use Rattle.tp_rules.specs.Addresses.{site}
use Rattle.tp_rules.specs.Journal.{acts}
use Rattle.tp_rules.specs.Process.{Step, ProcessState, state_after}
use Rattle.tp_rules.specs.Runs.{IsFreeHistory}
use Rattle.tp_rules.specs.Sheet.{QuorumRule, Sheet, ring_rule}
use Rattle.tp_rules.specs.declared.event.Entry.{Entry}
use Rattle.tp_script.specs.Accepted.{IsAccepted}
use Rattle.tp_script.specs.declared.script.Script.{Script}
use Rattle.tp_wire.specs.declared.message.Body.{Body}
use Rattle.tp_wire.specs.declared.message.Message.{Message}
use Rattle.tp_facts.proofs.Facts.{IsFast, IsFull}
use Rattle.tp_facts.proofs.StepCases.{SheetStep, ProcessStep, does_nothing, bumps_clock, announces, passes_commit_on, changes_sheet, attaches_proposal, submits_and_acknowledges, counts_acknowledgement, decides_fast, puts_slow}
use Rattle.tp_facts.proofs.ActSteps.{step_of_act}
use Rattle.tp_agreement.proofs.Decisions.{Decided, fast_path, slow_path}
use Rattle.tp_agreement.proofs.Moment.{Moment, SentBy, moment_at}

module _ (s : QuorumRule) (me : Site) where
  -- a process takes acknowledgements only while it has fewer than a fast quorum
  row_keeps_whole : {act : Act} {id : CommandId} {old new : Sheet} {out : List Message} → SheetStep s me act id old new out
      → IsFull s old.acknowledged → new.acknowledged ≡ old.acknowledged
  row_keeps_whole (submits_and_acknowledges c t e home fresh can) whole = absurd (omega (arith, can.few, whole))
  row_keeps_whole (counts_acknowledgement id t e can few) whole = absurd (omega (arith, can.few, whole))
  row_keeps_whole (decides_fast id t e can all fast last) whole = absurd (omega (arith, can.few, whole))
  row_keeps_whole (puts_slow id t e can all slow) whole = absurd (omega (arith, can.few, whole))
  row_keeps_whole _ whole = refl

  -- nor does a step change those of any other command
  sheets_keep_whole : {act : Act} {id : CommandId} {new : Sheet} {out : List Message} (sheets : CommandId → Sheet)
      (i : CommandId) → SheetStep s me act id (sheets id) new out → IsFull s (sheets i).acknowledged
      → (cond (same_id id i) new (sheets i)).acknowledged ≡ (sheets i).acknowledged
  sheets_keep_whole {id = id} {new = new} sheets i row whole =
      cond_both (same_id id i) new (sheets i) (λ (sheet : Sheet). sheet.acknowledged ≡ (sheets i).acknowledged)
      (λ y. let same : id ≡ i = same_id_is id i y in
      subst (λ (k : CommandId). new.acknowledged ≡ (sheets k).acknowledged) same
      (row_keeps_whole row (subst (λ (k : CommandId). IsFull s (sheets k).acknowledged) (sym same) whole)))
      (λ n. refl)

  step_keeps_whole : {act : Act} {state : ProcessState} {moved : Step} → ProcessStep s me act state moved → (i : CommandId)
      → IsFull s (state.sheets i).acknowledged → (moved.0.sheets i).acknowledged ≡ (state.sheets i).acknowledged
  step_keeps_whole does_nothing i whole = refl
  step_keeps_whole (bumps_clock clock le) i whole = refl
  step_keeps_whole announces i whole = refl
  step_keeps_whole (passes_commit_on c b t is e known) i whole = refl
  step_keeps_whole {state = state} (changes_sheet clock le row same) i whole = sheets_keep_whole state.sheets i row whole
  step_keeps_whole {state = state} (attaches_proposal t made lt row none is) i whole =
      sheets_keep_whole state.sheets i row whole

module _ (script : Script) (accepted : IsAccepted script) (older : List Entry) (e : Entry)
    (history : IsFreeHistory script (e ∷ older)) (partition : ℕ) (id : CommandId) where
  -- the moments before an entry and after it
  abbrev before : Moment
  before = moment_at script accepted older history.0 partition id

  abbrev after : Moment
  after = moment_at script accepted (e ∷ older) history partition id

  abbrev acknowledged_by : Site → List Act → List (Option ℕ)
  acknowledged_by k list = ((state_after (ring_rule script.topology) k list).sheets id).acknowledged

  -- so an entry leaves the acknowledgements of a whole fast quorum as they are
  whole_stays : (k : Site) → IsFull (ring_rule script.topology) (acknowledged_by k (acts older (Process k)))
      → acknowledged_by k (acts (e ∷ older) (Process k)) ≡ acknowledged_by k (acts older (Process k))
  whole_stays k whole =
      acts_step (λ (list : List Act). acknowledged_by k list ≡ acknowledged_by k (acts older (Process k)))
      older e (Process k) refl
      (λ act same is. step_keeps_whole (ring_rule script.topology) k
      (step_of_act (ring_rule script.topology) k act
      (state_after (ring_rule script.topology) k (acts older (Process k)))) id whole)

  -- what was sent before it was sent after it, and so what was decided
  sent_later : (j : ℕ) (body : Body) → SentBy before j body → SentBy after j body
  sent_later j body sent =
      record { message = sent.message; known = sent.known; from = sent.from; there = inr sent.there; is = sent.is }

  pub decided_later : (t : ℕ) → Decided before t → Decided after t
  decided_later t (fast_path f) =
      let stays = whole_stays (site partition f.rank) f.fast.0 in
      fast_path (record {
        rank = f.rank;
        known = f.known;
        fast = subst (IsFast (ring_rule script.topology)) (sym stays) f.fast;
        top = ap (λ (table : List (Option ℕ)). greatest (present table)) stays ∙ f.top;
      })
  decided_later t (slow_path b x) = slow_path b (record {
    rank = x.rank;
    sent = sent_later x.rank _ x.sent;
    votes = x.votes;
    enough = x.enough;
    places = x.places;
    voters = λ j voted. sent_later j _ (x.voters j voted);
  })
