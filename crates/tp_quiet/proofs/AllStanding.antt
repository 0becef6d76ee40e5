-- After any acts a process has nothing half done.
-- Used for each process of a run in which nothing is pending.
use Rattle.std.proofs.Common.{◌≡◌, ℕ, ◌<◌, inl, inr, List, [], ◌∷◌, ◌++◌, length, None, ap, arith}
use Rattle.std.specs.Prelude.{replicate}
use Rattle.tp_base.specs.Lists.{Each}
use Rattle.tp_base.specs.declared.names.CommandId.{CommandId}
use Rattle.tp_base.specs.declared.names.Site.{Site}
use Rattle.tp_facts.proofs.ActSteps.{step_of_act}
use Rattle.tp_facts.proofs.Facts.{IsGenuine, IsHere, ProcessFacts, sent_by}
use Rattle.tp_facts.proofs.Invariant.{facts_hold}
use Rattle.tp_facts.proofs.Tables.{present_none}
use Rattle.tp_ops.specs.declared.command.Command.{Command}
use Rattle.tp_quorum.specs.Choice.{present}
use Rattle.tp_rules.proofs.lists.Selections.{IfAny}
use Rattle.tp_rules.specs.Acts.{Act}
use Rattle.tp_rules.specs.Process.{react, state_after}
use Rattle.tp_rules.specs.Sheet.{QuorumRule, Sheet, blank}
use Rattle.tp_topology.specs.Shape.{IsShape}
use Rattle.tp_wire.specs.declared.message.Message.{Message}
use Rattle.tp_quiet.proofs.Counts.{IsUnanswered, IsUndecided, act_unanswered, act_undecided}
use Rattle.tp_quiet.proofs.EachSheet.{each_sheet}
use Rattle.tp_quiet.proofs.Onward.{act_onward, step_onward}
use Rattle.tp_quiet.proofs.Proposals.{IsReasoned, reasoned_kept, reasoned_more}
use Rattle.tp_quiet.proofs.Served.{Onward}
use Rattle.tp_quiet.proofs.Serving.{IsHeeded}
use Rattle.tp_quiet.proofs.Standing.{IsJoinedFor, IsSpread, IsProposedKept, IsPutKept, IsTryAsked, asked_kept, asked_more, heeded_kept, joined_kept, joined_more, proposed_kept, put_kept, spread_kept, spread_more}

module _ (s : QuorumRule) (me : Site) (of : CommandId → Command) where
  -- what stands of a command
  pub record IsStanding (acts : List Act) (sent : List Message) (id : CommandId) (sheet : Sheet) : Type 0 where
    -- what it puts was sent to all ranks
    pub spread : IfAny (IsSpread s me of sent id) sheet.put
    -- the ballot that it tries was asked of all ranks
    pub asked : IsTryAsked s me of sent id sheet.tried sheet.command
    -- a command that it proposed is kept
    pub kept : IsProposedKept s me of sheet
    -- and so is the command of what it puts
    pub put_kept : IsPutKept s me of sheet
    -- a full fast quorum was heeded
    pub heeded : IsHeeded s me.partition.0 sheet
    -- the ballot that it joined was put or asked for
    pub joined : 0 < sheet.ballot → IsJoinedFor s me of acts sent id sheet.ballot
    -- its proposal was told on
    pub reasoned : IsReasoned s me of acts sent id sheet.ballot sheet.proposal
    -- it counts too few votes and answers
    pub undecided : IsUndecided s me.partition.0 sheet
    pub unanswered : IsUnanswered s me.partition.0 sheet

  -- the same but for the counts
  record IsTold (acts : List Act) (sent : List Message) (id : CommandId) (sheet : Sheet) : Type 0 where
    spread : IfAny (IsSpread s me of sent id) sheet.put
    asked : IsTryAsked s me of sent id sheet.tried sheet.command
    kept : IsProposedKept s me of sheet
    put_kept : IsPutKept s me of sheet
    heeded : IsHeeded s me.partition.0 sheet
    joined : 0 < sheet.ballot → IsJoinedFor s me of acts sent id sheet.ballot
    reasoned : IsReasoned s me of acts sent id sheet.ballot sheet.proposal

  told_more : (act : Act) (acts : List Act) (sent out : List Message) (id : CommandId) (sheet : Sheet)
      → IsStanding acts sent id sheet → IsTold (act ∷ acts) (out ++ sent) id sheet
  told_more act acts sent out id sheet h = record {
    spread = spread_more s me of sent out id sheet.put h.spread;
    asked = asked_more s me of sent out id sheet.tried sheet.command sheet.command (λ some. some) h.asked;
    kept = h.kept;
    put_kept = h.put_kept;
    heeded = h.heeded;
    joined = λ some. joined_more s me of act acts sent out id sheet.ballot (h.joined some);
    reasoned = reasoned_more s me of act acts sent out id sheet.ballot sheet.ballot sheet.proposal
        (omega arith) h.reasoned;
  }

  module _ (here : IsHere s me) (shape : IsShape s.shape) where
    told_kept : (act : Act) (before : List Act) → IsGenuine of act
        → ProcessFacts s me of before (sent_by s me before) (state_after s me before)
        → ((id : CommandId) → IsStanding before (sent_by s me before) id ((state_after s me before).sheets id))
        → (id : CommandId)
        → IsTold (act ∷ before) (sent_by s me (act ∷ before)) id ((state_after s me (act ∷ before)).sheets id)
    told_kept act before genuine facts h id =
        let state = state_after s me before in
        let sent = sent_by s me before in
        each_sheet (λ out i sheet. IsTold (act ∷ before) (out ++ sent) i sheet) s me act state (react s me act state)
        (step_of_act s me act state)
        (λ i new out change.
        let f = facts.sheets i in
        let goes : Onward (state.sheets i) new = step_onward s me of here before sent change genuine f in
        record {
          spread = spread_kept s me of sent change f.command (h i).spread;
          asked = asked_kept s me of sent change f.command (h i).asked;
          kept = proposed_kept s me of change (h i).kept;
          put_kept = put_kept s me of change (h i).put_kept;
          heeded = heeded_kept s me of change goes here
              (omega (arith, here.partition.1, f.places.stamps)) f.gathered.none (h i).heeded;
          joined = joined_kept s me of before sent change genuine (h i).joined;
          reasoned = reasoned_kept s me of before sent change genuine goes (h i).reasoned;
        })
        (λ out i. told_more act before sent out i (state.sheets i) (h i)) id

    at_start : (id : CommandId) → IsStanding [] [] id (blank s.shape)
    unfolding blank
    at_start id =
        let acknowledgements : length (present {X = ℕ} (replicate s.shape.replicas None)) ≡ 0 =
        ap (λ (xs : List ℕ). length xs) (present_none s.shape.replicas) in
        record {
          spread = tt;
          asked = λ some. absurd (omega (arith, some));
          kept = λ some. absurd cc;
          put_kept = λ some. absurd cc;
          heeded = inr (inr (omega (arith, acknowledgements, here.two)));
          joined = λ some. absurd (omega (arith, some));
          reasoned = tt;
          undecided = inr (omega arith);
          unanswered = inr (inl (omega arith));
        }

    pub all_standing : (acts : List Act) → Each (IsGenuine of) acts → (id : CommandId)
        → IsStanding acts (sent_by s me acts) id ((state_after s me acts).sheets id)
    all_standing [] genuine id = at_start id
    all_standing (act ∷ before) genuine id =
        let state = state_after s me before in
        let facts = facts_hold s me of here before genuine.1 in
        let h = all_standing before genuine.1 in
        let told = told_kept act before genuine.0 facts h id in
        let goes : (i : CommandId) → Onward (state.sheets i) ((react s me act state).0.sheets i) =
        act_onward s me of here before (sent_by s me before) (step_of_act s me act state) genuine.0 facts.sheets in
        record {
          spread = told.spread;
          asked = told.asked;
          kept = told.kept;
          put_kept = told.put_kept;
          heeded = told.heeded;
          joined = told.joined;
          reasoned = told.reasoned;
          undecided = act_undecided s me of here before (sent_by s me before) act state genuine.0 facts.sheets
              (λ i. (h i).undecided) id;
          unanswered = act_unanswered s me of here before (sent_by s me before) shape act state genuine.0 facts.sheets
              (λ i some. ((h i).asked some).command) (λ i. (h i).unanswered) id;
        }
