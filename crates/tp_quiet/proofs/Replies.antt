-- Each acknowledgement, vote and answer that a process sends goes to who asked for it, and the question was taken.
-- Used for each message of a run: when it is taken, it is to what was asked.
use Rattle.std.proofs.Common.{◌≡◌, ℕ, inl, inr, List, [], ◌∷◌, Option, Some, None, refl}
use Rattle.tp_base.proofs.Each.{each_append, each_weaker}
use Rattle.tp_base.specs.Lists.{Each, IsIn}
use Rattle.tp_base.specs.declared.names.ActorName.{ActorName}
use Rattle.tp_base.specs.declared.names.ActorName.TheVariants.{Process}
use Rattle.tp_base.specs.declared.names.CommandId.{CommandId}
use Rattle.tp_base.specs.declared.names.Site.{Site}
use Rattle.tp_base.specs.declared.names.Stamp.{Stamp}
use Rattle.tp_facts.proofs.ActSteps.{step_of_act}
use Rattle.tp_facts.proofs.Facts.{sent_by}
use Rattle.tp_facts.proofs.StepCases.{IsFinal, untold, final, chosen_stamp, with_recovery_answer, SheetStep, submits, submits_and_acknowledges, proposes, decides_fast, puts_slow, accepts, decides_by_votes, learns, proposes_and_answers_recovery, answers_recovery, puts_recovered, starts_recovery, ProcessStep, does_nothing, bumps_clock, announces, passes_commit_on, changes_sheet, attaches_proposal}
use Rattle.tp_ops.specs.declared.command.Command.{Command}
use Rattle.tp_rules.proofs.sent.SendsOfProcess.{bumps_send, commit_messages_send, each_to, proposals_send, put_to_vote_sends, stamp}
use Rattle.tp_rules.specs.Acts.{Act, Took}
use Rattle.tp_rules.specs.Addresses.{executors_of, processes_of}
use Rattle.tp_rules.specs.Process.{ProcessState, Step, announced, asked, bumps, commit_messages, commit_reply, state_after, untold as untold_pairs}
use Rattle.tp_rules.specs.Sheet.{QuorumRule, Sheet}
use Rattle.tp_wire.specs.declared.message.Body.{Body}
use Rattle.tp_wire.specs.declared.message.Body.TheVariants.{MConsensus, MConsensusAck, MPromises, MPropose, MProposeAck, MRec, MRecAck}
use Rattle.tp_wire.specs.declared.message.Message.{Message}

-- a message was taken from an actor
pub record CameFrom (acts : List Act) (from : ActorName) (body : Body) : Type 0 where
  pub message : Message
  pub taken : IsIn (Took message) acts
  pub from_it : message.from ≡ from
  pub is : message.body ≡ body

-- a reply's question came from its addressee
abbrev pub IsReply : List Act → ActorName → Body → Type 0
IsReply acts to (MProposeAck id t) = (c : Command) × (floor : Stamp) × (c.id ≡ id) × CameFrom acts to (MPropose c floor)
IsReply acts to (MConsensusAck id b) = (c : Command) × (t : Stamp) × (c.id ≡ id) × CameFrom acts to (MConsensus c t b)
IsReply acts to (MRecAck id t made a b) = (c : Command) × (c.id ≡ id) × CameFrom acts to (MRec c b)
IsReply acts to _ = Unit {0}

abbrev pub IsRepliedTo : List Act → Message → Type 0
IsRepliedTo acts m = IsReply acts m.to m.body

came_more : (act : Act) (acts : List Act) (from : ActorName) (body : Body) → CameFrom acts from body
    → CameFrom (act ∷ acts) from body
came_more act acts from body h = record {
  message = h.message;
  taken = inr h.taken;
  from_it = h.from_it;
  is = h.is;
}

reply_more : (act : Act) (acts : List Act) (to : ActorName) (body : Body) → IsReply acts to body
    → IsReply (act ∷ acts) to body
reply_more act acts to (MProposeAck id t) h = (h.0, h.1, h.2, came_more act acts to _ h.3)
reply_more act acts to (MConsensusAck id b) h = (h.0, h.1, h.2, came_more act acts to _ h.3)
reply_more act acts to (MRecAck id t made a b) h = (h.0, h.1, came_more act acts to _ h.2)
reply_more act acts to _ h = tt

came_now : (m : Message) (acts : List Act) (body : Body) → m.body ≡ body → CameFrom (Took m ∷ acts) m.from body
came_now m acts body e = record { message = m; taken = inl refl; from_it = refl; is = e }

module _ (s : QuorumRule) (me : Site) where
  module _ (acts : List Act) where
    abbrev Replied : Message → Type 0
    Replied m = IsRepliedTo acts m

    final_replied : {shape : _} {sheet : Sheet} {out : List Message} → IsFinal shape me sheet out → Each Replied out
    final_replied untold = tt
    final_replied (final c t e f) = (tt, tt)

    asked_replied : (b : ℕ) (o : Option Command) → Each Replied (asked s.shape me b o)
    asked_replied b None = tt
    asked_replied b (Some c) = each_to Replied (Process me) (processes_of s.shape me.partition.0) (MRec c b) (λ to. tt)

    passed_replied : (to : ActorName) (o : Option Command) (t : ℕ) → Each Replied (commit_reply me to o t)
    passed_replied to None t = tt
    passed_replied to (Some c) t = (tt, tt)

    bumps_replied : (c : Command) (t : ℕ) → Each Replied (bumps s.shape me c t)
    bumps_replied c t = bumps_send Replied me s.shape c t (λ to. tt)

    commits_replied : (o : Option Command) (t : ℕ) → Each Replied (commit_messages s.shape me o t)
    commits_replied o t = commit_messages_send Replied me s.shape o t (λ c to e. tt)

    announced_replied : (state : ProcessState) → Each Replied (announced s.shape me state)
    unfolding announced
    announced_replied state = each_to Replied (Process me) (executors_of s.shape me.partition.0)
        (MPromises state.told state.clock (untold_pairs state)) (λ to. tt)

  sheet_step_replies : {act : Act} {id : CommandId} {old new : Sheet} {out : List Message} (acts : List Act)
      → SheetStep s me act id old new out → Each (IsRepliedTo (act ∷ acts)) out
  sheet_step_replies {act = act} {old = old} acts (submits c t e home fresh) =
      each_append (IsRepliedTo (act ∷ acts)) _ _
      (proposals_send (IsRepliedTo (act ∷ acts)) me s c t (λ to. tt) (λ to. tt)) (bumps_replied (act ∷ acts) _ t)
  sheet_step_replies {act = act} {old = old} acts (submits_and_acknowledges c t e home fresh can) =
      each_append (IsRepliedTo (act ∷ acts)) _ _
      (proposals_send (IsRepliedTo (act ∷ acts)) me s c t (λ to. tt) (λ to. tt)) (bumps_replied (act ∷ acts) _ t)
  sheet_step_replies {act = act} acts (proposes {m} c floor t e le fresh) =
      ((c, stamp floor, refl, came_now m acts _ e), bumps_replied (act ∷ acts) _ t)
  sheet_step_replies {act = act} acts (decides_fast id t e can full fast last) =
      each_append (IsRepliedTo (act ∷ acts)) _ _ (commits_replied (act ∷ acts) _ _) (final_replied (act ∷ acts) last)
  sheet_step_replies {act = act} acts (puts_slow id t e can full slow) =
      put_to_vote_sends (IsRepliedTo (act ∷ acts)) me s.shape _ _ _ (λ c to is. tt)
  sheet_step_replies acts (accepts {m} c t b e none le) = ((c, stamp t, refl, came_now m acts _ e), tt)
  sheet_step_replies {act = act} acts (decides_by_votes base id put e none enough last) =
      each_append (IsRepliedTo (act ∷ acts)) _ _ (commits_replied (act ∷ acts) _ _) (final_replied (act ∷ acts) last)
  sheet_step_replies {act = act} acts (learns c q t e none last) = final_replied (act ∷ acts) last
  sheet_step_replies {act = act} acts (proposes_and_answers_recovery {m} c b t e none low nothing unjoined) =
      ((c, refl, came_now m acts _ e), bumps_replied (act ∷ acts) _ t)
  sheet_step_replies acts (answers_recovery {m} c b e none low first) = ((c, refl, came_now m acts _ e), tt)
  sheet_step_replies {act = act} {old = old} acts (puts_recovered {m} id t made a b c e can is enough) =
      let chosen : ℕ = chosen_stamp s c (with_recovery_answer m t made a old) in
      each_to (IsRepliedTo (act ∷ acts)) (Process me) (processes_of s.shape me.partition.0)
      (MConsensus c (stamp chosen) b) (λ to. tt)
  sheet_step_replies {act = act} acts (starts_recovery id is none) = asked_replied (act ∷ acts) _ _
  sheet_step_replies acts _ = tt

  step_replies : {act : Act} {state : ProcessState} {moved : Step} (acts : List Act) → ProcessStep s me act state moved
      → Each (IsRepliedTo (act ∷ acts)) moved.1
  step_replies acts does_nothing = tt
  step_replies acts (bumps_clock clock le) = tt
  step_replies {act} {state} acts announces = announced_replied (act ∷ acts) state
  step_replies {act} {state} acts (passes_commit_on {m} c b t is e known) =
      passed_replied (act ∷ acts) m.from (state.sheets c.id).command t
  step_replies acts (changes_sheet clock le step same) = sheet_step_replies acts step
  step_replies acts (attaches_proposal t made lt step none is) = sheet_step_replies acts step

  pub all_replied : (acts : List Act) → Each (IsRepliedTo acts) (sent_by s me acts)
  all_replied [] = tt
  all_replied (act ∷ before) =
      each_append (IsRepliedTo (act ∷ before)) _ _
      (step_replies before (step_of_act s me act (state_after s me before)))
      (each_weaker (IsRepliedTo before) (IsRepliedTo (act ∷ before)) (λ m h. reply_more act before m.to m.body h) _
      (all_replied before))
