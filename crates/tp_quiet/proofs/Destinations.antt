-- Where the commits and payloads of a process go: a payload to its own partition, a commit to the partitions that its
-- command accesses, or to a process of the own partition that asked.
-- Used for what processes take: its command accesses their partition.
use Rattle.std.proofs.Common.{◌≡◌, ℕ, ◌⊎◌, inl, inr, List, [], ◌∷◌, map, Option, Some, None, refl, sym, subst}
use Rattle.std.specs.Prelude.{filter, not}
use Rattle.std.specs.List.{flat_map}
use Rattle.std.proofs.lemmas.Bool.{cond_both}
use Rattle.tp_base.proofs.Each.{each_append, each_map, each_of, each_weaker}
use Rattle.tp_base.proofs.Members.{in_flat, in_map}
use Rattle.tp_base.specs.Lists.{Each, IsIn}
use Rattle.tp_base.specs.Names.{same_name}
use Rattle.tp_base.specs.declared.names.ActorName.{ActorName}
use Rattle.tp_base.specs.declared.names.ActorName.TheVariants.{Process}
use Rattle.tp_base.specs.declared.names.Site.{Site}
use Rattle.tp_facts.proofs.ActSteps.{step_of_act}
use Rattle.tp_facts.proofs.Facts.{sent_by}
use Rattle.tp_facts.proofs.SamePartition.{IsPeer}
use Rattle.tp_facts.proofs.StepCases.{IsFinal, untold, final, chosen_stamp, with_recovery_answer, SheetStep, submits, submits_and_acknowledges, proposes, decides_fast, puts_slow, accepts, decides_by_votes, learns, proposes_and_answers_recovery, answers_recovery, puts_recovered, starts_recovery, ProcessStep, does_nothing, bumps_clock, announces, passes_commit_on, changes_sheet, attaches_proposal}
use Rattle.tp_ops.specs.declared.command.Command.{Command}
use Rattle.tp_rules.proofs.sent.SendsOfProcess.{bumps_send, each_to, put_to_vote_sends, stamp}
use Rattle.tp_rules.proofs.lists.Tallies.{filter_in}
use Rattle.tp_rules.specs.Acts.{Act, Took}
use Rattle.tp_rules.specs.Addresses.{accessed, executors_of, message, partition_of, processes_of, site}
use Rattle.tp_rules.specs.Process.{ProcessState, Step, announced, asked, bumps, commit_messages, commit_reply, proposals, react, state_after, untold as untold_pairs}
use Rattle.tp_rules.specs.Sheet.{QuorumRule, Sheet}
use Rattle.tp_topology.specs.Counting.{up_to}
use Rattle.tp_topology.specs.Shape.{Shape}
use Rattle.tp_wire.specs.declared.message.Body.{Body}
use Rattle.tp_wire.specs.declared.message.Body.TheVariants.{MCommit, MConsensus, MPayload, MPromises, MPropose, MRec}
use Rattle.tp_wire.specs.declared.message.Message.{Message}

-- a process of a partition that a command accesses
pub record IsToAccessed (shape : Shape) (c : Command) (to : ActorName) : Type 0 where
  pub partition : ℕ
  pub rank : ℕ
  pub among : IsIn partition (accessed shape c)
  pub is : to ≡ Process (site partition rank)

-- who sent a message of the partition that was taken
pub record HasAsked (acts : List Act) (to : ActorName) : Type 0 where
  pub question : Message
  pub taken : IsIn (Took question) acts
  pub peer : IsPeer question.body
  pub from : question.from ≡ to

module _ (s : QuorumRule) (me : Site) where
  abbrev pub GoesTo : List Act → ActorName → Body → Type 0
  GoesTo acts to (MPayload c) = partition_of to ≡ me.partition.0
  GoesTo acts to (MCommit c q t) = (q.0 ≡ me.partition.0) × (IsToAccessed s.shape c to ⊎ HasAsked acts to)
  GoesTo acts to _ = Unit {0}

  abbrev pub IsDirected : List Act → Message → Type 0
  IsDirected acts m = GoesTo acts m.to m.body

  directed_more : (act : Act) (acts : List Act) (to : ActorName) (body : Body) → GoesTo acts to body
      → GoesTo (act ∷ acts) to body
  directed_more act acts to (MPayload c) h = h
  directed_more act acts to (MCommit c q t) h = (
    h.0,
    elim h.1 [
      | inl accesses ↦ inl accesses
      | inr asks ↦ inr (record {
        question = asks.question;
        taken = inr asks.taken;
        peer = asks.peer;
        from = asks.from;
      })
    ],
  )
  directed_more act acts to _ h = tt

  module _ (acts : List Act) where
    abbrev Directed : Message → Type 0
    Directed m = IsDirected acts m

    final_directed : {shape : Shape} {sheet : Sheet} {out : List Message} → IsFinal shape me sheet out
        → Each Directed out
    final_directed untold = tt
    final_directed (final c t e f) = (tt, tt)

    bumps_directed : (c : Command) (t : ℕ) → Each Directed (bumps s.shape me c t)
    bumps_directed c t = bumps_send Directed me s.shape c t (λ to. tt)

    asked_directed : (b : ℕ) (o : Option Command) → Each Directed (asked s.shape me b o)
    asked_directed b None = tt
    asked_directed b (Some c) = each_to Directed (Process me) (processes_of s.shape me.partition.0) (MRec c b)
        (λ to. tt)

    proposals_directed : (c : Command) (t : ℕ) → Each Directed (proposals s me c t)
    unfolding proposals
    proposals_directed c t = each_map Directed _ _
        (λ rank. cond_both (s.in_quorum c rank) (MPropose c (stamp t)) (MPayload c)
        (λ (body : Body). GoesTo acts (Process (site me.partition.0 rank)) body) (λ y. tt) (λ n. refl))

    announced_directed : (state : ProcessState) → Each Directed (announced s.shape me state)
    unfolding announced
    announced_directed state = each_to Directed (Process me) (executors_of s.shape me.partition.0)
        (MPromises state.told state.clock (untold_pairs state)) (λ to. tt)

    commits_directed : (o : Option Command) (t : ℕ) → Each Directed (commit_messages s.shape me o t)
    unfolding commit_messages
    commits_directed None t = tt
    commits_directed (Some c) t =
        let all : List ActorName = flat_map (processes_of s.shape) (accessed s.shape c) in
        let names : List ActorName = filter (λ to. not (same_name to (Process me))) all in
        each_of Directed (map (λ to. message (Process me) to (MCommit c me.partition (stamp t))) names)
        (λ m there.
        let of = in_map (λ to. message (Process me) to (MCommit c me.partition (stamp t))) names m there in
        subst Directed (sym of.2) (
          refl,
          inl (goes_to of.0 all refl
              (filter_in (λ (to : ActorName). not (same_name to (Process me))) all of.0 of.1).0),
        ))
      where
        goes_to : (to : ActorName) (all : List ActorName) → all ≡ flat_map (processes_of s.shape) (accessed s.shape c)
            → IsIn to all → IsToAccessed s.shape c to
        goes_to to all is there =
            let by = in_flat (processes_of s.shape) (accessed s.shape c) to (subst (IsIn to) is there) in
            let rank = in_map (λ rank. Process (site by.0 rank)) (up_to s.shape.replicas) to by.2 in
            record { partition = by.0; rank = rank.0; among = by.1; is = rank.2 }

    sheet_step_directed : {act : Act} {id : _} {old new : Sheet} {out : List Message}
        → SheetStep s me act id old new out → Each Directed out
    sheet_step_directed (submits c t e home fresh) =
        each_append Directed _ _ (proposals_directed c t) (bumps_directed _ t)
    sheet_step_directed (submits_and_acknowledges c t e home fresh can) =
        each_append Directed _ _ (proposals_directed c t) (bumps_directed _ t)
    sheet_step_directed (proposes c floor t e le fresh) = (tt, bumps_directed _ t)
    sheet_step_directed (decides_fast id t e can full fast last) =
        each_append Directed _ _ (commits_directed _ _) (final_directed last)
    sheet_step_directed (puts_slow id t e can full slow) =
        put_to_vote_sends Directed me s.shape _ _ _ (λ c to is. tt)
    sheet_step_directed (accepts c t b e none le) = (tt, tt)
    sheet_step_directed (decides_by_votes base id put e none enough last) =
        each_append Directed _ _ (commits_directed _ _) (final_directed last)
    sheet_step_directed (learns c q t e none last) = final_directed last
    sheet_step_directed (proposes_and_answers_recovery c b t e none low nothing unjoined) = (tt, bumps_directed _ t)
    sheet_step_directed (answers_recovery c b e none low first) = (tt, tt)
    sheet_step_directed {old = old} (puts_recovered {m} id t made a b c e can is enough) =
        let chosen : ℕ = chosen_stamp s c (with_recovery_answer m t made a old) in
        each_to Directed (Process me) (processes_of s.shape me.partition.0) (MConsensus c (stamp chosen) b) (λ to. tt)
    sheet_step_directed (starts_recovery id is none) = asked_directed _ _
    sheet_step_directed _ = tt

  reply_directed : (act : Act) (acts : List Act) (m : Message) (c : Command) (b : ℕ) (o : Option Command) (t : ℕ)
      → act ≡ Took m → m.body ≡ MRec c b → Each (IsDirected (act ∷ acts)) (commit_reply me m.from o t)
  reply_directed act acts m c b None t by e = tt
  reply_directed act acts m c b (Some d) t by e = (
    (
      refl,
      inr (record { question = m; taken = inl (sym by); peer = subst IsPeer (sym e) tt; from = refl }),
    ),
    tt,
  )

  step_directed : {act : Act} {state : ProcessState} {moved : Step} (acts : List Act) → ProcessStep s me act state moved
      → Each (IsDirected (act ∷ acts)) moved.1
  step_directed acts does_nothing = tt
  step_directed acts (bumps_clock clock le) = tt
  step_directed {act} {state} acts announces = announced_directed (act ∷ acts) state
  step_directed {act} {state} acts (passes_commit_on {m} c b t by e known) =
      reply_directed act acts m c b (state.sheets c.id).command t by e
  step_directed {act} acts (changes_sheet clock le step same) = sheet_step_directed (act ∷ acts) step
  step_directed {act} acts (attaches_proposal t made lt step none is) = sheet_step_directed (act ∷ acts) step

  pub all_directed : (acts : List Act) → Each (IsDirected acts) (sent_by s me acts)
  all_directed [] = tt
  all_directed (act ∷ before) =
      let state = state_after s me before in
      each_append (IsDirected (act ∷ before)) (react s me act state).1 (sent_by s me before)
      (step_directed before (step_of_act s me act state))
      (each_weaker (IsDirected before) (IsDirected (act ∷ before))
      (λ m h. directed_more act before m.to m.body h) (sent_by s me before) (all_directed before))
