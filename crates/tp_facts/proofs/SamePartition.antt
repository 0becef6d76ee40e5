-- Proposals, puts, votes, recoveries and the answers to them go between the processes of one partition.
-- Used to find the sender of what a process took, by its rank in the partition.
use Rattle.std.proofs.Common.{◌≡◌, ℕ, inl, inr, true, List, [], ◌∷◌, ◌++◌, ap, Option, Some, None, refl, sym, ◌∙◌, subst}
use Rattle.std.proofs.Common.{◌≡◌, ℕ, inl, inr, true, List, [], ◌∷◌, refl, sym, ap, ◌∙◌, subst}
use Rattle.std.proofs.lemmas.Bool.{cond_both}
use Rattle.tp_base.proofs.Each.{each_append, each_in, each_map, each_of}
use Rattle.tp_base.specs.Lists.{Each, IsIn}
use Rattle.tp_base.specs.Lists.{IsIn}
use Rattle.tp_base.specs.declared.names.ActorName.TheVariants.{Process}
use Rattle.tp_base.specs.declared.names.ActorName.{ActorName}
use Rattle.tp_base.specs.declared.names.CommandId.{CommandId}
use Rattle.tp_base.specs.declared.names.Site.{Site}
use Rattle.tp_ops.specs.declared.command.Command.{Command}
use Rattle.tp_rules.proofs.lists.Selections.{each_image}
use Rattle.tp_rules.proofs.sent.SendsOfProcess.{bumps_send, commit_messages_send, each_to, stamp}
use Rattle.tp_rules.specs.Acts.{Act, Took, Did}
use Rattle.tp_rules.specs.Acts.{Took}
use Rattle.tp_rules.specs.Addresses.{partition_of, rank_of, site}
use Rattle.tp_rules.specs.Addresses.{message, partition_of, processes_of, site, to_each}
use Rattle.tp_rules.specs.Journal.{acts, IsSent}
use Rattle.tp_rules.specs.Journal.{acts, IsSent}
use Rattle.tp_rules.specs.Process.{Step, ProcessState, announced, asked, bumps, commit_messages, proposals, put_to_vote, state_after, commit_reply, untold}
use Rattle.tp_rules.specs.Runs.{IsFreeHistory}
use Rattle.tp_rules.specs.Sheet.{QuorumRule, Sheet, ring_rule}
use Rattle.tp_rules.specs.declared.event.Entry.{Entry}
use Rattle.tp_script.specs.declared.script.Script.{Script}
use Rattle.tp_topology.specs.Counting.{up_to}
use Rattle.tp_wire.specs.declared.message.Body.{Body}
use Rattle.tp_wire.specs.declared.message.Message.{Message}
use Rattle.tp_facts.proofs.ActSteps.{step_of_act}
use Rattle.tp_facts.proofs.Deliveries.{sent_before, sent_behind}
use Rattle.tp_facts.proofs.Facts.{sent_by}
use Rattle.tp_facts.proofs.Senders.{IsOfProcess, sender_of, sent_by_process}
use Rattle.tp_wire.specs.declared.message.Body.TheVariants.{MSubmit, MPropose, MPayload, MProposeAck, MConsensus, MConsensusAck, MRec, MRecAck, MPromises, MStable, MResult}
use Rattle.tp_facts.proofs.StepCases.{SheetStep, ProcessStep, IsFinal, untold as tells_none, final, does_nothing, bumps_clock, announces, passes_commit_on, changes_sheet, attaches_proposal, submits, submits_and_acknowledges, proposes, decides_fast, puts_slow, accepts, decides_by_votes, learns, proposes_and_answers_recovery, answers_recovery, puts_recovered, starts_recovery}
use Rattle.tp_topology.specs.Shape.{is_site_of}

-- kinds of messages that go between the processes of a partition
abbrev pub IsPeer : Body → Type 0
IsPeer (MPropose c t) = Unit {0}
IsPeer (MProposeAck id t) = Unit {0}
IsPeer (MConsensus c t b) = Unit {0}
IsPeer (MConsensusAck id b) = Unit {0}
IsPeer (MRec c b) = Unit {0}
IsPeer (MRecAck id t made a b) = Unit {0}
IsPeer _ = ⊥

-- a message of these kinds stays in its sender's partition
abbrev IsNear : Message → Type 0
IsNear m = IsPeer m.body → partition_of m.from ≡ partition_of m.to

-- what an act took was to the process, and came from its partition
abbrev TakesNear : Site → Act → Type 0
TakesNear me (Took m) = (m.to ≡ Process me) × IsNear m
TakesNear me (Did inner) = Unit {0}

module _ (s : QuorumRule) (me : Site) where
  -- the answer to what was taken goes back to the partition
  back_near : (m : Message) {body : Body} → TakesNear me (Took m) → m.body ≡ body → IsPeer body
      → partition_of (Process me) ≡ partition_of m.from
  back_near m takes is peer = sym (takes.1 (subst IsPeer (sym is) peer) ∙ ap partition_of takes.0)

  proposals_near : (c : Command) (t : ℕ) → Each IsNear (proposals s me c t)
  unfolding proposals
  proposals_near c t = each_map IsNear _ _ (λ rank. cond_both (s.in_quorum c rank) (MPropose c (stamp t)) (MPayload c)
      (λ (body : Body). IsNear (message (Process me) (Process (site me.partition.0 rank)) body)) (λ y peer. refl)
      (λ n peer. refl))

  to_all : (body : Body) → Each IsNear (to_each (Process me) (processes_of s.shape me.partition.0) body)
  to_all body = each_image IsNear (λ to. message (Process me) to body) (processes_of s.shape me.partition.0)
      (each_map (λ (to : ActorName). IsNear (message (Process me) to body)) (λ rank. Process (site me.partition.0 rank))
      (up_to s.shape.replicas) (λ rank peer. refl))

  put_near : (b t : ℕ) (o : Option Command) → Each IsNear (put_to_vote s.shape me b t o)
  put_near b t None = tt
  put_near b t (Some c) = to_all (MConsensus c (stamp t) b)

  asked_near : (b : ℕ) (o : Option Command) → Each IsNear (asked s.shape me b o)
  asked_near b None = tt
  asked_near b (Some c) = to_all (MRec c b)

  -- other kinds

  bumps_near : (c : Command) (t : ℕ) → Each IsNear (bumps s.shape me c t)
  bumps_near c t = bumps_send IsNear me s.shape c t (λ to peer. absurd peer)

  final_near : {sheet : Sheet} {out : List Message} → IsFinal s.shape me sheet out → Each IsNear out
  final_near tells_none = tt
  final_near (final c t is last) = ((λ peer. absurd peer), tt)

  commit_messages_near : {sheet : Sheet} {out : List Message} (o : Option Command) (t : ℕ) → IsFinal s.shape me sheet out
      → Each IsNear (commit_messages s.shape me o t ++ out)
  commit_messages_near o t last =
      each_append IsNear _ _ (commit_messages_send IsNear me s.shape o t (λ c to e peer. absurd peer)) (final_near last)

  commit_reply_near : (from : ActorName) (o : Option Command) (t : ℕ) → Each IsNear (commit_reply me from o t)
  commit_reply_near from None t = tt
  commit_reply_near from (Some c) t = ((λ peer. absurd peer), tt)

  announced_near : (state : ProcessState) → Each IsNear (announced s.shape me state)
  unfolding announced
  announced_near state =
      each_to IsNear (Process me) _ (MPromises state.told state.clock (untold state)) (λ to peer. absurd peer)

  -- what a step sends
  sheet_step_near : {act : Act} {id : CommandId} {old new : Sheet} {out : List Message}
      → SheetStep s me act id old new out → TakesNear me act → Each IsNear out
  sheet_step_near (submits c t e home fresh) h = each_append IsNear _ _ (proposals_near c t) (bumps_near _ t)
  sheet_step_near (submits_and_acknowledges c t e home fresh can) h =
      each_append IsNear _ _ (proposals_near c t) (bumps_near _ t)
  sheet_step_near (proposes {m} c floor t e le fresh) h = (back_near m h e, bumps_near _ t)
  sheet_step_near (decides_fast id t e can full fast last) h = commit_messages_near _ _ last
  sheet_step_near (puts_slow id t e can full slow) h = put_near _ _ _
  sheet_step_near (accepts {m} c t b e none le) h = (back_near m h e, tt)
  sheet_step_near (decides_by_votes base id put e none enough last) h = commit_messages_near _ _ last
  sheet_step_near (learns c q t e none last) h = final_near last
  sheet_step_near (proposes_and_answers_recovery {m} c b t e none low nothing zero) h =
      (back_near m h e, bumps_near _ t)
  sheet_step_near (answers_recovery {m} c b e none low first) h = (back_near m h e, tt)
  sheet_step_near (puts_recovered id t made a b c e can is enough) h = to_all _
  sheet_step_near (starts_recovery id is none) h = asked_near _ _
  sheet_step_near _ h = tt

  step_near : {act : Act} {state : ProcessState} {moved : Step} → ProcessStep s me act state moved → TakesNear me act
      → Each IsNear moved.1
  step_near does_nothing h = tt
  step_near (bumps_clock clock le) h = tt
  step_near {state = state} announces h = announced_near state
  step_near {state = state} (passes_commit_on {m} c b t is e known) h = commit_reply_near m.from (state.sheets c.id).command t
  step_near (changes_sheet clock le step same) h = sheet_step_near step h
  step_near (attaches_proposal t made lt step none is) h = sheet_step_near step h

  sent_near : (list : List Act) → Each (TakesNear me) list → Each IsNear (sent_by s me list)
  sent_near [] h = tt
  sent_near (act ∷ before) h =
      each_append IsNear _ _ (step_near (step_of_act s me act (state_after s me before)) h.0) (sent_near before h.1)

peer_of : (body : Body) → IsPeer body → IsOfProcess body
peer_of (MSubmit c) peer = absurd peer
peer_of (MStable id) peer = absurd peer
peer_of (MResult id q answers) peer = absurd peer
peer_of _ peer = tt

-- each message of these kinds stays in its sender's partition
near : (script : Script) (older : List Entry) → IsFreeHistory script older → (m : Message) → IsSent older m → IsNear m
near script [] history m there = absurd there
near script (e ∷ older) history m (inr there) = near script older history.0 m there
near script (e ∷ older) history m (inl here) = λ peer.
    let s = sender_of script (e ∷ older) history m (inl here) (peer_of m.body peer) in
    by_process s.site s.from (λ n there. near script older history.0 n there) peer
  where
    by_process : (k : Site) → m.from ≡ Process k → ((n : Message) → IsSent older n → IsNear n) → IsNear m
    by_process k from rest =
        let mine = sent_by_process script (e ∷ older) history k m (inl here) from in
        let takes = each_of (TakesNear k) (acts (e ∷ older) (Process k)) (λ act there. took act there) in
        each_in IsNear _ m (sent_near (ring_rule script.topology) k (acts (e ∷ older) (Process k)) takes) mine
      where
        took : (act : Act) → IsIn act (acts (e ∷ older) (Process k)) → TakesNear k act
        took (Took n) there = let t = sent_before script (e ∷ older) history (Process k) n there in (t.1, rest n t.0)
        took (Did inner) there = tt

-- what a process takes of these kinds comes from a process of its partition
pub from_own_partition : (script : Script) (older : List Entry) → IsFreeHistory script older → (p : ℕ)
    → (k : Site) (m : Message) → k.partition.0 ≡ p → IsIn (Took m) (acts older (Process k)) → IsPeer m.body
    → (m.from ≡ Process (site p (rank_of m.from))) × (is_site_of script.topology (site p (rank_of m.from)) ≡ true)
from_own_partition script older history p k m here there peer =
    let took = sent_before script older history (Process k) m there in
    let sent : IsSent older m = sent_behind older m took.0 in
    let s = sender_of script older history m sent (peer_of m.body peer) in
    let same : partition_of m.from ≡ partition_of m.to = near script older history m sent peer in
    let of_p : s.site.partition.0 ≡ p = sym (ap partition_of s.from) ∙ same ∙ ap partition_of took.1 ∙ here in
    let rank : rank_of m.from ≡ s.site.rank.0 = ap rank_of s.from in
    let is : s.site ≡ site p (rank_of m.from) =
    ap (λ (q : ℕ). site q s.site.rank.0) of_p ∙ ap (λ (j : ℕ). site p j) (sym rank) in
    (s.from ∙ ap (λ (x : Site). Process x) is, subst (λ (x : Site). is_site_of script.topology x ≡ true) is s.known)
