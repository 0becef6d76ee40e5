-- In each run a process admits each message that it takes: its names are of the shape, its command accesses the
-- partition, and the clock has room.
-- Used for what processes take in a run in which nothing is pending.
use Rattle.std.proofs.Common.{◌≡◌, ℕ, Bool, inl, inr, true, List, [], ◌∷◌, map, Option, Some, None, refl, sym, ap, subst, ◌∙◌}
use Rattle.std.specs.Prelude.{◌&&◌}
use Rattle.std.proofs.lemmas.Bool.{and_from, and_parts, both_ways, cases_Bool, cond_both}
use Rattle.tp_base.proofs.Each.{each_append, each_in, each_of}
use Rattle.tp_base.proofs.Members.{in_map}
use Rattle.tp_base.proofs.SameNames.{same_name_refl}
use Rattle.tp_base.specs.Limits.{IsFrom, is_from}
use Rattle.tp_base.specs.Lists.{Each, IsIn}
use Rattle.tp_base.specs.Names.{same_name}
use Rattle.tp_base.specs.declared.names.ActorName.{ActorName}
use Rattle.tp_base.specs.declared.names.ActorName.TheVariants.{Process, Executor, Session}
use Rattle.tp_base.specs.declared.names.CommandId.{CommandId}
use Rattle.tp_base.specs.declared.names.PartitionId.{PartitionId}
use Rattle.tp_base.specs.declared.names.Site.{Site}
use Rattle.tp_base.specs.declared.names.Stamp.{Stamp}
use Rattle.tp_agreement.proofs.Commits.{home_in_range}
use Rattle.tp_base.proofs.Ranges.{range_in}
use Rattle.tp_facts.proofs.Commands.{command_in}
use Rattle.tp_facts.proofs.Deliveries.{sent_before, took_sent}
use Rattle.tp_facts.proofs.Facts.{IsGenuine, KeepsCommand, sent_by}
use Rattle.tp_facts.proofs.Invariant.{facts_hold}
use Rattle.tp_facts.proofs.SamePartition.{IsPeer, from_own_partition}
use Rattle.tp_facts.proofs.Senders.{IsOfProcess, Sender, may_send, output_sender, sender_of, sent_by_process}
use Rattle.tp_ops.specs.Parts.{is_accessed}
use Rattle.tp_ops.specs.declared.command.Command.{Command}
use Rattle.tp_rules.proofs.ActsMore.{acts_step, acts_then}
use Rattle.tp_rules.proofs.sent.CarriedCommands.{Carries, Keeps, KeepsOnly, process_sends_only}
use Rattle.tp_rules.proofs.fit.Messages.{IsBodyOf, IsCommandHere, IsFit, IsFitAct, site_is}
use Rattle.tp_rules.proofs.fit.Choices.{ring_has_fast_size}
use Rattle.tp_rules.proofs.fit.Rules.{process_sound}
use Rattle.tp_rules.proofs.ends.LaterKinds.{session_silent}
use Rattle.tp_rules.proofs.lists.Selections.{IfAny}
use Rattle.tp_rules.proofs.lists.Tallies.{filter_in}
use Rattle.tp_rules.specs.Acts.{Act, Client, Took, Did}
use Rattle.tp_rules.specs.Addresses.{accessed, is_body_at, is_command_at, is_name_of, message, partition_of, rank_of, site}
use Rattle.tp_rules.specs.Journal.{IsSent, act_of, acts, client_of, is_known}
use Rattle.tp_rules.specs.Process.{ProcessState, Step, on_body, react, state_after, with_room}
use Rattle.tp_rules.specs.Runs.{IsFreeHistory, outputs_by}
use Rattle.tp_rules.specs.Session as session
use Rattle.tp_rules.specs.Sheet.{QuorumRule, ring_rule}
use Rattle.tp_base.specs.Tables.{nth}
use Rattle.tp_rules.specs.declared.event.Entry.{Entry}
use Rattle.tp_rules.specs.declared.event.Inner.TheVariants.{Submit}
use Rattle.tp_script.specs.Accepted.{IsAccepted}
use Rattle.tp_script.specs.declared.script.Script.{Script}
use Rattle.tp_topology.specs.Counting.{up_to}
use Rattle.tp_wire.specs.Ranges.{IsBody, IsClient, IsExecutor}
use Rattle.tp_wire.specs.declared.message.Body.{Body}
use Rattle.tp_wire.specs.declared.message.Body.TheVariants.{MSubmit, MPropose, MPayload, MConsensus, MCommit, MRec, MCommitted, MResult}
use Rattle.tp_wire.specs.declared.message.Message.{Message}
use Rattle.tp_quiet.proofs.Destinations.{IsDirected, GoesTo, IsToAccessed, all_directed}
use Rattle.tp_quiet.proofs.Room.{sent_has_room}
use Rattle.tp_quiet.proofs.TakenWell.{AreAdmitted, are_genuine, fits, is_here}
use Rattle.tp_topology.specs.Shape.{is_site_of}

-- who sends is of the shape
pub from_named : (script : Script) (older : List Entry) → IsFreeHistory script older → (m : Message) → IsSent older m
    → is_name_of script.topology m.from ≡ true
from_named script [] history m there = absurd there
from_named script (e ∷ older) history m (inr there) = from_named script older history.0 m there
from_named script (e ∷ older) history m (inl here) =
    ap (is_name_of script.topology) (output_sender script older e m history.1 here).0 ∙ named e.actor history.1.known
  where
    named : (a : ActorName) → is_known script a ≡ true → is_name_of script.topology a ≡ true
    named (Process s) h = h
    named (Executor s) h = h
    named (Session s) h = refl

module _ (script : Script) (accepted : IsAccepted script) where
  abbrev of : CommandId → Command
  of = command_in script.commands

  abbrev rule : QuorumRule
  rule = ring_rule script.topology

  abbrev pub Accesses : ℕ → Command → Type 0
  Accesses p c = is_accessed script.topology.partitions c p ≡ true

  -- what a session submits goes to partitions that the command accesses

  abbrev GoesRight : ActorName → Body → Type 0
  GoesRight to (MSubmit c) = IsToAccessed script.topology c to
  GoesRight to _ = Unit {0}

  abbrev IsRight : Message → Type 0
  IsRight m = GoesRight m.to m.body

  submissions_right : (client : Client) (o : Option Command)
      → Each IsRight (session.submissions script.topology client o)
  submissions_right client None = tt
  submissions_right client (Some c) =
      let names : List ActorName = map (λ p. Process (site p client.home)) (accessed script.topology c) in
      each_of IsRight (map (λ to. message (Session client.session) to (MSubmit c)) names)
      (λ m there.
      let by = in_map (λ to. message (Session client.session) to (MSubmit c)) names m there in
      subst IsRight (sym by.2) (goes by.0
      (in_map (λ p. Process (site p client.home)) (accessed script.topology c) by.0 by.1)))
    where
      goes : (to : ActorName) → (p : ℕ) × IsIn p (accessed script.topology c) × (to ≡ Process (site p client.home))
          → IsToAccessed script.topology c to
      goes to by = record { partition = by.0; rank = client.home; among = by.1; is = by.2 }

  session_right : (client : Client) (act : Act) (state : session.SessionState)
      → Each IsRight (session.react script.topology client act state).1
  session_right client (Took m) state =
      subst (Each IsRight) (sym (session_silent script.topology client m state)) tt
  session_right client (Did (Submit n)) state = submissions_right client (nth client.commands n)
  session_right client (Did _) state = tt

  sent_right : (older : List Entry) → IsFreeHistory script older → (m : Message) → IsSent older m → IsRight m
  sent_right [] history m there = absurd there
  sent_right (e ∷ older) history m (inr there) = sent_right older history.0 m there
  sent_right (e ∷ older) history m (inl here) =
      by_actor e.actor (output_sender script older e m history.1 here).1 (act_of older e.event)
      (subst (IsIn m) history.1.outputs here)
    where
      by_actor : (a : ActorName) → may_send a m.body ≡ true → (o : Option Act) → IsIn m (outputs_by script older a o)
          → IsRight m
      by_actor a may None there = absurd there
      by_actor (Session s) may (Some act) there = each_in IsRight _ m
          (session_right (client_of script s) act
          (session.state_after script.topology (client_of script s) (acts older (Session s)))) there
      by_actor (Process s) may (Some act) there = by_body m.body may
        where
          by_body : (body : Body) → may_send (Process s) body ≡ true → GoesRight m.to body
          by_body (MSubmit c) may = absurd cc
          by_body _ may = tt
      by_actor (Executor s) may (Some act) there = by_body m.body may
        where
          by_body : (body : Body) → may_send (Executor s) body ≡ true → GoesRight m.to body
          by_body (MSubmit c) may = absurd cc
          by_body _ may = tt

  -- what a process sends is about commands that access its partition

  body_carries : (p : ℕ) (body : Body) → is_body_at script.topology p body ≡ true → Carries (Accesses p) body
  body_carries p (MSubmit c) h = (and_parts (is_from 1 script.topology.replicas c.home.0) _ h).1
  body_carries p (MPropose c floor) h = (and_parts (is_from 1 script.topology.replicas c.home.0) _ h).1
  body_carries p (MPayload c) h = (and_parts (is_from 1 script.topology.replicas c.home.0) _ h).1
  body_carries p (MConsensus c t b) h = (and_parts (is_from 1 script.topology.replicas c.home.0) _ h).1
  body_carries p (MCommit c q t) h =
      (and_parts (is_from 1 script.topology.replicas c.home.0) _
      (and_parts (is_command_at script.topology p c) (is_from 1 script.topology.partitions q.0) h).0).1
  body_carries p (MRec c b) h = (and_parts (is_from 1 script.topology.replicas c.home.0) _ h).1
  body_carries p (MCommitted c t) h = (and_parts (is_from 1 script.topology.replicas c.home.0) _ h).1
  body_carries p _ h = tt

  abbrev Carried : ℕ → Message → Type 0
  Carried p m = Carries (Accesses p) m.body

  act_carries : (k : Site) (act : Act) (state : ProcessState) → KeepsOnly (Accesses k.partition.0) state
      → Each (Carried k.partition.0) (react rule k act state).1
  act_carries k (Did inner) state keeps = process_sends_only (Accesses k.partition.0) rule k (Did inner) state keeps tt
  act_carries k (Took m) state keeps =
      let mine : Bool = same_name m.to (Process k) && is_name_of script.topology m.from in
      let at : Bool = is_body_at script.topology k.partition.0 m.body in
      elim (cases_Bool at) [
        | inl is ↦ process_sends_only (Accesses k.partition.0) rule k (Took m) state keeps
            (body_carries k.partition.0 m.body is)
        | inr is_not ↦ cond_both (mine && at) (with_room state (on_body rule k m.from m.body state)) (state, [])
            (λ (moved : Step). Each (Carried k.partition.0) moved.1)
            (λ y. absurd (both_ways at is_not (and_parts mine at y).1)) (λ n. tt)
      ]

  keeps_here : (p : ℕ) (id : CommandId) (o : Option Command) → IfAny (IsCommandHere script p) o → KeepsCommand of id o
      → Keeps (Accesses p) id o
  keeps_here p id None h keeps = tt
  keeps_here p id (Some c) h keeps = (h.accesses, keeps.1)

  acts_carry : (k : Site) → (at : is_site_of script.topology k ≡ true) → (list : List Act) → Each (IsFitAct script) list
      → Each (IsGenuine of) list → Each (Carried k.partition.0) (sent_by rule k list)
  acts_carry k at [] all genuine = tt
  acts_carry k at (act ∷ before) all genuine =
      let state = state_after rule k before in
      let sound = process_sound script accepted rule.in_quorum (ring_has_fast_size script.topology accepted.shape) k at
      before all.1 in
      let facts = facts_hold rule k of (is_here script accepted k at) before genuine.1 in
      each_append (Carried k.partition.0) (react rule k act state).1 (sent_by rule k before)
      (act_carries k act state
      (λ id. keeps_here k.partition.0 id (state.sheets id).command (sound.sheets id).command (facts.sheets id).command))
      (acts_carry k at before all.1 genuine.1)

  pub sent_carries : (older : List Entry) → IsFreeHistory script older → (k : Site)
      → is_site_of script.topology k ≡ true
      → (m : Message) → IsIn m (sent_by rule k (acts older (Process k))) → Carries (Accesses k.partition.0) m.body
  sent_carries older history k at m there =
      each_in (Carried k.partition.0) (sent_by rule k (acts older (Process k))) m
      (acts_carry k at (acts older (Process k)) (fits script accepted older history (Process k))
      (are_genuine script accepted older history k)) there

  pub command_at : (p : ℕ) (c : Command) → IsIn c script.commands → Accesses p c
      → is_command_at script.topology p c ≡ true
  command_at p c ours accesses =
      and_from (is_from 1 script.topology.replicas c.home.0) (is_accessed script.topology.partitions c p)
      (range_in 1 script.topology.replicas c.home.0 (home_in_range script accepted c ours)) accesses

  goes_there : (c : Command) (k : Site) (to : ActorName) → to ≡ Process k → IsToAccessed script.topology c to
      → Accesses k.partition.0 c
  goes_there c k to is h =
      let p : h.partition ≡ k.partition.0 = ap partition_of (sym h.is ∙ is) in
      subst (λ (q : ℕ). Accesses q c) p
      (filter_in (is_accessed script.topology.partitions c) (up_to script.topology.partitions) h.partition h.among).1

  module _ (older : List Entry) (history : IsFreeHistory script older) (k : Site)
      (at : is_site_of script.topology k ≡ true) (m : Message) (there : IsIn (Took m) (acts older (Process k))) where
    sent : IsSent older m
    sent = took_sent older (Process k) m there

    to : m.to ≡ Process k
    to = (sent_before script older history (Process k) m there).1

    fit : IsFit script m
    fit = each_in (IsFitAct script) (acts older (Process k)) (Took m)
        (fits script accepted older history (Process k)) there

    -- what a process of the partition sent
    by_peer : IsPeer m.body → Carries (Accesses k.partition.0) m.body
    by_peer peer =
        let by = from_own_partition script older history k.partition.0 k m refl there peer in
        let j = site k.partition.0 (rank_of m.from) in
        sent_carries older history j by.1 m (sent_by_process script older history j m sent by.0)

    -- what some process sent
    module _ (by : Sender script m) where
      mine : IsIn m (sent_by rule by.site (acts older (Process by.site)))
      mine = sent_by_process script older history by.site m sent by.from

      carries : Carries (Accesses by.site.partition.0) m.body
      carries = sent_carries older history by.site by.known m mine

      directed : IsDirected rule by.site (acts older (Process by.site)) m
      directed = each_in (IsDirected rule by.site (acts older (Process by.site)))
          (sent_by rule by.site (acts older (Process by.site))) m
          (all_directed rule by.site (acts older (Process by.site))) mine

      own_partition : (c : Command) → Accesses by.site.partition.0 c → by.site.partition.0 ≡ k.partition.0
          → Accesses k.partition.0 c
      own_partition c accesses same = subst (λ (q : ℕ). Accesses q c) same accesses

      payload_at : (c : Command) → m.body ≡ MPayload c → Accesses k.partition.0 c
      payload_at c e =
          let near : partition_of m.to ≡ by.site.partition.0 =
          subst (GoesTo rule by.site (acts older (Process by.site)) m.to) e directed in
          own_partition c (subst (Carries (Accesses by.site.partition.0)) e carries) (sym near ∙ ap partition_of to)

      commit_at : (c : Command) (q : PartitionId) (t : Stamp) → m.body ≡ MCommit c q t
          → Accesses k.partition.0 c × (is_from 1 script.topology.partitions q.0 ≡ true)
      commit_at c q t e =
          let goes = subst (GoesTo rule by.site (acts older (Process by.site)) m.to) e directed in
          let range = (site_is script.topology by.site by.known).0 in (
            elim goes.1 [
              | inl accesses ↦ goes_there c k m.to to accesses
              | inr asked ↦
                  let near = from_own_partition script older history by.site.partition.0 by.site asked.question refl
                  asked.taken asked.peer in
                  own_partition c (subst (Carries (Accesses by.site.partition.0)) e carries)
                  (ap partition_of (sym near.0 ∙ asked.from ∙ to))
            ],
            range_in 1 script.topology.partitions q.0
                (subst (IsFrom 1 script.topology.partitions) (sym goes.0) range),
          )

    -- who sent it, where only processes send its kind
    by_process : IsOfProcess m.body → Sender script m
    by_process own = sender_of script older history m sent own

    -- its command accesses this partition
    pub is_at : is_body_at script.topology k.partition.0 m.body ≡ true
    is_at = by_body m.body refl fit.range fit.ours
      where
        peer_at : (c : Command) (body : Body) → m.body ≡ body → IsPeer body → Carries (Accesses k.partition.0) body
        peer_at c body e peer = subst (Carries (Accesses k.partition.0)) e (by_peer (subst IsPeer (sym e) peer))

        by_body : (body : Body) → m.body ≡ body → IsBody m.from m.to body → IsBodyOf script body
            → is_body_at script.topology k.partition.0 body ≡ true
        by_body (MSubmit c) e range ours = command_at k.partition.0 c ours
            (goes_there c k m.to to (subst (GoesRight m.to) e (sent_right older history m sent)))
        by_body (MPropose c floor) e range ours = command_at k.partition.0 c ours (peer_at c (MPropose c floor) e tt)
        by_body (MPayload c) e range ours =
            command_at k.partition.0 c ours (payload_at (by_process (subst IsOfProcess (sym e) tt)) c e)
        by_body (MConsensus c t b) e range ours = command_at k.partition.0 c ours (peer_at c (MConsensus c t b) e tt)
        by_body (MCommit c q t) e range ours =
            let both = commit_at (by_process (subst IsOfProcess (sym e) tt)) c q t e in
            and_from (is_command_at script.topology k.partition.0 c) (is_from 1 script.topology.partitions q.0)
            (command_at k.partition.0 c ours both.0) both.1
        by_body (MRec c b) e range ours = command_at k.partition.0 c ours (peer_at c (MRec c b) e tt)
        by_body (MCommitted c t) e range ours = absurd (subst IsExecutor to range.1)
        by_body (MResult id q answers) e range ours = absurd (subst IsClient to range.1)
        by_body _ e range ours = refl

  -- each message that a process takes in a run is admitted
  pub all_admitted : (older : List Entry) → IsFreeHistory script older → (k : Site)
      → is_site_of script.topology k ≡ true
      → AreAdmitted rule k (acts older (Process k))
  all_admitted [] history k at = tt
  all_admitted (e ∷ older) history k at =
      let rest : AreAdmitted rule k (acts older (Process k)) = all_admitted older history.0 k at in
      acts_step (AreAdmitted rule k) older e (Process k) rest (λ act same is. by_act act same is rest)
    where
      by_act : (act : Act) → e.actor ≡ Process k → act_of older e.event ≡ Some act
          → AreAdmitted rule k (acts older (Process k)) → AreAdmitted rule k (act ∷ acts older (Process k))
      by_act (Did inner) same is rest = rest
      by_act (Took m) same is rest =
          let there : IsIn (Took m) (acts (e ∷ older) (Process k)) =
          subst (IsIn (Took m)) (sym (acts_then older e (Process k) (Took m) same is)) (inl refl) in
          let before = sent_before script (e ∷ older) history (Process k) m there in
          let named : same_name m.to (Process k) ≡ true =
          ap (λ (a : ActorName). same_name a (Process k)) before.1 ∙ same_name_refl (Process k) in
          let mine : Bool = same_name m.to (Process k) && is_name_of script.topology m.from in (
            rest,
            record {
              names = and_from mine (is_body_at script.topology k.partition.0 m.body)
                  (and_from (same_name m.to (Process k)) (is_name_of script.topology m.from) named
                  (from_named script older history.0 m before.0))
                  (is_at (e ∷ older) history k at m there);
              room = sent_has_room script accepted older history.0 k at m before.0;
            },
          )
