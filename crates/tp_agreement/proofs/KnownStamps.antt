-- A stamp that a process tells or knows of was decided. Used for the final stamps.
use Rattle.std.proofs.Common.{◌≡◌, ℕ, inl, inr, true, List, [], ◌∷◌, Some, refl, sym, subst}
use Rattle.tp_base.proofs.Members.{in_either}
use Rattle.tp_base.specs.Lists.{IsIn}
use Rattle.tp_base.specs.declared.names.ActorName.TheVariants.{Process}
use Rattle.tp_base.specs.declared.names.CommandId.{CommandId}
use Rattle.tp_base.specs.declared.names.PartitionId.{PartitionId}
use Rattle.tp_base.specs.declared.names.Site.{Site}
use Rattle.tp_base.specs.declared.names.Stamp.{Stamp}
use Rattle.tp_ops.specs.declared.command.Command.{Command}
use Rattle.tp_rules.proofs.sent.SendsOfProcess.{stamp}
use Rattle.tp_rules.specs.Journal.{acts, IsSent}
use Rattle.tp_rules.specs.Process.{state_after}
use Rattle.tp_rules.specs.Runs.{IsFreeHistory, outputs_by}
use Rattle.tp_rules.specs.Sheet.{Sheet, ring_rule, stamp_of}
use Rattle.tp_rules.specs.declared.event.Entry.{Entry}
use Rattle.tp_script.specs.Accepted.{IsAccepted}
use Rattle.tp_script.specs.declared.script.Script.{Script}
use Rattle.tp_wire.specs.declared.message.Body.TheVariants.{MConsensusAck, MCommit}
use Rattle.tp_wire.specs.declared.message.Message.{Message}
use Rattle.tp_facts.proofs.RunFacts.{FactsAt, run_holds}
use Rattle.tp_facts.proofs.Facts.{WasTaken, IsLearned, DecidedItself, sent_by}
use Rattle.tp_facts.proofs.Commands.{command_in, command_in_names}
use Rattle.tp_facts.proofs.Senders.{IsOfProcess, acts_send, sender_of}
use Rattle.tp_facts.proofs.Deliveries.{took_sent, sent_before}
use Rattle.tp_facts.proofs.Consequences.{sender}
use Rattle.tp_agreement.proofs.Decisions.{Decided, fast_path, slow_path}
use Rattle.tp_agreement.proofs.LaterMoments.{decided_later}
use Rattle.tp_agreement.proofs.Moment.{IsRank, Moment, SentBy, acts_of, command, facts_of, id_of_command, is_true, moment_at, named, process, put, received_from, sent_of, quorum_rule, shape, sheet}
use Rattle.tp_topology.specs.Shape.{is_site_of}

-- what a process sent by its acts was sent
pub acts_are_sent : (script : Script) (older : List Entry) → IsFreeHistory script older → (k : Site) (n : Message)
    → IsIn n (sent_by (ring_rule script.topology) k (acts older (Process k))) → IsSent older n
acts_are_sent script older history k =
    acts_send script (Process k) (sent_by (ring_rule script.topology) k) (λ n there. there)
    (λ before act n there. in_either (outputs_by script before (Process k) (Some act))
    (sent_by (ring_rule script.topology) k (acts before (Process k))) n there) older history

-- what a process keeps of the moment's command, in whatever partition it is
abbrev pub sheet_at_site : Moment → Site → Sheet
sheet_at_site m k = (state_after (quorum_rule m) k (acts m.journal (Process k))).sheets m.id

-- the same moment of another partition
abbrev in_partition : Moment → ℕ → Moment
in_partition m p = moment_at m.script m.accepted m.journal m.history p m.id

-- what a process decided itself, by its table of acknowledgements or by votes for what it put
decided_itself : (m : Moment) (j t : ℕ) → IsRank m j
    → DecidedItself (quorum_rule m) (named m) (acts_of m j) (sent_of m j) m.id (sheet m j).acknowledged t → Decided m t
decided_itself m j t known (inl fast) = fast_path (record { rank = j; known = known; fast = fast.0; top = fast.1 })
decided_itself m j t known (inr voted) =
    let b : ℕ = voted.0 in
    let said = voted.1 in
    let votes = voted.2 in
    let sent : SentBy m j (put m t b) = record {
      message = said.message;
      known = known;
      from = sender (facts_of m j known) said.message said.there;
      there = acts_are_sent m.script m.journal m.history (process m j) said.message said.there;
      is = said.is;
    } in
    slow_path b (record {
      rank = j;
      sent = sent;
      votes = votes.0;
      enough = votes.1;
      places = votes.2;
      voters = λ i at. received_from m (process m j) i (MConsensusAck m.id b) tt refl (votes.3 i at);
    })

-- what it learned, it was told or decided itself
learned : (m : Moment) (k : Site) (t : ℕ) → is_site_of (shape m) k ≡ true
    → (WasTaken (acts m.journal (Process k)) (MCommit (command m) (record { 0 = m.partition }) (stamp t)) → Decided m t)
    → IsLearned (quorum_rule m) k (named m) (acts m.journal (Process k))
    (sent_by (quorum_rule m) k (acts m.journal (Process k))) m.id
    (sheet_at_site m k).acknowledged m.partition t → Decided m t
learned m k t known told (inl got) = told got
learned m k t known told (inr own) =
    subst (λ (p : ℕ). Decided (in_partition m p) t) (sym own.0)
    (decided_itself (in_partition m k.partition.0) k.rank.0 t known own.1)

module _ (script : Script) (accepted : IsAccepted script) where
  abbrev DecidedIn : (older : List Entry) → IsFreeHistory script older → ℕ → CommandId → ℕ → Type 0
  DecidedIn older history q id t = Decided (moment_at script accepted older history q id) t

  -- what is told as decided was: by induction on the journal, as what was passed on was told in an earlier entry
  commit_decided : (older : List Entry) (history : IsFreeHistory script older) (n : Message) (c : Command)
      (q : PartitionId)
      (t : Stamp) → IsSent older n → n.body ≡ MCommit c q t → DecidedIn older history q.0 c.id t.0
  commit_decided [] history n c q t there is = absurd there
  commit_decided (e ∷ older) history n c q t (inr there) is =
      decided_later script accepted older e history q.0 c.id t.0 (commit_decided older history.0 n c q t there is)
  commit_decided (e ∷ older) history n c q t (inl here) is =
      now (λ k d there body. decided_later script accepted older e history q.0 d.id t.0
      (commit_decided older history.0 k d q t there body))
    where
      now : ((k : Message) (d : Command) → IsSent older k → k.body ≡ MCommit d q t
          → DecidedIn (e ∷ older) history q.0 d.id t.0)
          → DecidedIn (e ∷ older) history q.0 c.id t.0
      now before =
          let s = sender_of script (e ∷ older) history n (inl here) (subst IsOfProcess (sym is) tt) in
          let sent : SentBy (moment_at script accepted (e ∷ older) history s.site.partition.0 c.id) s.site.rank.0
          (MCommit c q t) =
          record { message = n; known = s.known; from = s.from; there = inl here; is = is } in
          let said = is_true (moment_at script accepted (e ∷ older) history s.site.partition.0 c.id) sent in
          let decided : DecidedIn (e ∷ older) history q.0 said.0 t.0 =
          learned (moment_at script accepted (e ∷ older) history q.0 said.0) s.site t.0 s.known
          (λ got. let took = sent_before script (e ∷ older) history (Process s.site) got.message got.there in
          subst (λ (i : CommandId). DecidedIn (e ∷ older) history q.0 i t.0) (id_of_command script.commands said.0)
          (before got.message (command_in script.commands said.0) took.0 got.is)) said.1.2 in
          subst (λ (i : CommandId). DecidedIn (e ∷ older) history q.0 i t.0) (sym said.1.0) decided

-- a stamp of a partition that a process knows was decided in that partition
pub known_decided : (m : Moment) (k : Site) (t : ℕ) → is_site_of (shape m) k ≡ true
    → stamp_of (sheet_at_site m k) m.partition ≡ Some t → Decided m t
known_decided m k t known kept =
    learned m k t known
    (λ got. subst (λ (i : CommandId). Decided (moment_at m.script m.accepted m.journal m.history m.partition i) t)
    (id_of_command m.script.commands m.id)
    (commit_decided m.script m.accepted m.journal m.history got.message (command m) (record { 0 = m.partition })
    (stamp t) (took_sent m.journal (Process k) got.message got.there) got.is))
    ((facts.sheets m.id).known m.partition t kept)
  where
    facts : FactsAt m.script (named m) m.journal k
    facts = run_holds m.script (named m) m.accepted (command_in_names m.script m.accepted) m.journal m.history k known
