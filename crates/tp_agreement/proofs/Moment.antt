-- One command in one partition at one moment of a run: what its processes keep and have sent. Used by all files below.
use Rattle.std.proofs.Common.{◌≡◌, ℕ, Bool, true, List, [], ◌∷◌, refl, sym, subst}
use Rattle.std.proofs.lemmas.Bool.{cond_both}
use Rattle.tp_base.proofs.SameNames.{same_id_is}
use Rattle.tp_base.specs.Limits.{IsFrom}
use Rattle.tp_base.specs.Lists.{IsIn}
use Rattle.tp_base.specs.Names.{same_id}
use Rattle.tp_base.specs.declared.names.ActorName.TheVariants.{Process}
use Rattle.tp_base.specs.declared.names.CommandId.{CommandId}
use Rattle.tp_base.specs.declared.names.Site.{Site}
use Rattle.tp_ops.specs.declared.command.Command.{Command}
use Rattle.tp_rules.proofs.fit.Choices.{ring_has_fast_size}
use Rattle.tp_rules.proofs.sent.SendsOfProcess.{stamp}
use Rattle.tp_rules.specs.Acts.{Act, Took}
use Rattle.tp_rules.specs.Addresses.{rank_of, site}
use Rattle.tp_rules.specs.Journal.{IsSent, acts}
use Rattle.tp_rules.specs.Process.{state_after}
use Rattle.tp_rules.specs.Runs.{IsFreeHistory}
use Rattle.tp_rules.specs.Sheet.{QuorumRule, Sheet, ring_rule}
use Rattle.tp_rules.specs.declared.event.Entry.{Entry}
use Rattle.tp_script.specs.Accepted.{IsAccepted}
use Rattle.tp_script.specs.declared.script.Script.{Script}
use Rattle.tp_topology.specs.Counting.{count_up_to}
use Rattle.tp_topology.specs.Shape.{Shape, fast_size, is_site_of}
use Rattle.tp_wire.specs.declared.message.Body.{Body}
use Rattle.tp_wire.specs.declared.message.Body.TheVariants.{MConsensus}
use Rattle.tp_wire.specs.declared.message.Message.{Message}
use Rattle.tp_facts.proofs.RunFacts.{FactsAt, run_holds}
use Rattle.tp_facts.proofs.Facts.{WasTaken, WasTakenFrom, IsPut, IsTrue, sent_by}
use Rattle.tp_facts.proofs.Commands.{command_in, command_in_names}
use Rattle.tp_facts.proofs.SamePartition.{IsPeer, from_own_partition}
use Rattle.tp_facts.proofs.Senders.{sent_by_process}
use Rattle.tp_facts.proofs.Deliveries.{took_sent}
use Rattle.tp_facts.proofs.Consequences.{put_of, said_of}

-- a run of a script up to some entry, a partition, and the identifier of a command
pub record Moment : Type 0 where
  pub script : Script
  pub accepted : IsAccepted script
  -- the newest entry first
  pub journal : List Entry
  pub history : IsFreeHistory script journal
  pub partition : ℕ
  pub id : CommandId

-- the moment with these parts
abbrev pub moment_at : (script : Script) → IsAccepted script → (journal : List Entry) → IsFreeHistory script journal
    → ℕ → CommandId → Moment
moment_at script accepted journal history partition id =
    record {
      script = script;
      accepted = accepted;
      journal = journal;
      history = history;
      partition = partition;
      id = id;
    }

-- the command of an identifier has that identifier
pub id_of_command : (cs : List Command) (id : CommandId) → (command_in cs id).id ≡ id
id_of_command [] id = refl
id_of_command (c ∷ cs) id = cond_both (same_id c.id id) c (command_in cs id) (λ (d : Command). d.id ≡ id)
    (λ y. same_id_is c.id id y) (λ n. id_of_command cs id)

module _ (m : Moment) where
  abbrev pub shape : Shape
  shape = m.script.topology

  abbrev pub quorum_rule : QuorumRule
  quorum_rule = ring_rule m.script.topology

  -- the script's command of each identifier, this moment's, and its home
  abbrev pub named : CommandId → Command
  named id = command_in m.script.commands id

  abbrev pub command : Command
  command = named m.id

  abbrev pub home : ℕ
  home = command.home.0

  abbrev pub replicas : ℕ
  replicas = m.script.topology.replicas

  -- whether a rank is of the command's fast quorum
  abbrev pub in_quorum : ℕ → Bool
  in_quorum j = quorum_rule.in_quorum command j

  -- all that is used of it: it has the fast size
  pub quorum_size : IsFrom 1 replicas home → count_up_to in_quorum replicas ≡ fast_size shape
  quorum_size ranked = ring_has_fast_size shape m.accepted.shape command ranked.0 ranked.1

  -- the process of a rank in the partition
  abbrev pub process : ℕ → Site
  process j = site m.partition j

  -- whether there is one
  abbrev pub IsRank : ℕ → Type 0
  IsRank j = is_site_of shape (process j) ≡ true

  -- its acts, what it has sent by them, and what it keeps of each command and of this one
  abbrev pub acts_of : ℕ → List Act
  acts_of j = acts m.journal (Process (process j))

  abbrev pub sent_of : ℕ → List Message
  sent_of j = sent_by quorum_rule (process j) (acts_of j)

  abbrev pub sheet_of : ℕ → CommandId → Sheet
  sheet_of j id = (state_after quorum_rule (process j) (acts_of j)).sheets id

  abbrev pub sheet : ℕ → Sheet
  sheet j = sheet_of j m.id

  -- the facts of a single process
  pub facts_of : (j : ℕ) → IsRank j
      → FactsAt m.script named m.journal (process j)
  facts_of j known =
      run_holds m.script named m.accepted (command_in_names m.script m.accepted) m.journal m.history (process j) known

  -- a message with this body was sent by the process of a rank
  pub record SentBy (j : ℕ) (body : Body) : Type 0 where
    pub message : Message
    pub known : IsRank j
    pub from : message.from ≡ Process (process j)
    pub there : IsSent m.journal message
    pub is : message.body ≡ body

  -- what a process took, of the kinds of messages that processes of a partition send each other, one of them sent
  by_sender : (k : Site) (message : Message) (body : Body) → IsPeer body → k.partition.0 ≡ m.partition
      → IsIn (Took message) (acts m.journal (Process k)) → message.body ≡ body → SentBy (rank_of message.from) body
  by_sender k message body peer here took is =
      let by = from_own_partition m.script m.journal m.history m.partition k message here took
      (subst IsPeer (sym is) peer) in
      let sent : IsSent m.journal message = took_sent m.journal (Process k) message took in
      record { message = message; known = by.1; from = by.0; there = sent; is = is }

  pub received : (k : Site) (body : Body) → IsPeer body → k.partition.0 ≡ m.partition
      → WasTaken (acts m.journal (Process k)) body → (j : ℕ) × SentBy j body
  received k body peer here got = (rank_of got.message.from, by_sender k got.message body peer here got.there got.is)

  -- and from a rank, that rank sent it
  pub received_from : (k : Site) (j : ℕ) (body : Body) → IsPeer body → k.partition.0 ≡ m.partition
      → WasTakenFrom (acts m.journal (Process k)) j body → SentBy j body
  received_from k j body peer here got =
      subst (λ (i : ℕ). SentBy i body) got.from (by_sender k got.message body peer here got.there got.is)

  -- what was sent in a process's name it sent by its acts
  pub by_acts : {j : ℕ} {body : Body} (sent : SentBy j body) → IsIn sent.message (sent_of j)
  by_acts {j} sent =
      sent_by_process m.script m.journal m.history (process j) sent.message sent.there sent.from

  -- so what a message says of its sender is true of it
  pub is_true : {j : ℕ} {body : Body} → SentBy j body
      → (i : CommandId) × IsTrue quorum_rule (process j) named (acts_of j) (sent_of j) i (sheet_of j i) body
  is_true {j} {body} sent = said_of (facts_of j sent.known) sent.message body (by_acts sent) sent.is

  -- a put: the command with a stamp at a ballot
  abbrev pub put : ℕ → ℕ → Body
  put u b = MConsensus command (stamp u) b

  -- what holds of it: the home's first put, or a recovery's
  pub is_put : {j u b : ℕ} → SentBy j (put u b)
      → IsPut quorum_rule (process j) named (acts_of j) (sent_of j) m.id (sheet j) u b
  is_put {j} {u} {b} sent =
      subst (λ (i : CommandId). IsPut quorum_rule (process j) named (acts_of j) (sent_of j) i (sheet_of j i) u b)
      (id_of_command m.script.commands m.id)
      (put_of (facts_of j sent.known) sent.message command (stamp u) b (by_acts sent) sent.is)
