-- Where each message was taken, what one process knows of its partition's stamp all processes know of all partitions
-- that the command accesses: who knew it first told all.
-- Used for each command in a run in which nothing is pending.
use Rattle.std.proofs.Common.{◌≡◌, ◌≢◌, ℕ, inl, inr, true, List, [], ◌∷◌, Option, Some, None, is_some, refl, sym, subst}
use Rattle.std.specs.Prelude.{replicate}
use Rattle.std.proofs.lemmas.Bool.{both_ways, cases_Bool}
use Rattle.tp_base.proofs.Each.{each_in}
use Rattle.tp_base.proofs.Members.{in_left}
use Rattle.tp_base.proofs.SameNames.{same_name_is, same_name_refl}
use Rattle.tp_base.specs.Limits.{IsFrom}
use Rattle.tp_base.specs.Lists.{IsIn}
use Rattle.tp_base.specs.Names.{same_name}
use Rattle.tp_base.specs.declared.names.ActorName.TheVariants.{Process}
use Rattle.tp_base.specs.declared.names.CommandId.{CommandId}
use Rattle.tp_base.specs.declared.names.Site.{Site}
use Rattle.tp_agreement.proofs.KnownStamps.{acts_are_sent}
use Rattle.tp_agreement.proofs.Moment.{id_of_command}
use Rattle.tp_facts.proofs.ActSteps.{step_of_act}
use Rattle.tp_facts.proofs.Commands.{command_in, command_in_names}
use Rattle.tp_facts.proofs.Deliveries.{sent_before}
use Rattle.tp_facts.proofs.Facts.{IsGenuine, sent_by}
use Rattle.tp_facts.proofs.RunFacts.{FactsAt, run_holds}
use Rattle.tp_facts.proofs.Senders.{IsOfProcess, sender_of, sent_by_process}
use Rattle.tp_base.proofs.Tables.{kept_replicate}
use Rattle.tp_ops.specs.Parts.{is_accessed}
use Rattle.tp_ops.specs.declared.command.Command.{Command}
use Rattle.tp_rules.proofs.ActsMore.{acts_step, acts_then}
use Rattle.tp_rules.proofs.sent.SendsOfProcess.{stamp}
use Rattle.tp_rules.proofs.fit.Messages.{site_is}
use Rattle.tp_rules.proofs.lists.Tallies.{in_filter}
use Rattle.tp_rules.proofs.lists.UpTo.{in_up_to}
use Rattle.tp_rules.specs.Acts.{Act, Took}
use Rattle.tp_rules.specs.Addresses.{accessed, message, site}
use Rattle.tp_rules.specs.Journal.{IsSent, act_of, acts}
use Rattle.tp_rules.specs.Process.{react, state_after}
use Rattle.tp_rules.specs.Runs.{IsFreeHistory}
use Rattle.tp_rules.specs.Sheet.{QuorumRule, blank, ring_rule}
use Rattle.tp_base.specs.Tables.{kept_at}
use Rattle.tp_rules.specs.declared.event.Entry.{Entry}
use Rattle.tp_script.specs.Accepted.{IsAccepted}
use Rattle.tp_script.specs.declared.script.Script.{Script}
use Rattle.tp_topology.specs.Counting.{up_to}
use Rattle.tp_wire.specs.declared.message.Body.TheVariants.{MCommit}
use Rattle.tp_wire.specs.declared.message.Message.{Message}
use Rattle.tp_quiet.proofs.AllServed.{all_served}
use Rattle.tp_quiet.proofs.AllStanding.{all_standing}
use Rattle.tp_quiet.proofs.Destinations.{GoesTo, IsDirected, all_directed}
use Rattle.tp_quiet.proofs.Onward.{act_onward}
use Rattle.tp_quiet.proofs.Questions.{AsksFairly, IsFair, all_fair}
use Rattle.tp_quiet.proofs.Room.{process_at}
use Rattle.tp_quiet.proofs.Served.{Knows}
use Rattle.tp_quiet.proofs.Stuck.{IsTakenIn}
use Rattle.tp_quiet.proofs.TakenWell.{are_genuine, is_here}
use Rattle.tp_quiet.proofs.TellsAll.{act_tells}
use Rattle.tp_topology.specs.Shape.{is_site_of}

module _ (script : Script) (accepted : IsAccepted script) where
  abbrev of : CommandId → Command
  of = command_in script.commands

  abbrev rule : QuorumRule
  rule = ring_rule script.topology

  -- a process of the partition that knows the stamp, and told it to all
  pub record HasTeller (older : List Entry) (p : ℕ) (id : CommandId) : Type 0 where
    pub by : Site
    pub known : is_site_of script.topology by ≡ true
    pub partition : by.partition.0 ≡ p
    pub knows : Knows p ((process_at script accepted older by).sheets id)
    pub stamp_told : ℕ
    pub told : (q r : ℕ) → IsIn q (accessed script.topology (of id)) → IsFrom 1 script.topology.replicas r
        → Process (site q r) ≢ Process by
        → IsSent older (message (Process by) (Process (site q r)) (MCommit (of id) by.partition (stamp stamp_told)))

  -- what a process knows it knows later
  knows_later : (older : List Entry) (e : Entry) → IsFreeHistory script (e ∷ older) → (k : Site)
      → is_site_of script.topology k ≡ true → (q : ℕ) (id : CommandId)
      → Knows q ((process_at script accepted older k).sheets id)
      → Knows q ((process_at script accepted (e ∷ older) k).sheets id)
  knows_later older e history k at q id known =
      let state = process_at script accepted older k in
      let facts : FactsAt script of older k =
      run_holds script of accepted (command_in_names script accepted) older history.0 k at in
      acts_step (λ (list : List Act). Knows q ((state_after rule k list).sheets id)) older e (Process k) known
      (λ act same is.
      (act_onward rule k of (is_here script accepted k at) (acts older (Process k))
      (sent_by rule k (acts older (Process k))) (step_of_act rule k act state) (genuine_first act same is)
      facts.sheets id).knows q known)
    where
      genuine_first : (act : Act) → e.actor ≡ Process k → act_of older e.event ≡ Some act → IsGenuine of act
      genuine_first act same is =
          each_in (IsGenuine of) (acts (e ∷ older) (Process k)) act (are_genuine script accepted (e ∷ older) history k)
          (subst (IsIn act) (sym (acts_then older e (Process k) act same is)) (inl refl))

  teller_later : (older : List Entry) (e : Entry) → IsFreeHistory script (e ∷ older) → (p : ℕ) (id : CommandId)
      → HasTeller older p id → HasTeller (e ∷ older) p id
  teller_later older e history p id h = record {
    by = h.by;
    known = h.known;
    partition = h.partition;
    knows = knows_later older e history h.by h.known p id h.knows;
    stamp_told = h.stamp_told;
    told = λ q r among range other. inr (h.told q r among range other);
  }

  -- each process that knows its partition's stamp has it from one who told all
  abbrev HaveTellers : List Entry → Type 0
  HaveTellers older = (k : Site) → is_site_of script.topology k ≡ true → (id : CommandId)
      → Knows k.partition.0 ((process_at script accepted older k).sheets id) → HasTeller older k.partition.0 id

  pub has_teller : (older : List Entry) → IsFreeHistory script older → HaveTellers older
  unfolding blank
  has_teller [] history k at id known = absurd (
      let none : is_some (kept_at {X = ℕ} (replicate script.topology.partitions None) k.partition.0) ≡ true = known in
      not_kept (kept_at (replicate script.topology.partitions None) k.partition.0) refl none)
    where
      not_kept : (o : Option ℕ) → kept_at (replicate script.topology.partitions None) k.partition.0 ≡ o
          → is_some o ≡ true → ⊥
      not_kept None is some = absurd cc
      not_kept (Some t) is some = kept_replicate script.topology.partitions k.partition.0 t is
  has_teller (e ∷ older) history k at id known =
      let before : Knows k.partition.0 ((process_at script accepted older k).sheets id)
      → HasTeller older k.partition.0 id =
      has_teller older history.0 k at id in
      acts_step
      (λ (list : List Act). Knows k.partition.0 ((state_after rule k list).sheets id)
      → HasTeller (e ∷ older) k.partition.0 id) older e (Process k)
      (λ now. teller_later older e history k.partition.0 id (before now))
      (λ act same is now. by_act act same is now (λ j at_j i. has_teller older history.0 j at_j i)) known
    where
      -- the commit that was taken was sent by one who knew
      from_sender : (m : Message) (t : ℕ) → HaveTellers older → IsSent older m
          → m.body ≡ MCommit (of id) (record { 0 = k.partition.0 }) (stamp t) → HasTeller older k.partition.0 id
      from_sender m t all_before sent is =
          let by = sender_of script older history.0 m sent (subst IsOfProcess (sym is) tt) in
          let j = by.site in
          let mine = sent_by_process script older history.0 j m sent by.from in
          let fair = each_in (AsksFairly j (process_at script accepted older j).sheets)
          (sent_by rule j (acts older (Process j))) m
          (all_fair rule j of (is_here script accepted j by.known) (acts older (Process j))
          (are_genuine script accepted older history.0 j)) mine in
          let knows : Knows k.partition.0 ((process_at script accepted older j).sheets (of id).id) =
          subst (IsFair j (process_at script accepted older j).sheets m.to) is fair in
          let directed = each_in (IsDirected rule j (acts older (Process j)))
          (sent_by rule j (acts older (Process j))) m
          (all_directed rule j (acts older (Process j))) mine in
          let partition : k.partition.0 ≡ j.partition.0 =
          (subst (GoesTo rule j (acts older (Process j)) m.to) is directed).0 in
          subst (λ (p : ℕ). HasTeller older p id) (sym partition)
          (all_before j by.known id
          (subst (λ (p : ℕ). Knows p ((process_at script accepted older j).sheets id)) partition
          (subst (λ (i : CommandId). Knows k.partition.0 ((process_at script accepted older j).sheets i))
          (id_of_command script.commands id) knows)))

      by_act : (act : Act) → e.actor ≡ Process k → act_of older e.event ≡ Some act
          → Knows k.partition.0 ((state_after rule k (act ∷ acts older (Process k))).sheets id)
          → HaveTellers older → HasTeller (e ∷ older) k.partition.0 id
      by_act act same is now all_before =
          let state = process_at script accepted older k in
          let facts : FactsAt script of older k =
          run_holds script of accepted (command_in_names script accepted) older history.0 k at in
          let list = acts older (Process k) in
          let then : acts (e ∷ older) (Process k) ≡ act ∷ list = acts_then older e (Process k) act same is in
          let genuine : IsGenuine of act = each_in (IsGenuine of) (acts (e ∷ older) (Process k)) act
          (are_genuine script accepted (e ∷ older) history k) (subst (IsIn act) (sym then) (inl refl)) in
          elim (act_tells rule k of (step_of_act rule k act state) genuine (λ i. (facts.sheets i).command)
          (λ i. (all_standing rule k of (is_here script accepted k at) accepted.shape list
          (are_genuine script accepted older history.0 k) i).put_kept) id now) [
            | inl knew ↦ teller_later older e history k.partition.0 id (all_before k at id knew)
            | inr (inl told) ↦ record {
              by = k;
              known = at;
              partition = refl;
              knows = subst (λ (l : List Act). Knows k.partition.0 ((state_after rule k l).sheets id)) (sym then) now;
              stamp_told = told.0;
              told = λ q r among range other.
                  let n = message (Process k) (Process (site q r)) (MCommit (of id) k.partition (stamp told.0)) in
                  acts_are_sent script (e ∷ older) history k n
                  (subst (λ (l : List Act). IsIn n (sent_by rule k l)) (sym then)
                  (in_left (react rule k act state).1 (sent_by rule k list) n (told.1 q r among range other)));
            }
            | inr (inr took) ↦
                let there : IsIn (Took took.message) (acts (e ∷ older) (Process k)) =
                subst (IsIn (Took took.message)) (sym then) (inl (sym took.takes)) in
                teller_later older e history k.partition.0 id
                (from_sender took.message took.stamp_told all_before
                (sent_before script (e ∷ older) history (Process k) took.message there).0 took.is)
          ]

-- all processes of the partitions that a command accesses know the stamp of each such partition, where one process does
module _ (script : Script) (older : List Entry) (run : IsTakenIn script older) where
  pub all_know : (k : Site) → is_site_of script.topology k ≡ true → (id : CommandId)
      → is_accessed script.topology.partitions (command_in script.commands id) k.partition.0 ≡ true
      → Knows k.partition.0 ((process_at script run.accepted older k).sheets id)
      → (j : Site) → is_site_of script.topology j ≡ true
      → is_accessed script.topology.partitions (command_in script.commands id) j.partition.0 ≡ true
      → Knows k.partition.0 ((process_at script run.accepted older j).sheets id)
  all_know k at id on_k known j at_j on_j =
      let h = has_teller script run.accepted older run.history k at id known in
      elim (cases_Bool (same_name (Process j) (Process h.by))) [
        | inl same ↦
            let is : j ≡ h.by = cc_site (same_name_is (Process j) (Process h.by) same) in
            subst (λ (x : Site). Knows k.partition.0 ((process_at script run.accepted older x).sheets id))
            (sym is) h.knows
        | inr apart ↦
            let c : Command = command_in script.commands id in
            let range = site_is script.topology j at_j in
            let among : IsIn j.partition.0 (accessed script.topology c) =
            in_filter (is_accessed script.topology.partitions c) (up_to script.topology.partitions) j.partition.0
            (in_up_to script.topology.partitions j.partition.0 range.0.0 range.0.1) on_j in
            let m = message (Process h.by) (Process j) (MCommit c h.by.partition (stamp h.stamp_told)) in
            let sent : IsSent older m = h.told j.partition.0 j.rank.0 among range.1
            (λ same. absurd (both_ways (same_name (Process j) (Process h.by)) apart
            (subst (λ (a : _). same_name a (Process h.by) ≡ true) (sym same) (same_name_refl (Process h.by))))) in
            let serves = all_served (ring_rule script.topology) j (command_in script.commands) (run.here j at_j)
            (acts older (Process j)) (run.genuine j at_j) (run.well j at_j) m (run.took m sent) in
            let on : is_accessed script.topology.partitions c h.by.partition.0 ≡ true =
            subst (λ (p : ℕ). is_accessed script.topology.partitions c p ≡ true) (sym h.partition) on_k in
            let knows : Knows h.by.partition.0 ((process_at script run.accepted older j).sheets c.id) = serves on in
            subst (λ (i : CommandId). Knows k.partition.0 ((process_at script run.accepted older j).sheets i))
            (id_of_command script.commands id)
            (subst (λ (p : ℕ). Knows p ((process_at script run.accepted older j).sheets c.id)) h.partition knows)
      ]
    where
      cc_site : {a b : Site} → Process a ≡ Process b → a ≡ b
      cc_site e = cc
