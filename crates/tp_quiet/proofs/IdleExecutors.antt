-- Where each message was taken and nobody has a step to make, the executors are idle: what is committed anywhere is
-- committed at each site of its partitions with one key, and is stable there; what was declared was heard.
-- Used for what is executed in a run in which nothing is pending.
use Rattle.std.proofs.Common.{◌≡◌, ◌≢◌, ℕ, ◌≤◌, Bool, inl, inr, true, false, cond, List, [], ◌∷◌, Option, Some, None, is_some, refl, sym, ap, subst, ◌∙◌, arith}
use Rattle.std.specs.Prelude.{◌==◌, ◌&&◌, is_none, nat_lt, not}
use Rattle.std.proofs.lemmas.Bool.{and_from, cond_both, eq-eqb, eqb-true, ltb-false}
use Rattle.tp_base.proofs.Each.{each_in, each_weaker}
use Rattle.tp_base.proofs.SameNames.{same_id_refl, same_name_refl}
use Rattle.tp_base.specs.Limits.{IsFrom}
use Rattle.tp_base.specs.Lists.{Each, IsIn, has}
use Rattle.tp_base.specs.Names.{same_id, same_name}
use Rattle.tp_base.specs.declared.names.ActorName.{ActorName}
use Rattle.tp_base.specs.declared.names.ActorName.TheVariants.{Executor, Process}
use Rattle.tp_base.specs.declared.names.CommandId.{CommandId}
use Rattle.tp_base.specs.declared.names.Key.{Key}
use Rattle.tp_base.specs.declared.names.Pair.{Pair}
use Rattle.tp_base.specs.declared.names.Site.{Site}
use Rattle.tp_agreement.proofs.KnownStamps.{acts_are_sent}
use Rattle.tp_base.proofs.Tests.{any_in}
use Rattle.tp_facts.proofs.Commands.{accessed_from, command_in, command_in_names}
use Rattle.tp_facts.proofs.Facts.{KeepsCommand}
use Rattle.tp_facts.proofs.RunFacts.{FactsAt, run_holds}
use Rattle.tp_facts.specs.Settled.{Settled}
use Rattle.tp_ops.specs.Parts.{is_accessed}
use Rattle.tp_ops.specs.declared.command.Command.{Command}
use Rattle.tp_order.proofs.CommittedAndDue.{committed_is_due, knows, tellings_are_true}
use Rattle.tp_order.proofs.Knowledge.{CommittedMessage, PromisesMessage}
use Rattle.tp_order.proofs.SentCommits.{sent_is_commit}
use Rattle.tp_order.proofs.Stability.{IsTrueTelling}
use Rattle.tp_order.specs.Due.{final_key, final_owner}
use Rattle.tp_replies.proofs.Submissions.{IsSubmitted}
use Rattle.tp_rules.proofs.sent.CarriedCommands.{Keeps}
use Rattle.tp_rules.proofs.fit.Messages.{IsCommandHere, site_is, site_known}
use Rattle.tp_rules.proofs.sent.Provenance.{IsOf, committed_provenance}
use Rattle.tp_rules.proofs.lists.Selections.{IfAny}
use Rattle.tp_rules.proofs.sent.SendsOfProcess.{stamp}
use Rattle.tp_rules.proofs.lists.Tallies.{filter_in, in_filter}
use Rattle.tp_rules.proofs.ends.Unannounced.{site_listed}
use Rattle.tp_rules.proofs.ends.Unexecuted.{executor_of}
use Rattle.tp_rules.specs.Addresses.{accessed, is_name_of, message, others_accessed, site}
use Rattle.tp_rules.specs.Executor.{Committed, Heard, committed_ids, is_heard, is_undeclared}
use Rattle.tp_rules.specs.Journal.{IsSent, acts, identity_in, is_known}
use Rattle.tp_rules.specs.Pending.{sites_of}
use Rattle.tp_rules.specs.Process.{ProcessState}
use Rattle.tp_rules.specs.Rules.{enabled}
use Rattle.tp_rules.specs.Sheet.{QuorumRule, ring_rule}
use Rattle.tp_rules.specs.declared.event.Entry.{Entry}
use Rattle.tp_rules.specs.declared.event.Inner.TheVariants.{Announce}
use Rattle.tp_script.specs.declared.script.Script.{Script}
use Rattle.tp_topology.specs.Stability.{attached_to, is_stable}
use Rattle.tp_wire.specs.declared.message.Body.TheVariants.{MCommitted, MPromises, MStable}
use Rattle.tp_wire.specs.declared.message.Message.{Message}
use Rattle.tp_quiet.proofs.AllCommitted.{accessed_listed, committed_at, committed_by, has_committed, listed_accessed}
use Rattle.tp_quiet.proofs.AllExecuted.{AreIdle}
use Rattle.tp_quiet.proofs.AllStable.{IsToldBy, all_stable}
use Rattle.tp_quiet.proofs.AllStanding.{all_standing}
use Rattle.tp_quiet.proofs.Announced.{all_announced}
use Rattle.tp_quiet.proofs.Declared.{all_told, executor_acts_are_sent}
use Rattle.tp_quiet.proofs.ExecutedDeclared.{executed_was_ready}
use Rattle.tp_quiet.proofs.ExecutorsHear.{IsNamed, all_heeded}
use Rattle.tp_quiet.proofs.Room.{listed_is, process_at, sound}
use Rattle.tp_quiet.proofs.Stuck.{IsTakenIn}
use Rattle.tp_quiet.proofs.Submitted.{committed_submitted, kept_submitted}
use Rattle.tp_topology.specs.Shape.{is_site_of}

-- who owns an attached number
attached_in : (pairs : List Pair) (n : ℕ) (id : CommandId) → attached_to pairs n ≡ Some id
    → (pair : Pair) × IsIn pair pairs × (pair.id ≡ id)
attached_in [] n id is = absurd cc
attached_in (pair ∷ pairs) n id is =
    cond_both (pair.stamp.0 == n) (Some pair.id) (attached_to pairs n)
    (λ (o : Option CommandId). o ≡ Some id → (x : Pair) × IsIn x (pair ∷ pairs) × (x.id ≡ id))
    (λ y e. (pair, inl refl, (let same : pair.id ≡ id = cc in same)))
    (λ m e. let rest = attached_in pairs n id e in (rest.0, inr rest.1, rest.2)) is

-- a process with no step to make has told all its promises
told_all : (state : ProcessState) → cond (nat_lt state.told state.clock) (Some Announce) None ≡ None
    → state.clock ≤ state.told
told_all state still = by_test (nat_lt state.told state.clock) refl still
  where
    by_test : (b : Bool) → nat_lt state.told state.clock ≡ b → cond b (Some Announce) None ≡ None
        → state.clock ≤ state.told
    by_test true is e = absurd cc
    by_test false is e = ltb-false state.told state.clock is

module _ (script : Script) (older : List Entry) (run : IsTakenIn script older) (settled : Settled script older)
    (still : (a : ActorName) → is_known script a ≡ true → enabled (identity_in script a) (acts older a) ≡ None) where
  abbrev of : CommandId → Command
  of = command_in script.commands

  abbrev rule : QuorumRule
  rule = ring_rule script.topology

  -- a command that an executor has committed
  pub record IsCommittedHere (x : Site) (c : Committed) : Type 0 where
    pub ours : IsIn c.command script.commands
    pub submitted : IsSubmitted older c.command.id
    pub own : c.key.id ≡ c.command.id
    pub accesses : is_accessed script.topology.partitions c.command x.partition.0 ≡ true
    pub key : c.key ≡ final_key older c.key.id

  pub committed_here : (x : Site) (c : Committed) → IsIn c (executor_of script older x).committed → IsCommittedHere x c
  committed_here x c there =
      let state = executor_of script older x in
      let own = each_in (λ (d : Committed). IsOf script d.command × (d.key.id ≡ d.command.id)) state.committed c
      (committed_provenance script older run.history x) there in
      let submitted = each_in (λ (d : Committed). IsSubmitted older d.command.id
      × (d.key.id ≡ d.command.id)) state.committed c
      (committed_submitted script run.accepted older run.history x) there in
      let told = each_in (CommittedMessage (IsSent older) script.topology x) state.committed c
      (knows script run.accepted older run.history settled older run.history (λ m s. s) x).committed there in
      record {
        ours = own.0;
        submitted = submitted.0;
        own = own.1;
        accesses = told.accesses;
        key = (committed_is_due script run.accepted older run.history settled older run.history
            (λ m s. s) x c there).key;
      }

  -- its stamp is that of each commit of the command
  stamp_is : (x : Site) (c : Committed) → IsIn c (executor_of script older x).committed → (m : Message) (t : ℕ)
      → IsSent older m → m.body ≡ MCommitted c.command (stamp t) → t ≡ c.key.stamp.0
  stamp_is x c there m t sent is =
      let told = each_in (CommittedMessage (IsSent older) script.topology x) (executor_of script older x).committed c
      (knows script run.accepted older run.history settled older run.history (λ n s. s) x).committed there in
      let a = sent_is_commit script older told.message c.command told.stamp run.history told.taken told.body in
      let b = sent_is_commit script older m c.command (stamp t) run.history sent is in
      sym b.stamp ∙ settled.agreed b.commit a.commit b.is_committed a.is_committed (b.id ∙ sym a.id) ∙ a.stamp
      ∙ sym (ap (λ (k : Key). k.stamp.0) told.key)

  -- what each rank promised up to its clock was told here
  told_here : (x : Site) → is_site_of script.topology x ≡ true → (rank n : ℕ) → IsFrom 1 script.topology.replicas rank
      → 1 ≤ n → n ≤ (process_at script run.accepted older (site x.partition.0 rank)).clock
      → IsToldBy (executor_of script older x).told rank n
  told_here x at rank n range low high =
      let place = site_is script.topology x at in
      let j : Site = site x.partition.0 rank in
      let at_j : is_site_of script.topology j ≡ true = site_known script.topology x.partition.0 rank place.0 range in
      let state : ProcessState = process_at script run.accepted older j in
      let all : state.clock ≤ state.told = told_all state (still (Process j) at_j) in
      let said = all_announced rule j (acts older (Process j)) n low (omega (arith, high, all)) in
      let m : Message = message (Process j) (Executor x) (MPromises said.lo said.hi said.pairs) in
      let sent : IsSent older m = acts_are_sent script older run.history j m (said.to_all x.rank.0 place.1) in
      let named : IsNamed script.topology x m =
      and_from (same_name (Executor x) (Executor x) && is_name_of script.topology (Process j)) true
      (and_from (same_name (Executor x) (Executor x)) (is_name_of script.topology (Process j))
      (same_name_refl (Executor x)) at_j) refl in
      record {
        telling = record { rank = rank; lo = said.lo; hi = said.hi; attached = said.pairs };
        there = all_heeded script.topology x (acts older (Executor x)) m (run.took m sent) named refl;
        rank_is = refl;
        above = said.above;
        within = said.within;
      }

  -- whatever a rank's number is attached to is committed here
  owned_here : (x : Site) → is_site_of script.topology x ≡ true → (rank n : ℕ) (id : CommandId)
      → IsFrom 1 script.topology.replicas rank → final_owner script older x.partition.0 rank n ≡ Some id
      → has same_id id (committed_ids (executor_of script older x)) ≡ true
  owned_here x at rank n id range is =
      let place = site_is script.topology x at in
      let j : Site = site x.partition.0 rank in
      let at_j : is_site_of script.topology j ≡ true = site_known script.topology x.partition.0 rank place.0 range in
      let state : ProcessState = process_at script run.accepted older j in
      let pair = attached_in state.attached n id is in
      let whole = sound script run.accepted older run.history j at_j in
      let facts : FactsAt script of older j =
      run_holds script of run.accepted (command_in_names script run.accepted) older run.history j at_j in
      let proposed : is_none (state.sheets id).proposal ≡ false =
      subst (λ (i : CommandId). is_none (state.sheets i).proposal ≡ false) pair.2
      (each_in (λ (q : Pair). is_none
      (state.sheets q.id).proposal ≡ false) state.attached pair.0 whole.proposed pair.1) in
      let kept = (all_standing rule j of (run.here j at_j) run.accepted.shape (acts older (Process j))
      (run.genuine j at_j) id).kept proposed in
      by_command (state.sheets id).command kept (whole.sheets id).command (facts.sheets id).command
      (kept_submitted script run.accepted older run.history j id)
    where
      by_command : (o : Option Command) → is_some o ≡ true → IfAny (IsCommandHere script x.partition.0) o
          → KeepsCommand of id o → Keeps (λ c. IsSubmitted older c.id) id o
          → has same_id id (committed_ids (executor_of script older x)) ≡ true
      by_command None some here keeps submitted = absurd cc
      by_command (Some c) some here keeps submitted =
          subst (λ (i : CommandId). has same_id i (committed_ids (executor_of script older x)) ≡ true) keeps.1
          (has_committed script older run c here.ours submitted.0 x at here.accesses)

  -- what is committed is stable
  stable_here : (x : Site) → is_site_of script.topology x ≡ true → (c : Committed)
      → IsIn c (executor_of script older x).committed
      → is_stable script.topology (executor_of script older x).told (committed_ids (executor_of script older x))
      c.key.stamp.0 ≡ true
  stable_here x at c there =
      let place = site_is script.topology x at in
      let here = committed_here x c there in
      let state = executor_of script older x in
      let owner = final_owner script older x.partition.0 in
      let all_true : Each (IsTrueTelling owner) state.told =
      each_weaker (PromisesMessage (IsSent older) script.topology x) (IsTrueTelling owner)
      (tellings_are_true script run.accepted older run.history settled older run.history (λ m s. s) x) state.told
      (knows script run.accepted older run.history settled older run.history (λ m s. s) x).told in
      all_stable owner state.told (committed_ids state) all_true script.topology c.key.stamp.0
      (omega (arith, run.accepted.shape.some_replicas))
      (λ rank n range within.
      let j : Site = site x.partition.0 rank in
      let at_j : is_site_of script.topology j ≡ true = site_known script.topology x.partition.0 rank place.0 range in
      let by = committed_by script older run c.command here.ours here.submitted j at_j here.accesses in
      let same : by.final ≡ c.key.stamp.0 = stamp_is x c there _ by.final by.sent refl in
      told_here x at rank n range within.0 (omega (arith, within.1, same, by.low)))
      (λ rank n id range within is. owned_here x at rank n id range is)

  -- one identifier, one command
  one_command : (c d : Command) → IsIn c script.commands → IsIn d script.commands → c.id ≡ d.id → c ≡ d
  one_command c d c_in d_in same =
      command_in_names script run.accepted c c_in ∙ ap (λ (i : CommandId). of i) same
      ∙ sym (command_in_names script run.accepted d d_in)

  others_listed : (c : Command) (p q : ℕ) → IsIn q (accessed script.topology c) → q ≢ p
      → IsIn q (others_accessed script.topology c p)
  others_listed c p q among apart =
      in_filter (λ (x : ℕ). not (x == p)) (accessed script.topology c) q among
      (not_same (q == p) refl)
    where
      not_same : (b : Bool) → (q == p) ≡ b → not b ≡ true
      not_same true is = absurd (apart (eqb-true q p is))
      not_same false is = refl

  declared_here : (x : Site) (c : Committed) → IsIn c (executor_of script older x).committed
      → has same_id c.key.id (executor_of script older x).executed ≡ true
      → is_undeclared (executor_of script older x) c.key.id
      (others_accessed script.topology c.command x.partition.0) ≡ false
  declared_here x c there executed =
      let here = committed_here x c there in
      let was = executed_was_ready script older run.history x c.key.id executed in
      let its = committed_here x was.command was.there in
      let same : was.command.command ≡ c.command =
      one_command was.command.command c.command its.ours here.ours (was.named ∙ here.own) in
      subst (λ (d : Command). is_undeclared (executor_of script older x) c.key.id
      (others_accessed script.topology d x.partition.0) ≡ false) same was.declared

  heard_here : (x y : Site) → is_site_of script.topology x ≡ true → is_site_of script.topology y ≡ true
      → (c : Committed)
      → IsIn c (executor_of script older x).committed
      → IsIn y.partition.0 (others_accessed script.topology c.command x.partition.0)
      → has same_id c.key.id (executor_of script older y).declared ≡ true
      → is_heard (executor_of script older x) c.key.id y.partition.0 ≡ true
  heard_here x y at_x at_y c there other declared =
      let here = committed_here x c there in
      let place = site_is script.topology x at_x in
      let told = (all_told script.topology y (acts older (Executor y))).declared c.key.id declared in
      let its = committed_here y told.committed told.there in
      let same : told.committed.command ≡ c.command =
      one_command told.committed.command c.command its.ours here.ours (told.named ∙ here.own) in
      let parts = filter_in (λ (z : ℕ). not (z == x.partition.0))
      (accessed script.topology c.command) y.partition.0 other in
      let apart : x.partition.0 ≢ y.partition.0 = (λ e. differ x.partition.0 y.partition.0 e parts.1) in
      let back : IsIn x.partition.0 (others_accessed script.topology told.committed.command y.partition.0) =
      subst (λ (d : Command). IsIn x.partition.0 (others_accessed script.topology d y.partition.0)) (sym same)
      (others_listed c.command y.partition.0 x.partition.0
      (accessed_listed script older run c.command x.partition.0 here.accesses) apart) in
      let m : Message = message (Executor y) (Executor x) (MStable c.key.id) in
      let sent : IsSent older m = executor_acts_are_sent script older run.history y m
      (told.told x.partition.0 x.rank.0 back place.1) in
      let named : IsNamed script.topology x m =
      and_from (same_name (Executor x) (Executor x) && is_name_of script.topology (Executor y)) true
      (and_from (same_name (Executor x) (Executor x)) (is_name_of script.topology (Executor y))
      (same_name_refl (Executor x)) at_y) refl in
      let heard = all_heeded script.topology x (acts older (Executor x)) m (run.took m sent) named
      (λ e. apart (sym e)) in
      any_in (λ (h : Heard). same_id h.id c.key.id && (h.partition == y.partition.0))
      (executor_of script older x).heard (record { id = c.key.id; partition = y.partition.0 }) heard
      (and_from (same_id c.key.id c.key.id) (y.partition.0 == y.partition.0) (same_id_refl c.key.id)
      (eq-eqb y.partition.0 y.partition.0 refl))
    where
      differ : (a b : ℕ) → a ≡ b → not (b == a) ≡ true → ⊥
      differ a b e n = absurd (let same : (b == a) ≡ true = eq-eqb b a (sym e) in cc)

  everywhere_here : (x y : Site) → is_site_of script.topology y ≡ true → (c : Committed)
      → IsIn c (executor_of script older x).committed → IsIn y.partition.0 (accessed script.topology c.command)
      → (d : Committed) × IsIn d (executor_of script older y).committed × (d.key ≡ c.key)
  everywhere_here x y at_y c there among =
      let here = committed_here x c there in
      let found = committed_at script older run c.command here.ours here.submitted y at_y
      (listed_accessed script older run c.command y.partition.0 among) in
      let its = committed_here y found.committed found.there in
      let same : found.committed.key.id ≡ c.key.id = found.named ∙ sym here.own in (
        found.committed,
        found.there,
        its.key ∙ ap (λ (i : CommandId). final_key older i) same ∙ sym here.key,
      )

  pub idle : AreIdle script.topology (sites_of script) (λ x. executor_of script older x)
  idle = record {
    still = λ x site. still (Executor x) (listed_is script run.accepted x site);
    stable = λ x c site there. stable_here x (listed_is script run.accepted x site) c there;
    accesses = λ x c site there.
        accessed_listed script older run c.command x.partition.0 (committed_here x c there).accesses;
    everywhere = λ x y c site_x site_y there among.
        everywhere_here x y (listed_is script run.accepted y site_y) c there among;
    one = λ x y c d site_x site_y c_there d_there same.
        let a = committed_here x c c_there in
        let b = committed_here y d d_there in
        one_command d.command c.command b.ours a.ours (sym b.own ∙ ap (λ (k : Key). k.id) same ∙ a.own);
    declared = λ x c site there executed. declared_here x c there executed;
    heard = λ x y c site_x site_y there other declared.
        heard_here x y (listed_is script run.accepted x site_x)
        (listed_is script run.accepted y site_y) c there other declared;
    places = λ c q among. listed_place c q among;
  }
    where
      listed_place : (c : Command) (q : ℕ) → IsIn q (accessed script.topology c) → IsIn (site q 1) (sites_of script)
      listed_place c q among =
          let range = accessed_from script.topology.partitions c q run.accepted.shape.some_partition
          (listed_accessed script older run c q among) in
          site_listed script (site q 1) (site_known script.topology q 1 range
          (omega arith, omega (arith, run.accepted.shape.some_replicas)))
