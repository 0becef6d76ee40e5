-- A command that may be executed was declared in each other partition that it accesses.
-- Used for executions (EntriesKeepOrder): this is what ties the partitions together.
use Rattle.std.proofs.Common.{◌≡◌, ◌≢◌, ℕ, ◌≤◌, inl, inr, true, List, [], ◌∷◌, Option, Some, None, refl, sym, subst, ap, ◌∙◌}
use Rattle.std.specs.Prelude.{◌==◌, ◌&&◌, not}
use Rattle.std.specs.List.{list_all}
use Rattle.std.proofs.lemmas.Bool.{and_parts, eqb-true, ne_eqb, or_left, not_from_false}
use Rattle.tp_base.specs.Lists.{Each, IsIn, has}
use Rattle.tp_base.specs.Names.{same_id}
use Rattle.tp_base.proofs.Each.{each_in}
use Rattle.tp_base.proofs.SameNames.{same_id_is, same_id_refl}
use Rattle.tp_base.proofs.Tests.{all_in, some_in}
use Rattle.tp_base.specs.declared.names.ActorName.{ActorName}
use Rattle.tp_base.specs.declared.names.ActorName.TheVariants.{Process, Executor, Session}
use Rattle.tp_base.specs.declared.names.CommandId.{CommandId}
use Rattle.tp_base.specs.declared.names.Site.{Site}
use Rattle.tp_ops.specs.Parts.{is_accessed}
use Rattle.tp_rules.specs.Acts.{Act, Took, Did}
use Rattle.tp_rules.specs.Addresses.{partition_of, others_accessed, accessed}
use Rattle.tp_rules.specs.Journal.{acts, act_of, IsSent}
use Rattle.tp_rules.specs.Runs.{IsFreeHistory, outputs_by}
use Rattle.tp_rules.specs.declared.event.Entry.{Entry}
use Rattle.tp_rules.specs.declared.event.Inner.TheVariants.{Declare, Execute}
use Rattle.tp_script.specs.declared.script.Script.{Script}
use Rattle.tp_topology.specs.Counting.{up_to}
use Rattle.tp_topology.specs.Shape.{Shape}
use Rattle.tp_topology.specs.Stability.{is_stable}
use Rattle.tp_wire.specs.declared.message.Body.TheVariants.{MStable}
use Rattle.tp_wire.specs.declared.message.Message.{Message}
use Rattle.tp_rules.proofs.ActsMore.{acts_then}
use Rattle.tp_rules.proofs.ends.LaterKinds.{executor_silent}
use Rattle.tp_rules.proofs.sent.SendsOfProcess.{each_to}
use Rattle.tp_rules.proofs.lists.Tallies.{in_filter}
use Rattle.tp_rules.proofs.ends.Unexecuted.{executor_of, executor_remembers}
use Rattle.tp_rules.proofs.lists.UpTo.{in_up_to}
use Rattle.tp_facts.proofs.Commands.{accessed_from}
use Rattle.tp_facts.proofs.Senders.{may_send, output_sender}
use Rattle.tp_facts.proofs.Deliveries.{acts_were_sent}
use Rattle.tp_order.proofs.Knowledge.{StableMessage, knows_by_messages}
use Rattle.tp_rules.specs.Executor as executor

-- an executor of the partition has declared the command
pub record IsDeclaredIn (script : Script) (older : List Entry) (p : ℕ) (id : CommandId) : Type 0 where
  pub by : Site
  pub partition : by.partition.0 ≡ p
  pub is_declared : has same_id id (executor_of script older by).declared ≡ true

-- an MStable in a list of messages names a command that was declared
abbrev TellsDeclared : executor.ExecutorState → Message → Type 0
TellsDeclared state m = (id : CommandId) → m.body ≡ MStable id → has same_id id state.declared ≡ true

abbrev AllTellDeclared : executor.Step → Type 0
AllTellDeclared moved = Each (TellsDeclared moved.0) moved.1

declaration_tells : (shape : Shape) (me : Site) (o : Option executor.Committed) (state : executor.ExecutorState) →
    AllTellDeclared (executor.declare_least shape me o state)
unfolding executor.declarations
declaration_tells shape me None state = tt
declaration_tells shape me (Some c) state =
    each_to (TellsDeclared (executor.declared shape me c.command state).0) (Executor me) _ (MStable c.command.id)
    (λ to id body.
    let same : c.command.id ≡ id = cc in
    subst (λ (i : CommandId). has same_id i (c.command.id ∷ state.declared) ≡ true) same
    (or_left (same_id c.command.id c.command.id) (has same_id c.command.id state.declared) (same_id_refl c.command.id)))

execution_tells : (shape : Shape) (me : Site) (o : Option executor.Committed) (state : executor.ExecutorState) →
    AllTellDeclared (executor.execute_least shape me o state)
execution_tells shape me None state = tt
execution_tells shape me (Some c) state = (λ id body. absurd cc, tt)

act_tells : (shape : Shape) (me : Site) (act : Act) (state : executor.ExecutorState) →
    AllTellDeclared (executor.react shape me act state)
act_tells shape me (Took m) state =
    subst (Each (TellsDeclared (executor.react shape me (Took m) state).0)) (sym (executor_silent shape me m state)) tt
act_tells shape me (Did (Execute id)) state = execution_tells shape me (executor.least (executor.waiting state)) state
act_tells shape me (Did (Declare id)) state = declaration_tells shape me (executor.least (executor.waiting state)) state
act_tells shape me (Did _) state = tt

only_executors_declare : (a : ActorName) (id : CommandId) → may_send a (MStable id) ≡ true →
    (s : Site) × (a ≡ Executor s)
only_executors_declare (Process s) id may = absurd cc
only_executors_declare (Executor s) id may = (s, refl)
only_executors_declare (Session s) id may = absurd cc

-- who sends MStable has declared the command
sender_has_declared : (script : Script) (older : List Entry) (m : Message) (id : CommandId) →
    IsFreeHistory script older → IsSent older m → m.body ≡ MStable id →
    IsDeclaredIn script older (partition_of m.from) id
sender_has_declared script [] m id history sent body = absurd sent
sender_has_declared script (e ∷ older) m id history (inr before) body =
    let old = sender_has_declared script older m id history.0 before body in
    record {
      by = old.by;
      partition = old.partition;
      is_declared = (executor_remembers script older e old.by).declared id old.is_declared;
    }
sender_has_declared script (e ∷ older) m id history (inl here) body =
    let whom = output_sender script older e m history.1 here in
    let by = only_executors_declare e.actor id (sym (ap (may_send e.actor) body) ∙ whom.1) in
    let from : m.from ≡ Executor by.0 = whom.0 ∙ by.1 in
    let output = subst (λ (a : ActorName). IsIn m (outputs_by script older a (act_of older e.event))) by.1
    (subst (IsIn m) history.1.outputs here) in
    record {
      by = by.0;
      partition = ap partition_of (sym from);
      is_declared = of_act by.0 by.1 (act_of older e.event) refl output;
    }
  where
    of_act : (s : Site) → e.actor ≡ Executor s → (o : Option Act) → act_of older e.event ≡ o →
        IsIn m (outputs_by script older (Executor s) o) →
        has same_id id (executor_of script (e ∷ older) s).declared ≡ true
    of_act s actor None is output = absurd output
    of_act s actor (Some act) is output =
        let state = executor_of script older s in
        subst (λ (l : List Act). has same_id id (executor.state_after script.topology s l).declared ≡ true)
        (sym (acts_then older e (Executor s) act actor is))
        (each_in (TellsDeclared (executor.react script.topology s act state).0) _ m
        (act_tells script.topology s act state) output id body)

-- a command that was heard from a partition was declared there
heard_is_declared : (script : Script) (older : List Entry) (s : Site) (id : CommandId) (q : ℕ) →
    IsFreeHistory script older → executor.is_heard (executor_of script older s) id q ≡ true →
    IsDeclaredIn script older q id
heard_is_declared script older s id q history heard =
    let state = executor_of script older s in
    let knows =
    knows_by_messages (IsSent older) script.topology s (acts older (Executor s))
    (acts_were_sent (IsSent older) older (Executor s) (λ m sent. sent)) in
    let found = some_in (λ (x : executor.Heard). same_id x.id id && (x.partition == q)) state.heard heard in
    let parts = and_parts (same_id found.0.id id) (found.0.partition == q) found.2 in
    let told = each_in (StableMessage (IsSent older) script.topology s) state.heard found.0 knows.heard found.1 in
    let declared = sender_has_declared script older told.message found.0.id history told.taken told.body in
    record {
      by = declared.by;
      partition = declared.partition ∙ told.partition ∙ eqb-true found.0.partition q parts.1;
      is_declared = subst (λ (i : CommandId). has same_id i (executor_of script older declared.by).declared ≡ true)
          (same_id_is found.0.id id parts.0) declared.is_declared;
    }

-- a ready command was heard from each of the other partitions
ready_is_heard : (state : executor.ExecutorState) (id : CommandId) (qs : List ℕ) (q : ℕ) →
    executor.is_ready state id qs ≡ true → IsIn q qs → executor.is_heard state id q ≡ true
ready_is_heard state id [] q ready there = absurd there
ready_is_heard state id (x ∷ xs) q ready there =
    all_in (executor.is_heard state id) (x ∷ xs) q
    (and_parts (has same_id id state.declared) (list_all (executor.is_heard state id) (x ∷ xs)) ready).1 there

-- what may be executed was declared in each other partition that it accesses
pub executable_is_declared : (script : Script) (older : List Entry) (s : Site) (c : executor.Committed) (q : ℕ) →
    IsFreeHistory script older → 1 ≤ script.topology.partitions →
    executor.may_execute script.topology s (executor_of script older s) c ≡ true →
    is_accessed script.topology.partitions c.command q ≡ true → q ≢ s.partition.0 → IsDeclaredIn script older q c.key.id
executable_is_declared script older s c q history some may accesses apart =
    let state = executor_of script older s in
    let n = script.topology.partitions in
    let others = others_accessed script.topology c.command s.partition.0 in
    let known = accessed_from n c.command q some accesses in
    let is_other : IsIn q others =
    in_filter (λ (x : ℕ). not (x == s.partition.0)) (accessed script.topology c.command) q
    (in_filter (is_accessed n c.command) (up_to n) q (in_up_to n q known.0 known.1) accesses)
    (not_from_false _ (ne_eqb q s.partition.0 apart)) in
    let ready =
    (and_parts (is_stable script.topology state.told (executor.committed_ids state) c.key.stamp.0)
    (executor.is_ready state c.key.id others) may).1 in
    heard_is_declared script older s c.key.id q history (ready_is_heard state c.key.id others q ready is_other)
