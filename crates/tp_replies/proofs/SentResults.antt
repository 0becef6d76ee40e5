-- Each result that was sent tells of an execution by its sender. Used for replies, for results and for sessions.
use Rattle.std.proofs.Common.{◌≡◌, ℕ, inl, inr, true, List, [], ◌∷◌, ◌++◌, Option, Some, None, refl, sym, ap, subst, ◌∙◌}
use Rattle.std.specs.Prelude.{option_map}
use Rattle.std.proofs.lemmas.Bool.{cond_both, cond-true}
use Rattle.tp_base.specs.Lists.{IsIn, IsPrefixOf}
use Rattle.tp_base.specs.Names.{same_name}
use Rattle.tp_base.proofs.Each.{each_in}
use Rattle.tp_base.proofs.Members.{in_one}
use Rattle.tp_base.proofs.Prefixes.{prefix_self, prefix_then}
use Rattle.tp_base.proofs.SameNames.{same_name_refl}
use Rattle.tp_base.specs.declared.names.ActorName.{ActorName}
use Rattle.tp_base.specs.declared.names.ActorName.TheVariants.{Process, Executor, Session}
use Rattle.tp_base.specs.declared.names.CommandId.{CommandId}
use Rattle.tp_base.specs.declared.names.PartitionId.{PartitionId}
use Rattle.tp_base.specs.declared.names.Site.{Site}
use Rattle.tp_facts.proofs.Senders.{output_sender, may_send}
use Rattle.tp_ops.specs.declared.command.Command.{Command}
use Rattle.tp_ops.specs.declared.operation.Answer.{Answer}
use Rattle.tp_ops.specs.Parts.{ops_on}
use Rattle.tp_ops.specs.Store.{Contents, answers_of, empty}
use Rattle.tp_rules.specs.Acts.{Took}
use Rattle.tp_rules.specs.Executor as executor
use Rattle.tp_rules.specs.Journal.{act_of, is_known, output_at, IsSent}
use Rattle.tp_rules.specs.Outcome.{at_end, executed_by, executions, ops_of}
use Rattle.tp_rules.specs.Runs.{IsFreeHistory, MayHappen, outputs_by}
use Rattle.tp_rules.specs.declared.event.Entry.{Entry}
use Rattle.tp_rules.specs.declared.event.Event.{Event}
use Rattle.tp_rules.specs.declared.event.Event.TheVariants.{Deliver, Dropped, Inner as OfItself}
use Rattle.tp_rules.specs.declared.event.Inner.TheVariants.{Declare, Execute}
use Rattle.tp_script.specs.Accepted.{IsAccepted}
use Rattle.tp_script.specs.declared.script.Script.{Script}
use Rattle.tp_wire.specs.declared.message.Body.{Body}
use Rattle.tp_wire.specs.declared.message.Body.TheVariants.{MResult, MStable}
use Rattle.tp_wire.specs.declared.message.Message.{Message}
use Rattle.tp_rules.proofs.ends.LaterKinds.{executor_silent}
use Rattle.tp_rules.proofs.sent.SendsOfProcess.{each_to}
use Rattle.tp_rules.proofs.ends.Unexecuted.{executor_of}
use Rattle.tp_replies.specs.Executions.{IsExecuted}
use Rattle.tp_replies.specs.Stores.{partition_contents}
use Rattle.tp_replies.proofs.Execution.{Execution, execution}
use Rattle.tp_replies.proofs.ExecutorStores.{store_of}
use Rattle.tp_ops.specs.declared.operation.Op.{Op}
use Rattle.tp_topology.specs.Shape.{is_site_of}

-- an executor's order of executions only grows
executions_grow : (older : List Entry) (e : Entry) (s : Site)
    → IsPrefixOf (executions older s) (executions (e ∷ older) s)
executions_grow older e s =
    cond_both (same_name e.actor (Executor s)) (at_end (executions older s) (executed_by e.event)) (executions older s)
    (IsPrefixOf (executions older s)) (λ t. more (executed_by e.event)) (λ f. prefix_self (executions older s))
  where
    more : (o : Option CommandId) → IsPrefixOf (executions older s) (at_end (executions older s) o)
    more None = prefix_self (executions older s)
    more (Some id) = (id ∷ [], refl)

-- an execution stands at its end
executions_then : (older : List Entry) (e : Entry) (s : Site) (id : CommandId) → e.actor ≡ Executor s
    → e.event ≡ OfItself (Execute id) → executions (e ∷ older) s ≡ executions older s ++ id ∷ []
executions_then older e s id by is =
    cond-true (same_name e.actor (Executor s)) (at_end (executions older s) (executed_by e.event)) (executions older s)
    (ap (λ (a : ActorName). same_name a (Executor s)) by ∙ same_name_refl (Executor s))
    ∙ ap (λ (event : Event). at_end (executions older s) (executed_by event)) is

-- an execution, by the sender of its result
pub record IsResult (script : Script) (older : List Entry) (from : ActorName) (id : CommandId) (p : ℕ)
    (answers : List Answer) : Type 0 where
  -- the execution
  pub executed : IsExecuted script older id p answers
  -- its executor sent the result
  pub by : from ≡ Executor executed.site

-- it stays true when the journal grows
result_later : (script : Script) (older : List Entry) (e : Entry) (from : ActorName) (id : CommandId) (p : ℕ)
    (answers : List Answer) → IsResult script older from id p answers → IsResult script (e ∷ older) from id p answers
result_later script older e from id p answers result = let x = result.executed in record {
  executed = record {
    site = x.site;
    known = x.known;
    partition = x.partition;
    before = x.before;
    prefix = prefix_then (x.before ++ id ∷ []) (executions older x.site) (executions (e ∷ older) x.site) x.prefix
        (executions_grow older e x.site);
    fresh = x.fresh;
    answered = x.answered;
  };
  by = result.by;
}

module _ (script : Script) (accepted : IsAccepted script) (m : Message) (id : CommandId) (p : PartitionId)
    (answers : List Answer) (body : m.body ≡ MResult id p answers) where
  -- an entry of an executor that sends the result
  module _ (older : List Entry) (e : Entry) (history : IsFreeHistory script older) (s : Site)
      (by : e.actor ≡ Executor s) (known : is_site_of script.topology s ≡ true) where
    abbrev Tells : CommandId → PartitionId → Type 0
    Tells i q = IsResult script (e ∷ older) (Executor s) i q.0 answers

    -- where it executes a command, the result is that command's
    execution_tells : (i : CommandId) → e.event ≡ OfItself (Execute i) → Execution script older s i
        → IsIn m (executor.on_execute script.topology s (executor_of script older s)).1 → Tells id p
    execution_tells i is x there =
        let state = executor_of script older s in
        let ids : List CommandId = executions older s in
        let store = store_of script accepted older history s in
        let ops : Option Command → List Op = λ o. ops_on script.topology.partitions s.partition.0 (ops_of o) in
        let now : executions (e ∷ older) s ≡ ids ++ i ∷ [] = executions_then older e s i by is in
        let sent = in_one m _ (subst (λ (o : Option executor.Committed).
        IsIn m (executor.execute_least script.topology s o state).1) x.least there) in
        let told : MResult x.next.command.id s.partition (answers_of (ops (Some x.next.command)) state.contents)
        ≡ MResult id p answers =
        ap (λ (k : Message). k.body) (sym sent) ∙ body in
        let named : x.next.command.id ≡ id = cc in
        let here : s.partition ≡ p = cc in
        let same : answers_of (ops (Some x.next.command)) state.contents ≡ answers = cc in
        subst (Tells id) here (subst (λ (j : CommandId). Tells j s.partition) (sym x.named ∙ named) (record {
          executed = record {
            site = s;
            known = known;
            partition = refl;
            before = ids;
            prefix = subst (IsPrefixOf (ids ++ i ∷ [])) (sym now) (prefix_self (ids ++ i ∷ []));
            fresh = sym (store.executed i) ∙ x.fresh;
            answered =
                sym same
                ∙ ap (λ (f : Contents). answers_of (ops (Some x.next.command)) f) store.contents
                ∙ ap (λ (o : Option Command). answers_of (ops o) (partition_contents script s.partition.0 ids empty))
                (sym x.is);
          };
          by = refl;
        }))

    -- and where it does something else, it sends no result
    event_tells : (event : Event) → e.event ≡ event → MayHappen script older (Executor s) event
        → IsIn m (outputs_by script older (Executor s) (act_of older event)) → Tells id p
    unfolding executor.declarations
    event_tells (Deliver entry place) is may there = of_output (output_at older entry place) there
      where
        of_output : (o : Option Message) → IsIn m (outputs_by script older (Executor s) (option_map Took o))
            → Tells id p
        of_output None h = absurd h
        of_output (Some given) h =
            absurd (subst (IsIn m) (executor_silent script.topology s given (executor_of script older s)) h)
    event_tells (OfItself (Execute i)) is may there =
        execution_tells i is (execution script accepted older s i history may) there
    event_tells (OfItself (Declare i)) is may there =
        of_least (executor.least (executor.waiting (executor_of script older s))) there
      where
        of_least : (o : Option executor.Committed)
            → IsIn m (executor.declare_least script.topology s o (executor_of script older s)).1 → Tells id p
        of_least None h = absurd h
        of_least (Some c) h =
            let declares : m.body ≡ MStable c.command.id =
            each_in (λ (k : Message). k.body ≡ MStable c.command.id) _ m
            (each_to (λ (k : Message). k.body ≡ MStable c.command.id) (Executor s) _ (MStable c.command.id)
            (λ to. refl)) h in
            absurd cc
    event_tells (OfItself _) is may there = absurd there
    event_tells (Dropped entry place) is may there = absurd there

  -- each result that was sent tells of an execution by its sender
  pub result_is : (older : List Entry) → IsFreeHistory script older → IsSent older m
      → IsResult script older m.from id p.0 answers
  result_is [] history there = absurd there
  result_is (e ∷ older) history (inr there) =
      result_later script older e m.from id p.0 answers (result_is older history.0 there)
  result_is (e ∷ older) history (inl there) =
      let by = output_sender script older e m history.1 there in
      subst (λ (a : ActorName). IsResult script (e ∷ older) a id p.0 answers) (sym by.0)
      (by_actor e.actor refl (subst (λ (b : Body). may_send e.actor b ≡ true) body by.1))
    where
      by_actor : (a : ActorName) → e.actor ≡ a → may_send a (MResult id p answers) ≡ true
          → IsResult script (e ∷ older) a id p.0 answers
      by_actor (Process s) is may = absurd cc
      by_actor (Session s) is may = absurd cc
      by_actor (Executor s) is may = event_tells older e history.0 s is
          (subst (λ (a : ActorName). is_known script a ≡ true) is history.1.known) e.event refl
          (subst (λ (a : ActorName). MayHappen script older a e.event) is history.1.may)
          (subst (λ (a : ActorName). IsIn m (outputs_by script older a (act_of older e.event))) is
          (subst (IsIn m) history.1.outputs there))
