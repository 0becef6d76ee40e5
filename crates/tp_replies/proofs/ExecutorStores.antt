-- Each executor's store is its partition's store after what it executed. Used for the results that executors send.
use Rattle.std.proofs.Common.{◌≡◌, ℕ, Bool, true, false, cond, List, [], ◌∷◌, ◌++◌, Option, Some, None, refl, sym, ap, subst, ◌∙◌}
use Rattle.std.specs.Prelude.{option_map, not, ◌==◌, ◌&&◌, ◌||◌}
use Rattle.std.proofs.lemmas.Bool.{cond_both}
use Rattle.tp_base.specs.Lists.{has}
use Rattle.tp_base.specs.Names.{same_id, same_name}
use Rattle.tp_base.proofs.SameNames.{same_name_is}
use Rattle.tp_base.specs.declared.names.ActorName.{ActorName}
use Rattle.tp_base.specs.declared.names.ActorName.TheVariants.{Executor}
use Rattle.tp_base.specs.declared.names.CommandId.{CommandId}
use Rattle.tp_base.specs.declared.names.Site.{Site}
use Rattle.tp_ops.specs.declared.command.Command.{Command}
use Rattle.tp_ops.specs.Parts.{ops_on}
use Rattle.tp_ops.specs.Store.{Contents, after_all, empty}
use Rattle.tp_rules.specs.Acts.{Took, Did}
use Rattle.tp_rules.specs.Addresses.{is_name_of, is_body_at, partition_of}
use Rattle.tp_rules.specs.Executor as executor
use Rattle.tp_rules.specs.Journal.{act_of, acts, output_at, with_act}
use Rattle.tp_rules.specs.Outcome.{at_end, executed_by, executions, ops_of}
use Rattle.tp_rules.specs.Runs.{IsFreeHistory, MayHappen}
use Rattle.tp_rules.specs.declared.event.Entry.{Entry}
use Rattle.tp_rules.specs.declared.event.Event.{Event}
use Rattle.tp_rules.specs.declared.event.Event.TheVariants.{Deliver, Dropped, Inner as OfItself}
use Rattle.tp_rules.specs.declared.event.Inner.TheVariants.{Declare, Execute}
use Rattle.tp_script.specs.Accepted.{IsAccepted}
use Rattle.tp_script.specs.declared.script.Script.{Script}
use Rattle.tp_topology.specs.Shape.{Shape}
use Rattle.tp_wire.specs.declared.message.Body.{Body}
use Rattle.tp_wire.specs.declared.message.Body.TheVariants.{MPromises, MCommitted, MStable}
use Rattle.tp_wire.specs.declared.message.Message.{Message}
use Rattle.tp_rules.proofs.ends.Unexecuted.{executor_of}
use Rattle.tp_replies.specs.Stores.{partition_contents}
use Rattle.tp_replies.specs.Stores.{partition_ops}
use Rattle.tp_rules.specs.Acts.{Act}
use Rattle.tp_ops.specs.declared.operation.Op.{Op}
use Rattle.tp_replies.proofs.Execution.{Execution, execution}

-- a step leaves the store and the list of executed commands as they are
record Stays (old new : executor.ExecutorState) : Type 0 where
  contents : new.contents ≡ old.contents
  executed : new.executed ≡ old.executed

stays : (state : executor.ExecutorState) → Stays state state
stays state = record { contents = refl; executed = refl }

row_stays : (me : Site) (from : ActorName) (body : Body) (state : executor.ExecutorState)
    → Stays state (executor.on_body me from body state).0
row_stays me from (MPromises lo hi pairs) state =
    cond_both (partition_of from == me.partition.0) _ (state, []) (λ (moved : executor.Step). Stays state moved.0)
    (λ t. record { contents = refl; executed = refl }) (λ f. stays state)
row_stays me from (MCommitted c t) state =
    cond_both (has same_id c.id (executor.committed_ids state)) (state, []) _
    (λ (moved : executor.Step). Stays state moved.0)
    (λ t. stays state) (λ f. record { contents = refl; executed = refl })
row_stays me from (MStable id) state =
    cond_both (not (partition_of from == me.partition.0)) _ (state, [])
    (λ (moved : executor.Step). Stays state moved.0)
    (λ t. record { contents = refl; executed = refl }) (λ f. stays state)
row_stays me from _ state = stays state

-- a delivery is such a step
message_stays : (shape : Shape) (me : Site) (m : Message) (state : executor.ExecutorState)
    → Stays state (executor.react shape me (Took m) state).0
message_stays shape me m state =
    cond_both (same_name m.to (Executor me) && is_name_of shape m.from && is_body_at shape me.partition.0 m.body)
    (executor.on_body me m.from m.body state) (state, []) (λ (moved : executor.Step). Stays state moved.0)
    (λ t. row_stays me m.from m.body state) (λ f. stays state)

-- a declaration is one too
declaration_stays : (shape : Shape) (me : Site) (o : Option executor.Committed) (state : executor.ExecutorState)
    → Stays state (executor.declare_least shape me o state).0
declaration_stays shape me None state = stays state
declaration_stays shape me (Some c) state = record { contents = refl; executed = refl }

-- a partition's store after one more command
contents_push : (script : Script) (p : ℕ) (ids : List CommandId) (id : CommandId) (f : Contents)
    → partition_contents script p (ids ++ id ∷ []) f
    ≡ after_all (partition_ops script p id) (partition_contents script p ids f)
contents_push script p [] id f = refl
contents_push script p (x ∷ xs) id f = contents_push script p xs id (after_all (partition_ops script p x) f)

has_push : (id x : CommandId) (ids : List CommandId)
    → has same_id id (ids ++ x ∷ []) ≡ (same_id id x || has same_id id ids)
has_push id x [] = refl
has_push id x (y ∷ ys) =
    ap (λ (b : Bool). same_id id y || b) (has_push id x ys) ∙ swap (same_id id y) (same_id id x) (has same_id id ys)
  where
    swap : (a b c : Bool) → (a || (b || c)) ≡ (b || (a || c))
    swap true true c = refl
    swap true false c = refl
    swap false true c = refl
    swap false false c = refl

-- an executor's state after these executions
pub record IsStore (script : Script) (s : Site) (state : executor.ExecutorState) (ids : List CommandId) : Type 0 where
  -- its store is its partition's after their operations
  pub contents : state.contents ≡ partition_contents script s.partition.0 ids empty
  -- it lists these commands as executed
  pub executed : (id : CommandId) → has same_id id state.executed ≡ has same_id id ids

module _ (script : Script) (accepted : IsAccepted script) where
  module _ (older : List Entry) (s : Site) where
    abbrev state : executor.ExecutorState
    state = executor_of script older s

    abbrev state_then : List Act → executor.ExecutorState
    state_then list = executor.state_after script.topology s list

    abbrev own_acts : List Act
    own_acts = acts older (Executor s)

    store_stays : (new : executor.ExecutorState) (ids : List CommandId) → Stays state new → IsStore script s state ids
        → IsStore script s new ids
    store_stays new ids h store = record {
      contents = h.contents ∙ store.contents;
      executed = λ id. ap (has same_id id) h.executed ∙ store.executed id;
    }

    -- an execution's operations go on the store
    store_executes : (id : CommandId) (ids : List CommandId) → Execution script older s id → IsStore script s state ids
        → IsStore script s (executor.react script.topology s (Did (Execute id)) state).0 (ids ++ id ∷ [])
    store_executes id ids x store =
        let p : ℕ = s.partition.0 in
        let ops : Option Command → List Op = λ o. ops_on script.topology.partitions p (ops_of o) in
        let ids_then : List CommandId = ids ++ id ∷ [] in
        subst (λ (o : Option executor.Committed). IsStore script s
        (executor.execute_least script.topology s o state).0 ids_then)
        (sym x.least) (record {
          contents =
              ap (λ (f : Contents). after_all (ops (Some x.next.command)) f) store.contents
              ∙ ap (λ (o : Option Command). after_all (ops o) (partition_contents script p ids empty)) (sym x.is)
              ∙ sym (contents_push script p ids id empty);
          executed = λ i.
              ap (λ (j : CommandId). same_id i j || has same_id i state.executed) x.named
              ∙ ap (λ (b : Bool). same_id i id || b) (store.executed i)
              ∙ sym (has_push i id ids);
        })

    event_stores : (event : Event) (ids : List CommandId) → IsFreeHistory script older
        → MayHappen script older (Executor s) event → IsStore script s state ids
        → IsStore script s (state_then (with_act (act_of older event) own_acts)) (at_end ids (executed_by event))
    event_stores (Deliver entry place) ids history may store = of_output (output_at older entry place)
      where
        of_output : (o : Option Message) → IsStore script s (state_then (with_act (option_map Took o) own_acts)) ids
        of_output None = store
        of_output (Some m) = store_stays _ ids (message_stays script.topology s m state) store
    event_stores (OfItself (Execute id)) ids history may store =
        store_executes id ids (execution script accepted older s id history may) store
    event_stores (OfItself (Declare id)) ids history may store =
        store_stays _ ids (declaration_stays script.topology s (executor.least (executor.waiting state)) state) store
    event_stores (OfItself _) ids history may store = store
    event_stores (Dropped entry place) ids history may store = store

  -- each executor's store after a whole journal
  pub store_of : (older : List Entry) → IsFreeHistory script older → (s : Site)
      → IsStore script s (executor_of script older s) (executions older s)
  store_of [] history s = record { contents = refl; executed = λ id. refl }
  store_of (e ∷ older) history s =
      let before = store_of older history.0 s in
      on_test (same_name e.actor (Executor s)) (λ t. event_stores older s e.event (executions older s) history.0
      (subst (λ (a : ActorName). MayHappen script older a e.event) (same_name_is e.actor (Executor s) t) history.1.may)
      before) before
    where
      list : List Act
      list = acts older (Executor s)

      list_then : List Act
      list_then = with_act (act_of older e.event) list

      ids : List CommandId
      ids = executions older s

      ids_then : List CommandId
      ids_then = at_end ids (executed_by e.event)

      on_test : (b : Bool) → (b ≡ true → IsStore script s (state_then older s list_then) ids_then)
          → IsStore script s (executor_of script older s) ids
          → IsStore script s (state_then older s (cond b list_then list)) (cond b ids_then ids)
      on_test true h before = h refl
      on_test false h before = before
