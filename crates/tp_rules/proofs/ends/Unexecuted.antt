-- How many pairs of an executor and a command are not declared, or not executed: an entry never adds to them, a declaration
-- takes one of the former, and an execution one of the latter. Used for the end of runs.
use Rattle.std.proofs.Common.{◌≡◌, ℕ, ◌<◌, ◌≤◌, ◌⊎◌, inl, inr, true, false, List, [], ◌∷◌, Option, Some, None, map, refl, sym, ap, subst, ◌∙◌}
use Rattle.std.specs.Prelude.{◌==◌, ◌&&◌, not}
use Rattle.std.proofs.lemmas.Bool.{and_parts, cond_both, or_left, or_right, not-true, not_from_true, not_from_false, false_from_ne_true}
use Rattle.tp_base.specs.Lists.{IsIn, has}
use Rattle.tp_base.specs.Names.{key_lt, same_id, same_name}
use Rattle.tp_base.proofs.Each.{each_in}
use Rattle.tp_base.proofs.Options.{some_is}
use Rattle.tp_base.proofs.SameNames.{same_id_refl}
use Rattle.tp_base.specs.declared.names.ActorName.{ActorName}
use Rattle.tp_base.specs.declared.names.ActorName.TheVariants.{Executor}
use Rattle.tp_base.specs.declared.names.CommandId.{CommandId}
use Rattle.tp_base.specs.declared.names.Site.{Site}
use Rattle.tp_ops.specs.declared.command.Command.{Command}
use Rattle.tp_rules.specs.Acts.{Act, Took, Did}
use Rattle.tp_rules.specs.Addresses.{others_accessed, rank_of, partition_of, is_name_of, is_body_at}
use Rattle.tp_rules.specs.Executor as executor
use Rattle.tp_rules.specs.Journal.{act_of, acts, is_known}
use Rattle.tp_rules.specs.Left.{total, missing_at, undeclared, unexecuted}
use Rattle.tp_rules.specs.Pending.{sites_of}
use Rattle.tp_rules.specs.Runs.{MayHappen, FollowsRules, IsFreeHistory}
use Rattle.tp_rules.specs.declared.event.Entry.{Entry}
use Rattle.tp_rules.specs.declared.event.Event.TheVariants.{Inner as OfItself}
use Rattle.tp_rules.specs.declared.event.Inner.TheVariants.{Submit, Recover, Announce, Declare, Execute, Crash}
use Rattle.tp_script.specs.declared.script.Script.{Script}
use Rattle.tp_topology.specs.Shape.{Shape, is_site_of}
use Rattle.tp_topology.specs.Stability.{is_stable}
use Rattle.tp_wire.specs.declared.message.Body.{Body}
use Rattle.tp_wire.specs.declared.message.Body.TheVariants.{MSubmit, MPropose, MPayload, MProposeAck, MBump, MConsensus, MConsensusAck, MCommit, MRec, MRecAck, MPromises, MCommitted, MStable, MResult}
use Rattle.tp_rules.proofs.ActsMore.{acts_step, acts_then}
use Rattle.tp_rules.proofs.OwnSteps.{declare_may, execute_may}
use Rattle.tp_rules.proofs.sent.Provenance.{IsOf, committed_provenance}
use Rattle.tp_rules.proofs.lists.Tallies.{fewer, one_fewer, filter_in, lower_total, less_total}
use Rattle.tp_rules.proofs.ends.Unannounced.{site_listed}

-- each command of one list is in the other
abbrev pub Grows : List CommandId → List CommandId → Type 0
Grows before after = (id : CommandId) → has same_id id before ≡ true → has same_id id after ≡ true

-- nothing that was declared or executed is forgotten
pub record Remembers (before after : executor.ExecutorState) : Type 0 where
  pub declared : Grows before.declared after.declared
  pub executed : Grows before.executed after.executed

remembers_itself : (state : executor.ExecutorState) → Remembers state state
remembers_itself state = record { declared = λ id h. h; executed = λ id h. h }

row_remembers : (me : Site) (from : ActorName) (body : Body) (state : executor.ExecutorState) →
    Remembers state (executor.on_body me from body state).0
row_remembers me from (MPromises lo hi pairs) state =
    let next : executor.ExecutorState = record state { told = record { rank = rank_of from; lo = lo; hi = hi; attached = pairs } ∷ state.told } in
    cond_both (partition_of from == me.partition.0) (next, []) (state, []) (λ (moved : executor.Step). Remembers state moved.0)
    (λ e. record { declared = λ id h. h; executed = λ id h. h }) (λ e. remembers_itself state)
row_remembers me from (MCommitted c t) state =
    let next : executor.ExecutorState =
    record state { committed = record { key = record { stamp = record { 0 = t.0 }; id = c.id }; command = c } ∷ state.committed } in
    cond_both (has same_id c.id (executor.committed_ids state)) (state, []) (next, []) (λ (moved : executor.Step). Remembers state moved.0)
    (λ e. remembers_itself state) (λ e. record { declared = λ id h. h; executed = λ id h. h })
row_remembers me from (MSubmit c) state = remembers_itself state
row_remembers me from (MPropose c floor) state = remembers_itself state
row_remembers me from (MPayload c) state = remembers_itself state
row_remembers me from (MProposeAck id t) state = remembers_itself state
row_remembers me from (MCommit c q t) state = remembers_itself state
row_remembers me from (MBump id t) state = remembers_itself state
row_remembers me from (MConsensus c t b) state = remembers_itself state
row_remembers me from (MConsensusAck id b) state = remembers_itself state
row_remembers me from (MRec c b) state = remembers_itself state
row_remembers me from (MRecAck id t made a b) state = remembers_itself state
row_remembers me from (MStable id) state =
    let next : executor.ExecutorState = record state { heard = record { id = id; partition = partition_of from } ∷ state.heard } in
    cond_both (not (partition_of from == me.partition.0)) (next, []) (state, []) (λ (moved : executor.Step). Remembers state moved.0)
    (λ e. record { declared = λ id h. h; executed = λ id h. h }) (λ e. remembers_itself state)
row_remembers me from (MResult id q answers) state = remembers_itself state

execution_remembers : (shape : Shape) (me : Site) (o : Option executor.Committed) (state : executor.ExecutorState) →
    Remembers state (executor.execute_least shape me o state).0
execution_remembers shape me None state = remembers_itself state
execution_remembers shape me (Some c) state =
    record { declared = λ id h. h; executed = λ id h. or_right (same_id id c.command.id) (has same_id id state.executed) h }

declaration_remembers : (shape : Shape) (me : Site) (o : Option executor.Committed) (state : executor.ExecutorState) →
    Remembers state (executor.declare_least shape me o state).0
declaration_remembers shape me None state = remembers_itself state
declaration_remembers shape me (Some c) state =
    record { declared = λ id h. or_right (same_id id c.command.id) (has same_id id state.declared) h; executed = λ id h. h }

act_remembers : (shape : Shape) (me : Site) (act : Act) (state : executor.ExecutorState) → Remembers state (executor.react shape me act state).0
act_remembers shape me (Took m) state =
    cond_both (same_name m.to (Executor me) && is_name_of shape m.from && is_body_at shape me.partition.0 m.body)
    (executor.on_body me m.from m.body state) (state, []) (λ (moved : executor.Step). Remembers state moved.0)
    (λ e. row_remembers me m.from m.body state) (λ e. remembers_itself state)
act_remembers shape me (Did (Execute id)) state = execution_remembers shape me (executor.least (executor.waiting state)) state
act_remembers shape me (Did Announce) state = remembers_itself state
act_remembers shape me (Did (Submit n)) state = remembers_itself state
act_remembers shape me (Did (Recover id)) state = remembers_itself state
act_remembers shape me (Did (Declare id)) state = declaration_remembers shape me (executor.least (executor.waiting state)) state
act_remembers shape me (Did Crash) state = remembers_itself state

-- an executor's state after a journal
abbrev pub executor_of : Script → List Entry → Site → executor.ExecutorState
executor_of script older s = executor.state_after script.topology s (acts older (Executor s))

pub executor_remembers : (script : Script) (older : List Entry) (e : Entry) (s : Site) →
    Remembers (executor_of script older s) (executor_of script (e ∷ older) s)
executor_remembers script older e s =
    acts_step (λ (list : List Act). Remembers (executor_of script older s) (executor.state_after script.topology s list)) older e (Executor s)
    (remembers_itself (executor_of script older s))
    (λ act same is. act_remembers script.topology s act (executor_of script older s))

missing_falls : (script : Script) (before after : List CommandId) → Grows before after → missing_at script after ≤ missing_at script before
missing_falls script before after h = fewer (λ c. not (has same_id c.id before)) (λ c. not (has same_id c.id after)) script.commands
    (λ c there free. not_from_false (has same_id c.id before) (false_from_ne_true (has same_id c.id before)
    (λ t. let wrong : has same_id c.id after ≡ true = h c.id t in let right : has same_id c.id after ≡ false = not-true (has same_id c.id after) free in absurd cc)))

pub undeclared_stays : (script : Script) (older : List Entry) (e : Entry) → undeclared script (e ∷ older) ≤ undeclared script older
undeclared_stays script older e =
    lower_total (λ s. missing_at script (executor_of script older s).declared) (λ s. missing_at script (executor_of script (e ∷ older) s).declared)
    (sites_of script)
    (λ s there. missing_falls script (executor_of script older s).declared (executor_of script (e ∷ older) s).declared (executor_remembers script older e s).declared)

pub unexecuted_stays : (script : Script) (older : List Entry) (e : Entry) → unexecuted script (e ∷ older) ≤ unexecuted script older
unexecuted_stays script older e =
    lower_total (λ s. missing_at script (executor_of script older s).executed) (λ s. missing_at script (executor_of script (e ∷ older) s).executed)
    (sites_of script)
    (λ s there. missing_falls script (executor_of script older s).executed (executor_of script (e ∷ older) s).executed (executor_remembers script older e s).executed)

-- the least is one of them
lesser_is : (c : executor.Committed) (o : Option executor.Committed) → (executor.lesser c o ≡ c) ⊎ (o ≡ Some (executor.lesser c o))
lesser_is c None = inl refl
lesser_is c (Some d) = cond_both (key_lt d.key c.key) d c (λ (x : executor.Committed). (x ≡ c) ⊎ (Some d ≡ Some x)) (λ e. inr refl) (λ e. inl refl)

pub least_in : (cs : List executor.Committed) (c : executor.Committed) → executor.least cs ≡ Some c → IsIn c cs
least_in [] c e = absurd cc
least_in (x ∷ xs) c e =
    let same : executor.lesser x (executor.least xs) ≡ c = some_is e in
    elim (lesser_is x (executor.least xs)) [
      | inl first ↦ inl (sym same ∙ first)
      | inr later ↦ inr (least_in xs c (later ∙ ap (λ (y : executor.Committed). Some y) same))
    ]

-- where one of the lists of an executor has a command more
falls_by : (script : Script) (older : List Entry) (e : Entry) (s : Site) (list : executor.ExecutorState → List CommandId) (c : Command) →
    ((x : Site) → Grows (list (executor_of script older x)) (list (executor_of script (e ∷ older) x))) →
    is_site_of script.topology s ≡ true → IsOf script c → has same_id c.id (list (executor_of script older s)) ≡ false →
    list (executor_of script (e ∷ older) s) ≡ c.id ∷ list (executor_of script older s) →
    total (map (λ x. missing_at script (list (executor_of script (e ∷ older) x))) (sites_of script))
    < total (map (λ x. missing_at script (list (executor_of script older x))) (sites_of script))
falls_by script older e s list c grows listed of_script absent state =
    let before = list (executor_of script older s) in
    let after = list (executor_of script (e ∷ older) s) in
    let there : has same_id c.id after ≡ true =
    ap (has same_id c.id) state ∙ or_left (same_id c.id c.id) (has same_id c.id before) (same_id_refl c.id) in
    let here : missing_at script after < missing_at script before =
    one_fewer (λ d. not (has same_id d.id before)) (λ d. not (has same_id d.id after)) script.commands c
    (λ d is free. not_from_false (has same_id d.id before) (false_from_ne_true (has same_id d.id before)
    (λ t. let wrong : has same_id d.id after ≡ true = grows s d.id t in let right : has same_id d.id after ≡ false = not-true (has same_id d.id after) free in absurd cc)))
    of_script (not_from_false (has same_id c.id before) absent) (not_from_true (has same_id c.id after) there) in
    less_total (λ x. missing_at script (list (executor_of script older x))) (λ x. missing_at script (list (executor_of script (e ∷ older) x)))
    (sites_of script) s
    (λ x is. missing_falls script (list (executor_of script older x)) (list (executor_of script (e ∷ older) x)) (grows x))
    (site_listed script s listed) here

-- the least waiting command is one of the script's, under its own identifier, and isn't executed
waiting_is : (script : Script) (older : List Entry) (s : Site) (c : executor.Committed) → IsFreeHistory script older →
    executor.least (executor.waiting (executor_of script older s)) ≡ Some c →
    IsOf script c.command × (c.key.id ≡ c.command.id) × (has same_id c.key.id (executor_of script older s).executed ≡ false)
waiting_is script older s c history least =
    let state = executor_of script older s in
    let waits =
    filter_in (λ (d : executor.Committed). not (has same_id d.key.id state.executed)) state.committed c
    (least_in (executor.waiting state) c least) in
    let own =
    each_in (λ (d : executor.Committed). IsOf script d.command × (d.key.id ≡ d.command.id)) state.committed c
    (committed_provenance script older history s) waits.0 in
    (own.0, own.1, not-true (has same_id c.key.id state.executed) waits.1)

-- an execution takes one away
pub unexecuted_falls : (script : Script) (older : List Entry) (e : Entry) (id : CommandId) → IsFreeHistory script older →
    FollowsRules script older e →
    e.event ≡ OfItself (Execute id) → unexecuted script (e ∷ older) < unexecuted script older
unexecuted_falls script older e id history follows event =
    let parts = execute_may script older e.actor id (subst (MayHappen script older e.actor) event follows.may) in
    let s = parts.0 in
    let c = parts.2 in
    let is = waiting_is script older s c history parts.3 in
    let list : acts (e ∷ older) (Executor s) ≡ Did (Execute id) ∷ acts older (Executor s) =
    acts_then older e (Executor s) (Did (Execute id)) parts.1 (ap (act_of older) event) in
    falls_by script older e s (λ (state : executor.ExecutorState). state.executed) c.command
    (λ x. (executor_remembers script older e x).executed)
    (sym (ap (is_known script) parts.1) ∙ follows.known) is.0
    (ap (λ (i : CommandId). has same_id i (executor_of script older s).executed) (sym is.1) ∙ is.2)
    (ap (λ (l : List Act). (executor.state_after script.topology s l).executed) list
    ∙ ap (λ (o : Option executor.Committed). (executor.execute_least script.topology s o (executor_of script older s)).0.executed) parts.3)

undeclared_says : (state : executor.ExecutorState) (id : CommandId) (qs : List ℕ) → executor.is_undeclared state id qs ≡ true →
    has same_id id state.declared ≡ false
undeclared_says state id [] h = absurd cc
undeclared_says state id (q ∷ qs) h = not-true (has same_id id state.declared) h

-- a declaration takes one away
pub undeclared_falls : (script : Script) (older : List Entry) (e : Entry) (id : CommandId) → IsFreeHistory script older →
    FollowsRules script older e →
    e.event ≡ OfItself (Declare id) → undeclared script (e ∷ older) < undeclared script older
undeclared_falls script older e id history follows event =
    let parts = declare_may script older e.actor id (subst (MayHappen script older e.actor) event follows.may) in
    let s = parts.0 in
    let c = parts.2 in
    let state = executor_of script older s in
    let is = waiting_is script older s c history parts.3 in
    let others : List ℕ = others_accessed script.topology c.command s.partition.0 in
    let new : has same_id c.key.id state.declared ≡ false =
    undeclared_says state c.key.id others
    (and_parts (is_stable script.topology state.told (executor.committed_ids state) c.key.stamp.0) (executor.is_undeclared state c.key.id others) parts.4).1 in
    let list : acts (e ∷ older) (Executor s) ≡ Did (Declare id) ∷ acts older (Executor s) =
    acts_then older e (Executor s) (Did (Declare id)) parts.1 (ap (act_of older) event) in
    falls_by script older e s (λ (state : executor.ExecutorState). state.declared) c.command
    (λ x. (executor_remembers script older e x).declared)
    (sym (ap (is_known script) parts.1) ∙ follows.known) is.0
    (ap (λ (i : CommandId). has same_id i state.declared) (sym is.1) ∙ new)
    (ap (λ (l : List Act). (executor.state_after script.topology s l).declared) list
    ∙ ap (λ (o : Option executor.Committed). (executor.declare_least script.topology s o state).0.declared) parts.3)
