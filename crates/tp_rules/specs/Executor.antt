-- The rules of an executor.
use Rattle.std.specs.Prelude.{ℕ, ◌==◌, ◌&&◌, not, Bool, true, false, cond, List, [], ◌∷◌, Option, Some, None, map, filter}
use Rattle.std.specs.List.{flat_map, list_all, list_any}
use Rattle.tp_base.specs.Lists.{has}
use Rattle.tp_base.specs.Names.{same_id, same_name, key_lt}
use Rattle.tp_base.specs.declared.names.ActorName.{ActorName}
use Rattle.tp_base.specs.declared.names.ActorName.TheVariants.{Executor, Session}
use Rattle.tp_base.specs.declared.names.CommandId.{CommandId}
use Rattle.tp_base.specs.declared.names.Key.{Key}
use Rattle.tp_base.specs.declared.names.Pair.{Pair}
use Rattle.tp_base.specs.declared.names.Site.{Site}
use Rattle.tp_ops.specs.declared.command.Command.{Command}
use Rattle.tp_ops.specs.Parts.{ops_on}
use Rattle.tp_ops.specs.Store.{Contents, empty, after_all, answers_of}
use Rattle.tp_rules.specs.Acts.{Act, Took, Did}
use Rattle.tp_rules.specs.Addresses.{message, to_each, others_accessed, executors_of, rank_of, partition_of, is_name_of, is_body_at}
use Rattle.tp_rules.specs.declared.event.Inner.{Inner}
use Rattle.tp_rules.specs.declared.event.Inner.TheVariants.{Declare, Execute}
use Rattle.tp_topology.specs.Shape.{Shape}
use Rattle.tp_topology.specs.Stability.{Telling, is_stable}
use Rattle.tp_wire.specs.declared.message.Body.{Body}
use Rattle.tp_wire.specs.declared.message.Body.TheVariants.{MPromises, MCommitted, MStable, MResult}
use Rattle.tp_wire.specs.declared.message.Message.{Message}

-- a committed command, with the key that it is executed in the order of
pub record Committed : Type 0 where
  pub key : Key
  pub command : Command

-- a command that some executor of a partition declared stable
pub record Heard : Type 0 where
  pub id : CommandId
  pub partition : ℕ

-- each list the newest first
pub record ExecutorState : Type 0 where
  pub told : List Telling
  pub committed : List Committed
  pub executed : List CommandId
  pub declared : List CommandId
  pub heard : List Heard
  pub contents : Contents

abbrev pub start : ExecutorState
start = record { told = []; committed = []; executed = []; declared = []; heard = []; contents = empty }

-- the new state, and what is sent
abbrev pub Step : Type 0
Step = ExecutorState × List Message

abbrev pub committed_ids : ExecutorState → List CommandId
committed_ids state = map (λ c. c.key.id) state.committed

-- MPromises(lo, hi, pairs) from a process of this partition
abbrev pub on_promises : Site → ActorName → ℕ → ℕ → List Pair → ExecutorState → Step
on_promises me from lo hi pairs state = cond (partition_of from == me.partition.0)
    (record state { told = record { rank = rank_of from; lo = lo; hi = hi; attached = pairs } ∷ state.told }, [])
    (state, [])

-- MCommitted(c, t), where c isn't committed
abbrev pub on_committed : Command → ℕ → ExecutorState → Step
on_committed c t state = cond (has same_id c.id (committed_ids state))
    (state, [])
    (record state { committed = record { key = record { stamp = record { 0 = t }; id = c.id }; command = c } ∷ state.committed }, [])

-- MStable(id) from an executor of another partition
abbrev pub on_stable : Site → ActorName → CommandId → ExecutorState → Step
on_stable me from id state = cond (not (partition_of from == me.partition.0))
    (record state { heard = record { id = id; partition = partition_of from } ∷ state.heard }, [])
    (state, [])

-- the committed commands that aren't executed
abbrev pub waiting : ExecutorState → List Committed
waiting state = filter (λ c. not (has same_id c.key.id state.executed)) state.committed

abbrev pub lesser : Committed → Option Committed → Committed
lesser c None = c
lesser c (Some d) = cond (key_lt d.key c.key) d c

-- the one with the least key
abbrev pub least : List Committed → Option Committed
least [] = None
least (c ∷ cs) = Some (lesser c (least cs))

-- whether a command was heard from a partition
abbrev pub is_heard : ExecutorState → CommandId → ℕ → Bool
is_heard state id q = list_any (λ h. same_id h.id id && (h.partition == q)) state.heard

-- declared here, and heard from each of the other partitions that it accesses, if there are any
abbrev pub is_ready : ExecutorState → CommandId → List ℕ → Bool
is_ready state id [] = true
is_ready state id (q ∷ qs) = has same_id id state.declared && list_all (is_heard state id) (q ∷ qs)

abbrev pub may_execute : Shape → Site → ExecutorState → Committed → Bool
may_execute shape me state c =
    is_stable shape state.told (committed_ids state) c.key.stamp.0
    && is_ready state c.key.id (others_accessed shape c.command me.partition.0)

-- it accesses other partitions, and isn't declared here
abbrev pub is_undeclared : ExecutorState → CommandId → List ℕ → Bool
is_undeclared state id [] = false
is_undeclared state id (q ∷ qs) = not (has same_id id state.declared)

abbrev pub may_declare : Shape → Site → ExecutorState → Committed → Bool
may_declare shape me state c =
    is_stable shape state.told (committed_ids state) c.key.stamp.0
    && is_undeclared state c.key.id (others_accessed shape c.command me.partition.0)

-- a command that may be declared may not be executed
abbrev pub enabled_of : Shape → Site → ExecutorState → Option Committed → Option Inner
enabled_of shape me state None = None
enabled_of shape me state (Some c) = cond (may_declare shape me state c)
    (Some (Declare c.key.id))
    (cond (may_execute shape me state c) (Some (Execute c.key.id)) None)

-- the step of its own that an executor may make
abbrev pub enabled : Shape → Site → ExecutorState → Option Inner
enabled shape me state = enabled_of shape me state (least (waiting state))

-- MStable to all executors of each other partition that a command accesses
unfoldable pub declarations : Shape → Site → Command → List Message
declarations shape me c =
    to_each (Executor me) (flat_map (executors_of shape) (others_accessed shape c me.partition.0)) (MStable c.id)

abbrev pub declared : Shape → Site → Command → ExecutorState → Step
declared shape me c state = (record state { declared = c.id ∷ state.declared }, declarations shape me c)

abbrev pub declare_least : Shape → Site → Option Committed → ExecutorState → Step
declare_least shape me None state = (state, [])
declare_least shape me (Some c) state = declared shape me c.command state

-- Declare(id), where it may be entered: id is that of the least waiting command
abbrev pub on_declare : Shape → Site → ExecutorState → Step
on_declare shape me state = declare_least shape me (least (waiting state)) state

-- Execute: the partition's operations are applied, and the answers go to the session
abbrev pub executed : Shape → Site → Command → ExecutorState → Step
executed shape me c state =
    let ops = ops_on shape.partitions me.partition.0 c.ops in (
      record state { executed = c.id ∷ state.executed; contents = after_all ops state.contents },
      message (Executor me) (Session c.id.session) (MResult c.id me.partition (answers_of ops state.contents)) ∷ [],
    )

abbrev pub execute_least : Shape → Site → Option Committed → ExecutorState → Step
execute_least shape me None state = (state, [])
execute_least shape me (Some c) state = executed shape me c.command state

-- Execute(id), where it may be entered: id is that of the least waiting command
abbrev pub on_execute : Shape → Site → ExecutorState → Step
on_execute shape me state = execute_least shape me (least (waiting state)) state

-- the rule of each kind of message
abbrev pub on_body : Site → ActorName → Body → ExecutorState → Step
on_body me from (MPromises lo hi pairs) state = on_promises me from lo hi pairs state
on_body me from (MCommitted c t) state = on_committed c t.0 state
on_body me from (MStable id) state = on_stable me from id state
on_body me from _ state = (state, [])

-- a message to another actor, or that names what is outside the shape, changes nothing and sends nothing
abbrev pub on_message : Shape → Site → Message → ExecutorState → Step
on_message shape me m state =
    cond (same_name m.to (Executor me) && is_name_of shape m.from && is_body_at shape me.partition.0 m.body)
    (on_body me m.from m.body state)
    (state, [])

abbrev pub on_inner : Shape → Site → Inner → ExecutorState → Step
on_inner shape me (Declare id) state = on_declare shape me state
on_inner shape me (Execute id) state = on_execute shape me state
on_inner shape me _ state = (state, [])

abbrev pub react : Shape → Site → Act → ExecutorState → Step
react shape me (Took m) state = on_message shape me m state
react shape me (Did inner) state = on_inner shape me inner state

-- after a list of acts, the newest first
abbrev pub state_after : Shape → Site → List Act → ExecutorState
state_after shape me [] = start
state_after shape me (act ∷ before) = (react shape me act (state_after shape me before)).0
