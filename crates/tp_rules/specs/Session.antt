-- The rules of a session.
use Rattle.std.specs.Prelude.{ℕ, ◌+◌, ◌==◌, ◌&&◌, nat_lt, nat_le, not, Bool, false, cond, List, [], ◌∷◌, Option, Some, None, is_some, is_none, length, map, replicate}
use Rattle.std.specs.List.{list_all}
use Rattle.tp_base.specs.Names.{same_name}
use Rattle.tp_base.specs.Tables.{nth, with_nth, kept_at}
use Rattle.tp_base.specs.declared.names.ActorName.TheVariants.{Process, Session}
use Rattle.tp_base.specs.declared.names.CommandId.{CommandId}
use Rattle.tp_ops.specs.declared.command.Command.{Command}
use Rattle.tp_ops.specs.declared.operation.Answer.{Answer}
use Rattle.tp_ops.specs.Parts.{answers_in, is_accessed, ops_on, merged}
use Rattle.tp_rules.specs.Acts.{Act, Took, Did, Client}
use Rattle.tp_rules.specs.Addresses.{site, to_each, accessed, is_name_of, is_body_at}
use Rattle.tp_rules.specs.declared.event.Inner.{Inner}
use Rattle.tp_rules.specs.declared.event.Inner.TheVariants.{Submit}
use Rattle.tp_topology.specs.Counting.{count_up_to}
use Rattle.tp_topology.specs.Shape.{Shape}
use Rattle.tp_wire.specs.declared.message.Body.{Body}
use Rattle.tp_wire.specs.declared.message.Body.TheVariants.{MSubmit, MResult}
use Rattle.tp_wire.specs.declared.message.Message.{Message}

-- how many commands were submitted, and for each command's number the answers kept, by partition
pub record SessionState : Type 0 where
  pub submitted : ℕ
  pub kept : ℕ → List (Option (List Answer))

abbrev pub start : Shape → SessionState
start shape = record { submitted = 0; kept = λ n. replicate shape.partitions None }

-- the new state, and what is sent
abbrev pub Step : Type 0
Step = SessionState × List Message

-- whether the answers of all partitions that a command accesses are kept
abbrev pub is_whole : Shape → List (Option (List Answer)) → Option Command → Bool
is_whole shape parts None = false
is_whole shape parts (Some c) = list_all (λ q. is_some (kept_at parts q)) (accessed shape c)

-- whether a session's command of this number is answered
abbrev pub is_answered : Shape → Client → SessionState → ℕ → Bool
is_answered shape client state n = is_whole shape (state.kept n) (nth client.commands n)

-- how many submitted commands aren't answered
abbrev pub open_count : Shape → Client → SessionState → ℕ
open_count shape client state = count_up_to (λ n. not (is_answered shape client state n)) state.submitted

-- the step of its own that a session may make: it submits its next command while fewer than its window are open
abbrev pub enabled : Shape → Client → SessionState → Option Inner
enabled shape client state =
    cond (nat_lt state.submitted (length client.commands) && nat_lt (open_count shape client state) client.window)
    (Some (Submit (state.submitted + 1)))
    None

-- the command, to the process of its home in each accessed partition
abbrev pub submissions : Shape → Client → Option Command → List Message
submissions shape client None = []
submissions shape client (Some c) =
    to_each (Session client.session) (map (λ p. Process (site p client.home)) (accessed shape c)) (MSubmit c)

-- Submit(n), where it may be entered
abbrev pub on_submit : Shape → Client → ℕ → SessionState → Step
on_submit shape client n state =
    (record { submitted = n; kept = state.kept }, submissions shape client (nth client.commands n))

-- whether a command's answers of a partition are as many as its operations there, and the first
abbrev pub is_awaited : Shape → ℕ → List Answer → List (Option (List Answer)) → Option Command → Bool
is_awaited shape q answers parts None = false
is_awaited shape q answers parts (Some c) =
    is_accessed shape.partitions c q && is_none (kept_at parts q) && (length answers == length (ops_on shape.partitions q c.ops))

-- MResult(id, q, answers), where id is submitted and its answers are awaited
abbrev pub on_result : Shape → Client → CommandId → ℕ → List Answer → SessionState → Step
on_result shape client id q answers state =
    cond ((id.session.0 == client.session.0) && nat_le id.number state.submitted
    && is_awaited shape q answers (state.kept id.number) (nth client.commands id.number))
    (record { submitted = state.submitted; kept = λ n. cond (n == id.number) (with_nth (state.kept n) q (Some answers)) (state.kept n) }, [])
    (state, [])

-- the rule of each kind of message
abbrev pub on_body : Shape → Client → Body → SessionState → Step
on_body shape client (MResult id q answers) state = on_result shape client id q.0 answers state
on_body shape client _ state = (state, [])

-- a message to another actor, or that names what is outside the shape, changes nothing and sends nothing
abbrev pub on_message : Shape → Client → Message → SessionState → Step
on_message shape client m state =
    cond (same_name m.to (Session client.session) && is_name_of shape m.from && is_body_at shape 0 m.body)
    (on_body shape client m.body state)
    (state, [])

abbrev pub on_inner : Shape → Client → Inner → SessionState → Step
on_inner shape client (Submit n) state = on_submit shape client n state
on_inner shape client _ state = (state, [])

abbrev pub react : Shape → Client → Act → SessionState → Step
react shape client (Took m) state = on_message shape client m state
react shape client (Did inner) state = on_inner shape client inner state

-- after a list of acts, the newest first
abbrev pub state_after : Shape → Client → List Act → SessionState
state_after shape client [] = start shape
state_after shape client (act ∷ before) = (react shape client act (state_after shape client before)).0

abbrev pub merged_reply : Shape → List (Option (List Answer)) → Option Command → Option (List Answer)
merged_reply shape parts None = None
merged_reply shape parts (Some c) = cond (is_whole shape parts (Some c)) (Some (merged shape.partitions c.ops (answers_in parts))) None

-- the reply to a command, where it is answered
abbrev pub reply : Shape → Client → SessionState → ℕ → Option (List Answer)
reply shape client state n = merged_reply shape (state.kept n) (nth client.commands n)
