-- What a journal comes to: commits, executions, the line of commands, and replies. The newest entry first.
use Rattle.std.specs.List.{list_all}
use Rattle.std.specs.Option.{option_or}
use Rattle.std.specs.Prelude.{ℕ, ◌==◌, ◌&&◌, ◌||◌, Bool, false, cond, List, [], ◌∷◌, ◌++◌, Option, Some, None, is_some, unwrap_or, filter, find, filter_map}
use Rattle.tp_base.specs.Lists.{has}
use Rattle.tp_base.specs.Names.{same_id, same_name}
use Rattle.tp_base.specs.declared.names.ActorName.{ActorName}
use Rattle.tp_base.specs.declared.names.ActorName.TheVariants.{Process, Executor, Session}
use Rattle.tp_base.specs.declared.names.CommandId.{CommandId}
use Rattle.tp_base.specs.declared.names.Key.{Key}
use Rattle.tp_base.specs.declared.names.Site.{Site}
use Rattle.tp_ops.specs.declared.command.Command.{Command}
use Rattle.tp_ops.specs.declared.operation.Answer.{Answer}
use Rattle.tp_ops.specs.declared.operation.Op.{Op}
use Rattle.tp_ops.specs.Parts.{first_of, is_accessed, is_on, merged, rest_of}
use Rattle.tp_ops.specs.Store.{Contents, empty, after_all, answers_of}
use Rattle.tp_rules.specs.Addresses.{accessed}
use Rattle.tp_rules.specs.Journal.{output_at}
use Rattle.tp_rules.specs.declared.event.Entry.{Entry}
use Rattle.tp_rules.specs.declared.event.Event.{Event}
use Rattle.tp_rules.specs.declared.event.Event.TheVariants.{Deliver, Inner as OfItself}
use Rattle.tp_rules.specs.declared.event.Inner.TheVariants.{Submit, Execute}
use Rattle.tp_script.specs.declared.script.Script.{Script}
use Rattle.tp_wire.specs.declared.message.Body.{Body}
use Rattle.tp_wire.specs.declared.message.Body.TheVariants.{MCommitted, MResult}
use Rattle.tp_wire.specs.declared.message.Message.{Message}

-- a process has committed a command at a stamp
pub record Commit : Type 0 where
  pub site : Site
  pub id : CommandId
  pub stamp : ℕ

abbrev pub commit_by : ActorName → Body → Option Commit
commit_by (Process s) (MCommitted c t) = Some (record { site = s; id = c.id; stamp = t.0 })
commit_by (Process s) _ = None
commit_by _ _ = None

-- each MCommitted that a process sent
abbrev pub commits : List Entry → List Commit
commits [] = []
commits (e ∷ older) = commits older ++ filter_map (λ m. commit_by e.actor m.body) e.outputs

abbrev pub executed_by : Event → Option CommandId
executed_by (OfItself (Execute id)) = Some id
executed_by _ = None

abbrev pub at_end : List CommandId → Option CommandId → List CommandId
at_end ids None = ids
at_end ids (Some id) = ids ++ id ∷ []

-- what a site's executor executed, in order
abbrev pub executions : List Entry → Site → List CommandId
executions [] s = []
executions (e ∷ older) s = cond (same_name e.actor (Executor s)) (at_end (executions older s) (executed_by e.event)) (executions older s)

abbrev pub once_at_end : List CommandId → Option CommandId → List CommandId
once_at_end ids None = ids
once_at_end ids (Some id) = cond (has same_id id ids) ids (ids ++ id ∷ [])

-- the commands in the order in which each was first executed
abbrev pub line : List Entry → List CommandId
line [] = []
line (e ∷ older) = once_at_end (line older) (executed_by e.event)

abbrev pub command_of : Script → CommandId → Option Command
command_of script id = find (λ c. same_id c.id id) script.commands

abbrev pub accesses : Script → ℕ → Option Command → Bool
accesses script p None = false
accesses script p (Some c) = is_accessed script.topology.partitions c p

-- a partition's share of a list of commands
unfoldable pub share : Script → ℕ → List CommandId → List CommandId
share script p ids = filter (λ id. accesses script p (command_of script id)) ids

-- the answers of a partition for a command, where a message tells them
abbrev pub result_by : CommandId → ℕ → Body → Option (List Answer)
result_by id p (MResult d q answers) = cond (same_id d id && (q.0 == p)) (Some answers) None
result_by id p _ = None

abbrev pub result_in : CommandId → ℕ → Option Message → Option (List Answer)
result_in id p None = None
result_in id p (Some m) = result_by id p m.body

-- the same, where an event delivers the message
abbrev pub result_at : List Entry → CommandId → ℕ → Event → Option (List Answer)
result_at older id p (Deliver entry place) = result_in id p (output_at older entry place)
result_at older id p _ = None

-- the first answers of a partition that were delivered to the command's session
abbrev pub first_result : List Entry → CommandId → ℕ → Option (List Answer)
first_result [] id p = None
first_result (e ∷ older) id p = cond (same_name e.actor (Session id.session))
    (option_or (first_result older id p) (result_at older id p e.event)) (first_result older id p)

abbrev pub reply_from : Script → (ℕ → Option (List Answer)) → Option Command → Option (List Answer)
reply_from script parts None = None
reply_from script parts (Some c) = cond (list_all (λ p. is_some (parts p)) (accessed script.topology c))
    (Some (merged script.topology.partitions c.ops (λ p. unwrap_or (parts p) []))) None

-- the reply to a command: the first answers of each partition that it accesses, merged, where all of them were delivered
abbrev pub reply_to : Script → List Entry → CommandId → Option (List Answer)
reply_to script older id = reply_from script (first_result older id) (command_of script id)

abbrev pub is_submit : ℕ → Event → Bool
is_submit n (OfItself (Submit m)) = n == m
is_submit n _ = false

abbrev pub is_submission_of : CommandId → Entry → Bool
is_submission_of id e = same_name e.actor (Session id.session) && is_submit id.number e.event

-- whether one command was answered before another was submitted
abbrev pub precedes : Script → List Entry → CommandId → CommandId → Bool
precedes script [] c d = false
precedes script (e ∷ older) c d = (is_submission_of d e && is_some (reply_to script older c)) || precedes script older c d

abbrev pub ops_of : Option Command → List Op
ops_of None = []
ops_of (Some c) = c.ops

-- the contents of one store after commands, in order
abbrev pub contents_after : Script → List CommandId → Contents → Contents
contents_after script [] contents = contents
contents_after script (id ∷ ids) contents = contents_after script ids (after_all (ops_of (command_of script id)) contents)

-- the commands before one
abbrev pub those_before : CommandId → List CommandId → List CommandId
those_before id [] = []
those_before id (x ∷ xs) = cond (same_id x id) [] (x ∷ those_before id xs)

-- the answers that one sequential store, empty at first, gives to a command where it executes the list in order
unfoldable pub sequential_answers : Script → List CommandId → CommandId → List Answer
sequential_answers script ids id =
    answers_of (ops_of (command_of script id)) (contents_after script (those_before id ids) empty)

-- of the answers to operations, those to the operations on a partition
abbrev pub answers_on : ℕ → ℕ → List Op → List Answer → List Answer
answers_on partitions p [] answers = []
answers_on partitions p (op ∷ ops) answers = cond (is_on partitions p op)
    (first_of answers ++ answers_on partitions p ops (rest_of answers))
    (answers_on partitions p ops (rest_of answers))

-- the stamp that a command was committed with
abbrev pub stamp_in : List Commit → CommandId → ℕ
stamp_in [] id = 0
stamp_in (c ∷ cs) id = cond (same_id c.id id) c.stamp (stamp_in cs id)

abbrev pub key_in : List Commit → CommandId → Key
key_in commits id = record { stamp = record { 0 = stamp_in commits id }; id = id }
