-- What every run is held to. No clock, promise, ballot or quorum is named here. The newest entry first.
use Rattle.std.specs.Prelude.{ℕ, ◌≡◌, true, List, ◌∷◌, ◌++◌, Some, reverse, map}
use Rattle.tp_base.specs.Lists.{has, IsIn, IsPrefixOf, Ascends}
use Rattle.tp_base.specs.Names.{same_id, key_lt}
use Rattle.tp_base.specs.declared.names.CommandId.{CommandId}
use Rattle.tp_base.specs.declared.names.PartitionId.{PartitionId}
use Rattle.tp_base.specs.declared.names.Site.{Site}
use Rattle.tp_ops.specs.declared.operation.Answer.{Answer}
use Rattle.tp_rules.specs.Outcome.{Commit, commits, executions, line, share, precedes, reply_to, command_of, ops_of, sequential_answers, answers_on, key_in, those_before}
use Rattle.tp_rules.specs.declared.event.Entry.{Entry}
use Rattle.tp_script.specs.declared.script.Script.{Script}
use Rattle.tp_topology.specs.Shape.{is_site_of}
use Rattle.tp_wire.specs.declared.message.Body.TheVariants.{MResult}
use Rattle.tp_wire.specs.declared.message.Message.{Message}

-- no two processes commit different stamps for one command
unfoldable pub CommitsAgree : List Entry → Type 0
CommitsAgree older = (a b : Commit) → IsIn a (commits older) → IsIn b (commits older) → a.id ≡ b.id → a.stamp ≡ b.stamp

-- some process has committed a command
abbrev pub IsCommitted : List Entry → CommandId → Type 0
IsCommitted older id = (a : Commit) × (IsIn a (commits older)) × (a.id ≡ id)

-- a partition's share of the line: each replica's executions begin it, its commands are committed, and their keys ascend
pub record IsShareOrdered (script : Script) (older : List Entry) (p : ℕ) : Type 0 where
  pub prefixes : (s : Site) → is_site_of script.topology s ≡ true → s.partition.0 ≡ p →
      IsPrefixOf (executions older s) (share script p (line older))
  pub committed : (id : CommandId) → IsIn id (share script p (line older)) → IsCommitted older id
  pub ascending : Ascends key_lt (map (key_in (commits older)) (share script p (line older)))

-- one line orders the executions of every replica
unfoldable pub LineOrders : Script → List Entry → Type 0
LineOrders script older = (p : ℕ) → IsShareOrdered script older p

-- what was answered before another was submitted stands before it in the line
unfoldable pub LineKeepsRealTime : Script → List Entry → Type 0
LineKeepsRealTime script older = (c d : CommandId) → precedes script older c d ≡ true →
    has same_id d (line older) ≡ true → has same_id c (those_before d (line older)) ≡ true

-- each answered command is in the line, and its reply is that of one sequential store executing the line
unfoldable pub RepliesAreSequential : Script → List Entry → Type 0
RepliesAreSequential script older = (c : CommandId) (answers : List Answer) → reply_to script older c ≡ Some answers →
    (has same_id c (line older) ≡ true) × (answers ≡ sequential_answers script (line older) c)

-- all four
pub record IsLawful (script : Script) (older : List Entry) : Type 0 where
  pub agreement : CommitsAgree older
  pub order : LineOrders script older
  pub real_time : LineKeepsRealTime script older
  pub replies : RepliesAreSequential script older

-- a journal in its own order keeps the four laws
abbrev pub KeepsLaws : Script → List Entry → Type 0
KeepsLaws script journal = IsLawful script (reverse journal)

-- beside the four: the command of each result that was sent is in the line, and the answers sent, delivered or not,
-- are those of one sequential store executing the line
unfoldable pub ResultsAreSequential : Script → List Entry → Type 0
ResultsAreSequential script older = (e : Entry) (m : Message) (id : CommandId) (p : PartitionId) (answers : List Answer) →
    IsIn e older → IsIn m e.outputs → m.body ≡ MResult id p answers →
    (has same_id id (line older) ≡ true) × (answers ≡
    answers_on script.topology.partitions p.0 (ops_of (command_of script id)) (sequential_answers script (line older) id))
