-- What answers a command: an execution at one partition, and one at each partition that it accesses.
use Rattle.std.specs.Prelude.{ℕ, ◌≡◌, true, false, List, [], ◌∷◌, ◌++◌, Some}
use Rattle.std.specs.List.{list_any}
use Rattle.tp_base.specs.Lists.{has, IsPrefixOf}
use Rattle.tp_base.specs.Names.{same_id}
use Rattle.tp_base.specs.declared.names.CommandId.{CommandId}
use Rattle.tp_base.specs.declared.names.Site.{Site}
use Rattle.tp_ops.specs.declared.command.Command.{Command}
use Rattle.tp_ops.specs.declared.operation.Answer.{Answer}
use Rattle.tp_ops.specs.Parts.{is_on, merged}
use Rattle.tp_ops.specs.Store.{answers_of, empty}
use Rattle.tp_rules.specs.Outcome.{command_of, executions}
use Rattle.tp_rules.specs.declared.event.Entry.{Entry}
use Rattle.tp_script.specs.declared.script.Script.{Script}
use Rattle.tp_replies.specs.Stores.{partition_contents, partition_ops}
use Rattle.tp_topology.specs.Shape.{is_site_of}

-- an executor of a partition executed a command for the first time, with these answers
pub record IsExecuted (script : Script) (older : List Entry) (id : CommandId) (p : ℕ)
    (answers : List Answer) : Type 0 where
  -- the executor's site, one of the script's and of the partition
  pub site : Site
  pub known : is_site_of script.topology site ≡ true
  pub partition : site.partition.0 ≡ p
  -- what it had executed before
  pub before : List CommandId
  pub prefix : IsPrefixOf (before ++ id ∷ []) (executions older site)
  pub fresh : has same_id id before ≡ false
  -- the answers are those of the partition's store after that
  pub answered : answers ≡ answers_of (partition_ops script p id) (partition_contents script p before empty)

-- each partition that a command accesses executed it, and their answers merge to these
pub record IsAnswered (script : Script) (older : List Entry) (id : CommandId) (answers : List Answer) : Type 0 where
  -- the command of the identifier
  pub command : Command
  pub is : command_of script id ≡ Some command
  -- each partition's answers
  pub parts : ℕ → List Answer
  pub executed : (p : ℕ) → list_any (is_on script.topology.partitions p) command.ops ≡ true
      → IsExecuted script older id p (parts p)
  pub answered : answers ≡ merged script.topology.partitions command.ops parts
