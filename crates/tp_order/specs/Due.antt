-- Of a whole journal: which commands are due at a partition, by which keys, and who owns the numbers of its processes.
-- Of a part of it: which command comes next at a site.
use Rattle.std.specs.Prelude.{◌≡◌, ℕ, true, List, Option}
use Rattle.tp_base.specs.Lists.{IsIn}
use Rattle.tp_base.specs.Names.{key_lt}
use Rattle.tp_base.specs.declared.names.ActorName.TheVariants.{Process}
use Rattle.tp_base.specs.declared.names.CommandId.{CommandId}
use Rattle.tp_base.specs.declared.names.Key.{Key}
use Rattle.tp_base.specs.declared.names.Site.{Site}
use Rattle.tp_rules.specs.Addresses.{site}
use Rattle.tp_rules.specs.Journal.{acts, IsSent}
use Rattle.tp_rules.specs.Outcome.{Commit, commits, executions, command_of, accesses, key_in}
use Rattle.tp_rules.specs.Sheet.{ring_rule}
use Rattle.tp_rules.specs.declared.event.Entry.{Entry}
use Rattle.tp_script.specs.declared.script.Script.{Script}
use Rattle.tp_topology.specs.Stability.{attached_to}
use Rattle.tp_wire.specs.declared.message.Message.{Message}
use Rattle.tp_rules.specs.Process as process

-- a command that some process committed, and that accesses the partition
pub record IsDue (script : Script) (whole : List Entry) (p : ℕ) (id : CommandId) : Type 0 where
  pub commit : Commit
  pub is_committed : IsIn commit (commits whole)
  pub names_it : commit.id ≡ id
  pub accesses : accesses script p (command_of script id) ≡ true

-- a command's key with its final stamp
abbrev pub final_key : List Entry → CommandId → Key
final_key whole id = key_in (commits whole) id

-- the command that a number of a process is attached to in the end, if any
abbrev pub final_owner : Script → List Entry → ℕ → ℕ → ℕ → Option CommandId
final_owner script whole p rank n =
    let quorum_rule = ring_rule script.topology in
    attached_to (process.state_after quorum_rule (site p rank) (acts whole (Process (site p rank)))).attached n

-- a part of a journal: whatever was sent in it was sent in the whole
abbrev pub IsWithin : List Entry → List Entry → Type 0
IsWithin older whole = (m : Message) → IsSent older m → IsSent whole m

-- a command that comes next at a site: it is due and new there, and each due command with a smaller key is executed
pub record IsNext (script : Script) (whole older : List Entry) (s : Site) (id : CommandId) : Type 0 where
  pub is_due : IsDue script whole s.partition.0 id
  pub is_new : IsIn id (executions older s) → ⊥
  pub smaller_due_are_executed : (d : CommandId) → IsDue script whole s.partition.0 d →
      key_lt (final_key whole d) (final_key whole id) ≡ true → IsIn d (executions older s)
