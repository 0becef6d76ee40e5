-- The answers that the sessions were given first, kept by command and partition.
use Rattle.indexmap.specs.IndexMap.{IndexMap, get}
use Rattle.std.specs.Prelude.{◌≡◌, ◌≤◌, ℕ, List, Option, None, replicate, unwrap_or}
use Rattle.tp_base.specs.Names.{same_id}
use Rattle.tp_base.specs.Tables.{kept_at}
use Rattle.tp_base.specs.declared.names.CommandId.{CommandId}
use Rattle.tp_ops.specs.declared.operation.Answer.{Answer}
use Rattle.tp_rules.specs.Outcome.{first_result}
use Rattle.tp_rules.specs.declared.event.Entry.{Entry}

-- the answers of each partition, from 1
abbrev pub ByPartition : Type 0
ByPartition = List (Option (List Answer))

abbrev pub none_kept : ByPartition
none_kept = replicate 4 None

-- the answers of a partition for a command
abbrev pub answers_at : {S : Type 0} → IndexMap CommandId ByPartition S → CommandId → ℕ → Option (List Answer)
answers_at results id p = kept_at (unwrap_or (get same_id results id) none_kept) p

-- of each command and partition the first answers of a journal, the newest entry first
abbrev pub AreFirst : {S : Type 0} → List Entry → IndexMap CommandId ByPartition S → Type 0
AreFirst older results = (id : CommandId) (p : ℕ) → 1 ≤ p → p ≤ 4 → answers_at results id p ≡ first_result older id p

-- a table keeps the answers of partitions 1 to 4
abbrev pub AreKept : ByPartition → (ℕ → Option (List Answer)) → Type 0
AreKept table parts = (p : ℕ) → 1 ≤ p → p ≤ 4 → kept_at table p ≡ parts p
