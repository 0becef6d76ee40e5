-- What was declared and heard, and a table of it.
use Rattle.std.specs.Prelude.{◌≡◌, ℕ, ◌==◌, ◌&&◌, Bool, List}
use Rattle.std.specs.List.{list_any}
use Rattle.tp_base.specs.declared.names.CommandId.{CommandId}
use Rattle.tp_base.specs.Lists.{has}
use Rattle.tp_base.specs.Names.{same_id}
use Rattle.tp_mstable.specs.declared.declared.Declared.{Declared}
use Rattle.tp_mstable.specs.declared.declared.Heard.{Heard as HeardEntry}

-- a command that an executor of a partition declared stable
pub record Heard : Type 0 where
  pub id : CommandId
  pub partition : ℕ

-- the calls that were made; each list the newest first
pub record Calls : Type 0 where
  pub sent : List CommandId
  pub heard : List Heard

-- whether a command was heard from a partition
abbrev pub is_heard : List Heard → CommandId → ℕ → Bool
is_heard heard id q = list_any (λ h. same_id h.id id && (h.partition == q)) heard

-- whether a table has a command of a partition
abbrev pub has_heard : List HeardEntry → CommandId → ℕ → Bool
has_heard entries id q = list_any (λ h. same_id h.id id && (h.partition.0 == q)) entries

-- the table has what the calls told
pub record Keeps (d : Declared) (calls : Calls) : Type 0 where
  pub sent : (id : CommandId) → has same_id id d.sent.keys ≡ has same_id id calls.sent
  pub heard : (id : CommandId) (q : ℕ) → has_heard d.heard.keys id q ≡ is_heard calls.heard id q
