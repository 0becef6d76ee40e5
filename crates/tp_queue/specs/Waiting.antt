-- Which commands wait, of those that were put into a queue and taken out of it.
use Rattle.std.specs.Prelude.{◌≡◌, ◌↔◌, ◌⊎◌, not, Bool, true, cond, List, [], ◌∷◌, Option, Some, None, filter}
use Rattle.std.specs.List.{list_any}
use Rattle.tp_base.specs.declared.names.CommandId.{CommandId}
use Rattle.tp_base.specs.declared.names.Key.{Key}
use Rattle.tp_base.specs.Lists.{Each, IsIn, has}
use Rattle.tp_base.specs.Names.{same_id, key_lt}
use Rattle.tp_ops.specs.declared.command.Command.{Command}
use Rattle.tp_queue.specs.declared.queue.Queue.{Queue}

-- a command, with the key that it is executed in the order of
pub record Entry : Type 0 where
  pub key : Key
  pub command : Command

-- what was put, where its identifier was new, and whose were taken; each list the newest first
pub record Calls : Type 0 where
  pub put : List Entry
  pub taken : List CommandId

-- with nothing put
abbrev pub none : Calls
none = record { put = []; taken = [] }

-- whether an identifier was ever put
abbrev pub was_put : CommandId → Calls → Bool
was_put id calls = list_any (λ e. same_id e.key.id id) calls.put

-- what was put and not taken
abbrev pub left : Calls → List Entry
left calls = filter (λ e. not (has same_id e.key.id calls.taken)) calls.put

abbrev pub with_put : Bool → Entry → Calls → Calls
with_put new entry calls = cond new (record { put = entry ∷ calls.put; taken = calls.taken }) calls

abbrev pub with_taken : Option Entry → Calls → Calls
with_taken None calls = calls
with_taken (Some entry) calls = record { put = calls.put; taken = entry.key.id ∷ calls.taken }

-- the entry with the least key, None of no entries
abbrev pub IsLeast : Option Entry → List Entry → Type 0
IsLeast None entries = entries ≡ []
IsLeast (Some least) entries = IsIn least entries × Each (λ e. (e ≡ least) ⊎ (key_lt least.key e.key ≡ true)) entries

-- the queue is as the calls left it
pub record IsAfter (q : Queue) (calls : Calls) : Type 0 where
  pub ids : (id : CommandId) → has same_id id q.ids.keys ≡ was_put id calls
  pub waiting : (e : Entry) → IsIn e (left calls) ↔ IsIn (e.key, e.command) q.waiting.entries
  pub once : (a b : Entry) → IsIn a calls.put → IsIn b calls.put → a.key.id ≡ b.key.id → a ≡ b
  pub taken : (id : CommandId) → has same_id id calls.taken ≡ true → was_put id calls ≡ true
