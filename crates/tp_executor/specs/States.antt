-- Where an executor stands: its fields against the state of the rules.
use Rattle.std.specs.Prelude.{◌≡◌, List, map}
use Rattle.tp_base.specs.Lists.{Each}
use Rattle.tp_mstable.specs.Declarations.{Calls as Declarations, Keeps}
use Rattle.tp_promise.specs.Books.{IsBook}
use Rattle.tp_queue.specs.Waiting.{Calls, IsAfter}
use Rattle.tp_rules.specs.Acts.{Act, Identity, ExecutorAt}
use Rattle.tp_rules.specs.Executor.{ExecutorState, committed_ids, state_after}
use Rattle.tp_store.specs.Values.{contents_of}
use Rattle.tp_executor.specs.declared.executor.Executor.{Executor}

-- what was declared and heard, as calls of a table of it
abbrev pub declarations_of : ExecutorState → Declarations
declarations_of state = record { sent = state.declared; heard = map (λ h. record { id = h.id; partition = h.partition }) state.heard }

-- what is committed was put into a queue, and what is executed was taken out of it
abbrev pub calls_of : ExecutorState → Calls
calls_of state = record { put = map (λ c. record { key = c.key; command = c.command }) state.committed; taken = state.executed }

abbrev pub identity : Executor → Identity
identity e = ExecutorAt e.topology e.site

-- an executor's fields say what a state of the rules says
pub record IsState (e : Executor) (state : ExecutorState) : Type 0 where
  pub book : IsBook e.book state.told (committed_ids state)
  pub queue : IsAfter e.queue (calls_of state)
  pub contents : contents_of e.store ≡ state.contents
  pub declared : Keeps e.declared (declarations_of state)
  pub keys : Each (λ c. c.key.id ≡ c.command.id) state.committed

abbrev pub Stands : Executor → List Act → Type 0
Stands e acts = IsState e (state_after e.topology e.site acts)
