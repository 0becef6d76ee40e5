-- Whether an executor may execute the next command, and if not, why.
use Rattle.std.specs.Prelude.{◌≡◌, ℕ, ◌≤◌, ◌<◌, not, true, false, List, find, Option, Some, None, Result, Ok, Err}
use Rattle.tp_base.specs.declared.names.CommandId.{CommandId}
use Rattle.tp_base.specs.declared.names.Site.{Site}
use Rattle.tp_rules.specs.Addresses.{others_accessed}
use Rattle.tp_rules.specs.Executor.{Committed, ExecutorState, committed_ids, is_heard, is_undeclared, least, may_execute, waiting}
use Rattle.tp_topology.specs.Shape.{Shape}
use Rattle.tp_topology.specs.Stability.{is_stable}
use Rattle.tp_executor.specs.declared.why.Why.{Why}
use Rattle.tp_executor.specs.declared.why.Why.TheVariants.{Nothing, NotStable, NotDeclared, Waits}

-- the greatest stable number
pub record IsThreshold (shape : Shape) (state : ExecutorState) (n : ℕ) : Type 0 where
  pub stable : is_stable shape state.told (committed_ids state) n ≡ true
  pub greatest : (stamp : ℕ) → is_stable shape state.told (committed_ids state) stamp ≡ true → stamp ≤ n

-- the first of some partitions that a command wasn't heard from
abbrev pub first_unheard : ExecutorState → CommandId → List ℕ → Option ℕ
first_unheard state id qs = find (λ q. not (is_heard state id q)) qs

-- the command may be executed, or this is the first that hinders it
abbrev pub IsAnswerFor : Shape → Site → ExecutorState → Committed → Result CommandId Why → Type 0
IsAnswerFor shape me state c (Ok id) = (id ≡ c.key.id) × (may_execute shape me state c ≡ true)
IsAnswerFor shape me state c (Err Nothing) = ⊥
IsAnswerFor shape me state c (Err (NotStable stamp threshold)) =
    (stamp ≡ c.key.stamp) × IsThreshold shape state threshold × (threshold < stamp.0)
IsAnswerFor shape me state c (Err NotDeclared) =
    (is_stable shape state.told (committed_ids state) c.key.stamp.0 ≡ true)
    × (is_undeclared state c.key.id (others_accessed shape c.command me.partition.0) ≡ true)
IsAnswerFor shape me state c (Err (Waits q)) =
    (is_stable shape state.told (committed_ids state) c.key.stamp.0 ≡ true)
    × (is_undeclared state c.key.id (others_accessed shape c.command me.partition.0) ≡ false)
    × (first_unheard state c.key.id (others_accessed shape c.command me.partition.0) ≡ Some q.0)

-- the answer of the least waiting command, or nothing where none waits
abbrev pub IsAnswerOf : Shape → Site → ExecutorState → Option Committed → Result CommandId Why → Type 0
IsAnswerOf shape me state None answer = answer ≡ Err Nothing
IsAnswerOf shape me state (Some c) answer = IsAnswerFor shape me state c answer

abbrev pub IsAnswer : Shape → Site → ExecutorState → Result CommandId Why → Type 0
IsAnswer shape me state answer = IsAnswerOf shape me state (least (waiting state)) answer
