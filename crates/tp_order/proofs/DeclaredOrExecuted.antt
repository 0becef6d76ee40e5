-- What an executor has declared or executed: it stays so, and an entry adds at most the one command that it declares or
-- executes. Used for the order of the line (InOrder, EntriesKeepOrder).
use Rattle.std.proofs.Common.{◌≡◌, ◌⊎◌, ℕ, inl, inr, true, List, ◌∷◌, sym, subst, ◌∙◌}
use Rattle.tp_base.specs.Lists.{IsIn, has}
use Rattle.tp_base.specs.Names.{same_id}
use Rattle.tp_base.proofs.Members.{in_push_cases, has_in, in_has}
use Rattle.tp_base.proofs.SameNames.{same_id_is, same_id_refl}
use Rattle.tp_base.specs.declared.names.CommandId.{CommandId}
use Rattle.tp_base.specs.declared.names.Site.{Site}
use Rattle.tp_rules.specs.Outcome.{executions}
use Rattle.tp_rules.specs.Runs.{IsFreeHistory}
use Rattle.tp_rules.specs.declared.event.Entry.{Entry}
use Rattle.tp_script.specs.declared.script.Script.{Script}
use Rattle.tp_rules.proofs.ends.Unexecuted.{executor_of, executor_remembers}
use Rattle.tp_order.proofs.Declarations.{IsDeclaredIn}
use Rattle.tp_order.proofs.EntryKinds.{QuietEntry, Declaration, Execution}
use Rattle.tp_order.proofs.Executions.{site_cases, executions_stay, execution_is_added, others_execute_nothing, executions_grow, least_is_waiting}
use Rattle.tp_rules.specs.Executor as executor

-- an executor has declared or executed the command
abbrev pub IsDeclaredOrExecuted : Script → List Entry → Site → CommandId → Type 0
IsDeclaredOrExecuted script older x id =
    IsIn id (executions older x) ⊎ (has same_id id (executor_of script older x).declared ≡ true)

-- some executor of the partition has
pub record IsDeclaredOrExecutedIn (script : Script) (older : List Entry) (p : ℕ) (id : CommandId) : Type 0 where
  pub by : Site
  pub partition : by.partition.0 ≡ p
  pub is_declared_or_executed : IsDeclaredOrExecuted script older by id

pub by_declaration : (script : Script) (older : List Entry) (p : ℕ) (id : CommandId) → IsDeclaredIn script older p id →
    IsDeclaredOrExecutedIn script older p id
by_declaration script older p id h =
    record { by = h.by; partition = h.partition; is_declared_or_executed = inr h.is_declared }

module _ (script : Script) (older : List Entry) (e : Entry) where
  -- it stays so
  pub stays_declared_or_executed : (p : ℕ) (id : CommandId) → IsDeclaredOrExecutedIn script older p id →
      IsDeclaredOrExecutedIn script (e ∷ older) p id
  stays_declared_or_executed p id h =
      record { by = h.by; partition = h.partition; is_declared_or_executed = stays h.is_declared_or_executed }
    where
      stays : IsDeclaredOrExecuted script older h.by id → IsDeclaredOrExecuted script (e ∷ older) h.by id
      stays (inl executed) = inl (executions_grow older e h.by id executed)
      stays (inr declared) = inr ((executor_remembers script older e h.by).declared id declared)

  -- an executor had declared or executed it before, or it is this executor and this command
  abbrev IsOldOr : Site → CommandId → Site → CommandId → Type 0
  IsOldOr s c x id = IsDeclaredOrExecuted script older x id ⊎ ((x ≡ s) × (id ≡ c))

  abbrev HasDeclared : CommandId → executor.ExecutorState → Type 0
  HasDeclared id state = has same_id id state.declared ≡ true

  -- a quiet entry adds nothing
  pub quiet_adds_none : QuietEntry script older e → (x : Site) (id : CommandId) →
      IsDeclaredOrExecuted script (e ∷ older) x id → IsDeclaredOrExecuted script older x id
  quiet_adds_none q x id (inl executed) = inl (subst (IsIn id) (executions_stay older e x q.executes_nothing) executed)
  quiet_adds_none q x id (inr declared) =
      inr (subst (λ (l : List CommandId). has same_id id l ≡ true) (q.states_stay x).declared declared)

  -- a declaration adds its command at its site
  pub declaration_adds_one : IsFreeHistory script older → (d : Declaration script older e) (x : Site) (id : CommandId) →
      IsDeclaredOrExecuted script (e ∷ older) x id → IsOldOr d.site d.command.key.id x id
  declaration_adds_one history d x id (inl executed) =
      inl (inl (subst (IsIn id) (executions_stay older e x d.executes_nothing) executed))
  declaration_adds_one history d x id (inr declared) = elim (site_cases x d.site) [
    | inl here ↦
        let now = subst (HasDeclared id) d.state_after
        (subst (λ (y : Site). HasDeclared id (executor_of script (e ∷ older) y)) here declared) in
        by_place here (has_in same_id same_id_is id (d.command.command.id ∷ declared_before) now)
    | inr apart ↦ inl (inr (subst (HasDeclared id) (d.others_stay x apart) declared))
  ]
    where
      declared_before : List CommandId
      declared_before = (executor_of script older d.site).declared

      by_place : x ≡ d.site → IsIn id (d.command.command.id ∷ declared_before) → IsOldOr d.site d.command.key.id x id
      by_place here (inl same) =
          inr (here, same ∙ sym (least_is_waiting script older d.site d.command history d.is_least).own_id)
      by_place here (inr later) =
          let before = in_has same_id same_id_refl id declared_before later in
          inl (inr (subst (λ (y : Site). HasDeclared id (executor_of script older y)) (sym here) before))

  -- an execution adds its command at its site
  pub execution_adds_one : (x : Execution script older e) (y : Site) (id : CommandId) →
      IsDeclaredOrExecuted script (e ∷ older) y id → IsOldOr x.site x.command.key.id y id
  execution_adds_one x y id (inl executed) = elim (site_cases y x.site) [
    | inl here ↦
        let now = subst (IsIn id) (execution_is_added older e x.site x.command.key.id x.actor x.executes_it)
        (subst (λ (z : Site). IsIn id (executions (e ∷ older) z)) here executed) in
        elim (in_push_cases (executions older x.site) x.command.key.id id now) [
          | inl before ↦ inl (inl (subst (λ (z : Site). IsIn id (executions older z)) (sym here) before))
          | inr same ↦ inr (here, same)
        ]
    | inr apart ↦ inl (inl (subst (IsIn id) (others_execute_nothing older e x.site y x.actor apart) executed))
  ]
  execution_adds_one x y id (inr declared) = elim (site_cases y x.site) [
    | inl here ↦
        let now = subst (HasDeclared id) x.state_after
        (subst (λ (z : Site). HasDeclared id (executor_of script (e ∷ older) z)) here declared) in
        inl (inr (subst (λ (z : Site). HasDeclared id (executor_of script older z)) (sym here) now))
    | inr apart ↦ inl (inr (subst (HasDeclared id) (x.others_stay y apart) declared))
  ]
