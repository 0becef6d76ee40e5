-- What an entry adds to a site's executions, and that they are the commands that its executor has noted as executed.
-- Used where the proof goes from an executor's state to the journal (StableIsNext, EntriesKeepOrder).
use Rattle.std.proofs.Common.{◌≡◌, ◌≢◌, ◌⊎◌, inl, inr, true, false, List, [], ◌∷◌, ◌++◌, Option, Some, None, reverse, refl, sym, subst, ap, ◌∙◌}
use Rattle.std.specs.Prelude.{not}
use Rattle.std.proofs.lemmas.Bool.{cond_both, cases_Bool, cond-true, cond-false, not-true}
use Rattle.std.proofs.lemmas.Grind.{reverse_onto}
use Rattle.tp_base.specs.Lists.{IsIn, has}
use Rattle.tp_base.specs.Names.{same_id, same_name, same_site}
use Rattle.tp_base.proofs.Each.{each_in}
use Rattle.tp_base.proofs.Members.{in_left, in_reverse, in_reversed, has_in, in_has}
use Rattle.tp_base.proofs.SameNames.{same_id_is, same_id_refl, same_site_is, same_site_refl, same_name_not, same_name_refl}
use Rattle.tp_base.specs.declared.names.ActorName.{ActorName}
use Rattle.tp_base.specs.declared.names.ActorName.TheVariants.{Executor}
use Rattle.tp_base.specs.declared.names.CommandId.{CommandId}
use Rattle.tp_base.specs.declared.names.Site.{Site}
use Rattle.tp_rules.specs.Outcome.{executions, executed_by, at_end}
use Rattle.tp_rules.specs.Runs.{IsFreeHistory}
use Rattle.tp_rules.specs.declared.event.Entry.{Entry}
use Rattle.tp_script.specs.declared.script.Script.{Script}
use Rattle.tp_rules.proofs.sent.Provenance.{committed_provenance, IsOf}
use Rattle.tp_rules.proofs.lists.Tallies.{filter_in}
use Rattle.tp_rules.proofs.ends.Unexecuted.{executor_of, least_in}
use Rattle.tp_order.proofs.EntryKinds.{EntryKind, quiet, declares, executes, kind_of}
use Rattle.tp_rules.specs.Executor as executor

-- two sites are one, or apart
pub site_cases : (a b : Site) → (a ≡ b) ⊎ (a ≢ b)
site_cases a b = elim (cases_Bool (same_site a b)) [
  | inl same ↦ inl (same_site_is a b same)
  | inr apart ↦ inr (λ e.
      let same : same_site a b ≡ true = subst (λ (x : Site). same_site a x ≡ true) e (same_site_refl a) in
      cc)
]

-- an entry that executes nothing adds nothing
pub executions_stay : (older : List Entry) (e : Entry) (s : Site) → executed_by e.event ≡ None →
    executions (e ∷ older) s ≡ executions older s
executions_stay older e s none =
    cond_both (same_name e.actor (Executor s)) (at_end (executions older s) (executed_by e.event)) (executions older s)
    (λ (l : List CommandId). l ≡ executions older s) (λ own. ap (at_end (executions older s)) none) (λ other. refl)

-- an execution adds its command at the end of its site's
pub execution_is_added : (older : List Entry) (e : Entry) (s : Site) (id : CommandId) → e.actor ≡ Executor s →
    executed_by e.event ≡ Some id → executions (e ∷ older) s ≡ executions older s ++ id ∷ []
execution_is_added older e s id actor does =
    cond-true (same_name e.actor (Executor s)) (at_end (executions older s) (executed_by e.event)) (executions older s)
    (ap (λ (a : ActorName). same_name a (Executor s)) actor ∙ same_name_refl (Executor s))
    ∙ ap (at_end (executions older s)) does

-- and nothing elsewhere
pub others_execute_nothing : (older : List Entry) (e : Entry) (s x : Site) → e.actor ≡ Executor s → x ≢ s →
    executions (e ∷ older) x ≡ executions older x
others_execute_nothing older e s x actor apart =
    cond-false (same_name e.actor (Executor x)) (at_end (executions older x) (executed_by e.event)) (executions older x)
    (same_name_not e.actor (Executor x) (λ same.
    apart (let executors : Executor x ≡ Executor s = sym same ∙ actor in cc)))

-- what was executed stays executed
pub executions_grow : (older : List Entry) (e : Entry) (x : Site) (id : CommandId) → IsIn id (executions older x) →
    IsIn id (executions (e ∷ older) x)
executions_grow older e x id there =
    cond_both (same_name e.actor (Executor x)) (at_end (executions older x) (executed_by e.event)) (executions older x)
    (IsIn id) (λ own. with_more (executed_by e.event)) (λ other. there)
  where
    with_more : (o : Option CommandId) → IsIn id (at_end (executions older x) o)
    with_more None = there
    with_more (Some new) = in_left (executions older x) (new ∷ []) id there

-- a waiting command is one of the script, committed under its own identifier, and not executed
pub record IsWaiting (script : Script) (older : List Entry) (s : Site) (c : executor.Committed) : Type 0 where
  pub is_committed : IsIn c (executor_of script older s).committed
  pub of_script : IsOf script c.command
  pub own_id : c.key.id ≡ c.command.id
  pub not_executed : has same_id c.key.id (executor_of script older s).executed ≡ false

-- an executor's least waiting command is waiting
pub least_is_waiting : (script : Script) (older : List Entry) (s : Site) (c : executor.Committed) →
    IsFreeHistory script older → executor.least (executor.waiting (executor_of script older s)) ≡ Some c →
    IsWaiting script older s c
least_is_waiting script older s c history is_least =
    let state = executor_of script older s in
    let found = filter_in (λ (d : executor.Committed). not (has same_id d.key.id state.executed)) state.committed c
    (least_in (executor.waiting state) c is_least) in
    let own = each_in (λ (d : executor.Committed). IsOf script d.command × (d.key.id ≡ d.command.id)) state.committed c
    (committed_provenance script older history s) found.0 in
    record { is_committed = found.0; of_script = own.0; own_id = own.1; not_executed = not-true _ found.1 }

-- what a site's executor has noted as executed, the oldest first
abbrev noted_executions : Script → List Entry → Site → List CommandId
noted_executions script older s = reverse (executor_of script older s).executed

-- it is what the site executed
executions_are_noted : (script : Script) (older : List Entry) (s : Site) → IsFreeHistory script older →
    executions older s ≡ noted_executions script older s
executions_are_noted script [] s history = refl
executions_are_noted script (e ∷ older) s history =
    by_kind (kind_of script older e history.1) (λ x. executions_are_noted script older x history.0)
  where
    now : List CommandId
    now = noted_executions script (e ∷ older) s

    by_kind : EntryKind script older e → ((x : Site) → executions older x ≡ noted_executions script older x) →
        executions (e ∷ older) s ≡ now
    by_kind (quiet q) noted =
        executions_stay older e s q.executes_nothing ∙ noted s
        ∙ ap (λ (l : List CommandId). reverse l) (sym (q.states_stay s).executed)
    by_kind (declares d) noted =
        executions_stay older e s d.executes_nothing ∙ noted s ∙ elim (site_cases s d.site) [
          | inl here ↦
              subst (λ (x : Site). noted_executions script older x ≡ noted_executions script (e ∷ older) x) (sym here)
              (ap (λ (state : executor.ExecutorState). reverse state.executed) (sym d.state_after))
          | inr apart ↦ ap (λ (state : executor.ExecutorState). reverse state.executed) (sym (d.others_stay s apart))
        ]
    by_kind (executes x) noted = elim (site_cases s x.site) [
      | inl here ↦
          let own = (least_is_waiting script older x.site x.command history.0 x.is_least).own_id in
          let executed = (executor_of script older x.site).executed in
          subst (λ (y : Site). executions (e ∷ older) y ≡ noted_executions script (e ∷ older) y) (sym here)
          (execution_is_added older e x.site x.command.key.id x.actor x.executes_it
          ∙ ap (λ (l : List CommandId). l ++ x.command.key.id ∷ []) (noted x.site)
          ∙ sym (reverse_onto executed x.command.key.id [])
          ∙ ap (λ (i : CommandId). reverse (i ∷ executed)) own
          ∙ ap (λ (state : executor.ExecutorState). reverse state.executed) (sym x.state_after))
      | inr apart ↦
          others_execute_nothing older e x.site s x.actor apart ∙ noted s
          ∙ ap (λ (state : executor.ExecutorState). reverse state.executed) (sym (x.others_stay s apart))
    ]

module _ (script : Script) (older : List Entry) (history : IsFreeHistory script older) (s : Site) (id : CommandId) where
  abbrev noted : List CommandId
  noted = (executor_of script older s).executed

  -- what is noted as executed is among the executions
  pub noted_is_executed : has same_id id noted ≡ true → IsIn id (executions older s)
  noted_is_executed is =
      subst (IsIn id) (sym (executions_are_noted script older s history))
      (in_reverse noted id (has_in same_id same_id_is id noted is))

  -- and nothing else
  pub unnoted_is_not_executed : has same_id id noted ≡ false → IsIn id (executions older s) → ⊥
  unnoted_is_not_executed is_not there =
      let reversed = subst (IsIn id) (executions_are_noted script older s history) there in
      let is : has same_id id noted ≡ true = in_has same_id same_id_refl id noted (in_reversed noted id reversed) in
      cc
