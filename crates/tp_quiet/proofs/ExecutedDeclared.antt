-- What an executor executed is a committed command that it declared before, if the command accesses other partitions.
-- Used for the executors in a run in which nothing is pending.
use Rattle.std.proofs.Common.{◌≡◌, ℕ, inl, inr, true, false, List, [], ◌∷◌, refl, sym, ap, subst, ◌∙◌}
use Rattle.std.specs.Prelude.{not}
use Rattle.std.proofs.lemmas.Bool.{and_parts, both_ways, cases_Bool}
use Rattle.tp_base.proofs.Members.{has_in, in_has}
use Rattle.tp_base.proofs.SameNames.{same_id_is, same_id_refl}
use Rattle.tp_base.specs.Lists.{IsIn, has}
use Rattle.tp_base.specs.Names.{same_id}
use Rattle.tp_base.specs.declared.names.ActorName.TheVariants.{Executor}
use Rattle.tp_base.specs.declared.names.CommandId.{CommandId}
use Rattle.tp_base.specs.declared.names.Site.{Site}
use Rattle.tp_order.proofs.EntryKinds.{EntryKind, quiet, declares, executes, kind_of}
use Rattle.tp_order.proofs.Executions.{least_is_waiting, site_cases}
use Rattle.tp_rules.proofs.ActsMore.{acts_step}
use Rattle.tp_rules.proofs.ends.Unexecuted.{executor_of, executor_remembers}
use Rattle.tp_rules.specs.Acts.{Act}
use Rattle.tp_rules.specs.Addresses.{others_accessed}
use Rattle.tp_rules.specs.Executor.{Committed, ExecutorState, committed_ids, is_ready, is_undeclared, state_after}
use Rattle.tp_rules.specs.Runs.{IsFreeHistory}
use Rattle.tp_rules.specs.declared.event.Entry.{Entry}
use Rattle.tp_script.specs.declared.script.Script.{Script}
use Rattle.tp_topology.specs.Stability.{is_stable}
use Rattle.tp_quiet.proofs.ExecutorsHear.{KnowsMore, act_grows, knows_itself}
use Rattle.tp_rules.proofs.OwnSteps.{ready_declared}

-- and stays so
declared_later : (old new : ExecutorState) (id : CommandId) (others : List ℕ)
    → (has same_id id old.declared ≡ true → has same_id id new.declared ≡ true)
    → is_undeclared old id others ≡ false → is_undeclared new id others ≡ false
declared_later old new id [] grows h = refl
declared_later old new id (q ∷ qs) grows h =
    elim (cases_Bool (has same_id id old.declared)) [
      | inl does ↦ ap not (grows does)
      | inr fails ↦ absurd (both_ways (not (has same_id id old.declared)) h (ap not fails))
    ]

module _ (script : Script) where
  -- an executor knows more after an entry
  pub entry_grows : (older : List Entry) (e : Entry) (s : Site)
      → KnowsMore (executor_of script older s) (executor_of script (e ∷ older) s)
  entry_grows older e s =
      acts_step (λ (list : List Act). KnowsMore (executor_of script older s)
      (state_after script.topology s list)) older e
      (Executor s) (knows_itself (executor_of script older s))
      (λ act same is. act_grows script.topology s act (executor_of script older s))

  -- an executed command
  pub record WasReady (older : List Entry) (s : Site) (id : CommandId) : Type 0 where
    pub command : Committed
    pub there : IsIn command (executor_of script older s).committed
    pub named : command.command.id ≡ id
    pub declared : is_undeclared (executor_of script older s) id
        (others_accessed script.topology command.command s.partition.0) ≡ false

  ready_later : (older : List Entry) (e : Entry) (s : Site) (id : CommandId) → WasReady older s id
      → WasReady (e ∷ older) s id
  ready_later older e s id h = record {
    command = h.command;
    there = (entry_grows older e s).committed h.command h.there;
    named = h.named;
    declared = declared_later (executor_of script older s) (executor_of script (e ∷ older) s) id
        (others_accessed script.topology h.command.command s.partition.0)
        ((executor_remembers script older e s).declared id) h.declared;
  }

  pub executed_was_ready : (older : List Entry) → IsFreeHistory script older → (s : Site) (id : CommandId)
      → has same_id id (executor_of script older s).executed ≡ true → WasReady older s id
  executed_was_ready [] history s id h = absurd cc
  executed_was_ready (e ∷ older) history s id h =
      let before : has same_id id (executor_of script older s).executed ≡ true → WasReady older s id =
      executed_was_ready older history.0 s id in
      elim (cases_Bool (has same_id id (executor_of script older s).executed)) [
        | inl old ↦ ready_later older e s id (before old)
        | inr new ↦ by_kind (kind_of script older e history.1) new
      ]
    where
      fresh : (old now : List CommandId) → now ≡ old → has same_id id old ≡ false → has same_id id now ≡ true → ⊥
      fresh old now same fails does =
          absurd (both_ways (has same_id id old) fails
          (subst (λ (l : List CommandId). has same_id id l ≡ true) same does))

      by_kind : EntryKind script older e → has same_id id (executor_of script older s).executed ≡ false
          → WasReady (e ∷ older) s id
      by_kind (quiet q) new = absurd
          (fresh (executor_of script older s).executed (executor_of script (e ∷ older) s).executed
          (q.states_stay s).executed new h)
      by_kind (declares d) new = elim (site_cases s d.site) [
        | inl here ↦
            let same : (executor_of script (e ∷ older) d.site).executed ≡ (executor_of script older d.site).executed =
            ap (λ (x : ExecutorState). x.executed) d.state_after in
            absurd (fresh (executor_of script older s).executed (executor_of script (e ∷ older) s).executed
            (subst (λ (x : Site). (executor_of script (e ∷ older) x).executed ≡ (executor_of script older x).executed)
            (sym here) same) new h)
        | inr apart ↦ absurd (fresh (executor_of script older s).executed (executor_of script (e ∷ older) s).executed
            (ap (λ (x : ExecutorState). x.executed) (d.others_stay s apart)) new h)
      ]
      by_kind (executes x) new = elim (site_cases s x.site) [
        | inr apart ↦ absurd (fresh (executor_of script older s).executed (executor_of script (e ∷ older) s).executed
            (ap (λ (y : ExecutorState). y.executed) (x.others_stay s apart)) new h)
        | inl here ↦
            let state : ExecutorState = executor_of script older x.site in
            let waits = least_is_waiting script older x.site x.command history.0 x.is_least in
            let now : has same_id id (x.command.command.id ∷ state.executed) ≡ true =
            subst (λ (y : ExecutorState). has same_id id y.executed ≡ true) x.state_after
            (subst (λ (y : Site). has same_id id (executor_of script (e ∷ older) y).executed ≡ true) here h) in
            elim (has_in same_id same_id_is id (x.command.command.id ∷ state.executed) now) [
              | inr earlier ↦ absurd (both_ways (has same_id id (executor_of script older s).executed) new
                  (subst (λ (y : Site). has same_id id (executor_of script older y).executed ≡ true) (sym here)
                  (in_has same_id same_id_refl id state.executed earlier)))
              | inl same ↦
                  let ready = (and_parts
                  (is_stable script.topology state.told (committed_ids state) x.command.key.stamp.0)
                  (is_ready state x.command.key.id
                  (others_accessed script.topology x.command.command x.site.partition.0)) x.may_execute).1 in
                  let own : x.command.key.id ≡ id = waits.own_id ∙ sym same in
                  let was : WasReady older x.site id = record {
                    command = x.command;
                    there = waits.is_committed;
                    named = sym same;
                    declared = subst
                        (λ (i : CommandId). is_undeclared state i
                        (others_accessed script.topology x.command.command x.site.partition.0) ≡ false) own
                        (ready_declared state x.command.key.id
                        (others_accessed script.topology x.command.command x.site.partition.0) ready);
                  } in
                  subst (λ (y : Site). WasReady (e ∷ older) y id) (sym here) (ready_later older e x.site id was)
            ]
      ]
