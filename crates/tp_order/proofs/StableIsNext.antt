-- What an executor declares or executes comes next: it is due, and each due command with a smaller key was executed.
-- Used for each declaration and each execution (EntriesKeepOrder).
use Rattle.std.proofs.Common.{◌≡◌, ◌≤◌, inl, inr, true, false, List, Some, subst, sym, ap, arith}
use Rattle.std.specs.Prelude.{not}
use Rattle.std.proofs.lemmas.Bool.{and_parts, cases_Bool, not_from_false}
use Rattle.tp_base.specs.Lists.{IsIn, has}
use Rattle.tp_base.specs.Names.{same_id, key_lt}
use Rattle.tp_base.proofs.Members.{has_in, in_map}
use Rattle.tp_base.proofs.SameNames.{same_id_is, key_lt_parts}
use Rattle.tp_base.specs.declared.names.CommandId.{CommandId}
use Rattle.tp_base.specs.declared.names.Key.{Key}
use Rattle.tp_base.specs.declared.names.Site.{Site}
use Rattle.tp_rules.specs.Addresses.{others_accessed}
use Rattle.tp_rules.specs.Outcome.{commits, stamp_in}
use Rattle.tp_rules.specs.Runs.{IsFreeHistory}
use Rattle.tp_rules.specs.declared.event.Entry.{Entry}
use Rattle.tp_script.specs.Accepted.{IsAccepted}
use Rattle.tp_script.specs.declared.script.Script.{Script}
use Rattle.tp_topology.specs.Stability.{is_stable}
use Rattle.tp_rules.proofs.lists.Tallies.{in_filter}
use Rattle.tp_rules.proofs.ends.Unexecuted.{executor_of}
use Rattle.tp_facts.specs.Settled.{Settled}
use Rattle.tp_order.proofs.CommittedAndDue.{IsDueByFinalKey, committed_is_due, due_is_committed}
use Rattle.tp_order.proofs.EntryKinds.{Declaration, Execution}
use Rattle.tp_order.proofs.Executions.{least_is_waiting, noted_is_executed, unnoted_is_not_executed}
use Rattle.tp_order.specs.Due.{IsDue, IsNext, IsWithin, final_key}
use Rattle.tp_rules.proofs.LeastKey.{least_at_most}
use Rattle.tp_rules.specs.Executor as executor

smaller_by : (a b a' b' : Key) → a ≡ a' → b ≡ b' → key_lt a' b' ≡ true → key_lt a b ≡ true
smaller_by a b a' b' first second smaller =
    subst (λ (k : Key). key_lt k b ≡ true) (sym first) (subst (λ (k : Key). key_lt a' k ≡ true) (sym second) smaller)

module _ (script : Script) (accepted : IsAccepted script) (whole : List Entry) (history : IsFreeHistory script whole)
    (settled : Settled script whole) (older : List Entry) (before : IsFreeHistory script older)
    (within : IsWithin older whole) where
  module _ (s : Site) (c : executor.Committed) where
    abbrev state : executor.ExecutorState
    state = executor_of script older s

    abbrev IsLeastWaiting : Type 0
    IsLeastWaiting = executor.least (executor.waiting state) ≡ Some c

    abbrev IsStableHere : Type 0
    IsStableHere = is_stable script.topology state.told (executor.committed_ids state) c.key.stamp.0 ≡ true

    due_of : (x : executor.Committed) → IsIn x state.committed → IsDueByFinalKey script whole s.partition.0 x
    due_of = committed_is_due script accepted whole history settled older before within s

    -- a due command with a smaller key is committed, and it isn't waiting, as the least one is: so it was executed
    smaller_is_executed : IsLeastWaiting → IsStableHere → IsDueByFinalKey script whole s.partition.0 c →
        (d : CommandId) → IsDue script whole s.partition.0 d →
        key_lt (final_key whole d) (final_key whole c.key.id) ≡ true → has same_id d state.executed ≡ true
    smaller_is_executed is_least stable own d due smaller = elim (cases_Bool (has same_id d state.executed)) [
      | inl executed ↦ executed
      | inr waiting ↦ absurd (not_waiting waiting)
    ]
      where
        low : stamp_in (commits whole) d ≤ c.key.stamp.0
        low =
            let same : c.key.stamp.0 ≡ stamp_in (commits whole) c.key.id = ap (λ (k : Key). k.stamp.0) own.key in
            elim (key_lt_parts (final_key whole d) (final_key whole c.key.id) smaller) [
              | inl less ↦ omega (arith, same)
              | inr equal ↦ omega (arith, same, equal.0)
            ]

        is_committed : has same_id d (executor.committed_ids state) ≡ true
        is_committed =
            due_is_committed script accepted whole history settled older before within s d c.key.stamp.0 due stable low

        not_waiting : has same_id d state.executed ≡ false → ⊥
        not_waiting unexecuted =
            let (x, there, same) =
            in_map (λ (y : executor.Committed). y.key.id) state.committed d
            (has_in same_id same_id_is d (executor.committed_ids state) is_committed) in
            let waits : IsIn x (executor.waiting state) =
            in_filter (λ (y : executor.Committed). not (has same_id y.key.id state.executed)) state.committed x there
            (not_from_false _ (subst (λ (i : CommandId). has same_id i state.executed ≡ false) same unexecuted)) in
            let at_least : key_lt x.key c.key ≡ false = least_at_most (executor.waiting state) c x is_least waits in
            let below : key_lt x.key c.key ≡ true =
            smaller_by x.key c.key (final_key whole x.key.id) (final_key whole c.key.id) (due_of x there).key own.key
            (subst (λ (i : CommandId). key_lt (final_key whole i) (final_key whole c.key.id) ≡ true) same smaller) in
            cc

    -- the least waiting command comes next, where its stamp is stable
    stable_least_is_next : IsLeastWaiting → IsStableHere → IsNext script whole older s c.key.id
    stable_least_is_next is_least stable =
        let waits = least_is_waiting script older s c before is_least in
        let own = due_of c waits.is_committed in
        record {
          is_due = own.due;
          is_new = unnoted_is_not_executed script older before s c.key.id waits.not_executed;
          smaller_due_are_executed = λ d due smaller.
              noted_is_executed script older before s d (smaller_is_executed is_least stable own d due smaller);
        }

  module _ (e : Entry) where
    -- what is declared comes next
    pub declared_is_next : (d : Declaration script older e) → IsNext script whole older d.site d.command.key.id
    declared_is_next d =
        let state = executor_of script older d.site in
        let others = others_accessed script.topology d.command.command d.site.partition.0 in
        stable_least_is_next d.site d.command d.is_least
        (and_parts (is_stable script.topology state.told (executor.committed_ids state) d.command.key.stamp.0)
        (executor.is_undeclared state d.command.key.id others) d.may_declare).0

    -- what is executed comes next
    pub executed_is_next : (x : Execution script older e) → IsNext script whole older x.site x.command.key.id
    executed_is_next x =
        let state = executor_of script older x.site in
        let others = others_accessed script.topology x.command.command x.site.partition.0 in
        stable_least_is_next x.site x.command x.is_least
        (and_parts (is_stable script.topology state.told (executor.committed_ids state) x.command.key.stamp.0)
        (executor.is_ready state x.command.key.id others) x.may_execute).0
