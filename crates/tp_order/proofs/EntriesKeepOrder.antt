-- Each part of a journal is in order, where the whole journal is settled: an induction over its entries.
-- Used for the law of the line (Laws).
use Rattle.std.proofs.Common.{◌≡◌, inl, inr, true, List, [], ◌∷◌, Option, Some, map, sym, subst, ap, ◌∙◌}
use Rattle.tp_base.specs.Lists.{IsIn, Ascends}
use Rattle.tp_base.specs.Names.{key_lt}
use Rattle.tp_base.specs.declared.names.CommandId.{CommandId}
use Rattle.tp_base.specs.declared.names.Site.{Site}
use Rattle.tp_ops.specs.declared.command.Command.{Command}
use Rattle.tp_rules.specs.Outcome.{executions, line, once_at_end, accesses, command_of}
use Rattle.tp_rules.specs.Runs.{IsFreeHistory}
use Rattle.tp_rules.specs.declared.event.Entry.{Entry}
use Rattle.tp_script.specs.Accepted.{IsAccepted}
use Rattle.tp_script.specs.declared.script.Script.{Script}
use Rattle.tp_facts.proofs.Commands.{command_is}
use Rattle.tp_facts.specs.Settled.{Settled}
use Rattle.tp_order.proofs.Declarations.{executable_is_declared}
use Rattle.tp_order.proofs.DeclaredOrExecuted.{IsDeclaredOrExecuted, quiet_adds_none, declaration_adds_one, execution_adds_one}
use Rattle.tp_order.proofs.EntryKinds.{QuietEntry, Declaration, Execution, EntryKind, quiet, declares, executes, kind_of}
use Rattle.tp_order.proofs.ExecutionKeepsOrder.{execution_keeps_order}
use Rattle.tp_order.proofs.Executions.{executions_stay, execution_is_added, others_execute_nothing, executions_grow, least_is_waiting}
use Rattle.tp_order.proofs.InOrder.{InOrder, OrderlyExecution, same_line_keeps_order}
use Rattle.tp_order.proofs.Shares.{share_of_none}
use Rattle.tp_order.proofs.StableIsNext.{declared_is_next, executed_is_next}
use Rattle.tp_order.specs.Due.{IsDue, IsWithin, final_key}

nothing_at_first : (script : Script) (x : Site) (c : CommandId) → IsDeclaredOrExecuted script [] x c → ⊥
nothing_at_first script x c (inl executed) = executed
nothing_at_first script x c (inr declared) = cc

-- an empty journal
start_is_in_order : (script : Script) (whole : List Entry) → InOrder script whole []
start_is_in_order script whole = record {
  executions_begin_share = λ x. ([], sym (share_of_none script x.partition.0));
  keys_ascend = λ p.
      subst (λ (l : List CommandId). Ascends key_lt (map (final_key whole) l)) (sym (share_of_none script p)) tt;
  share_is_due = λ p d there. absurd (subst (IsIn d) (share_of_none script p) there);
  smaller_due_are_executed = λ x c d did due smaller. absurd (nothing_at_first script x c did);
  share_is_declared_or_executed = λ p d there. absurd (subst (IsIn d) (share_of_none script p) there);
}

quiet_keeps_order : (script : Script) (whole older : List Entry) (e : Entry) → InOrder script whole older →
    QuietEntry script older e → InOrder script whole (e ∷ older)
quiet_keeps_order script whole older e o q =
    same_line_keeps_order script whole older e o (ap (once_at_end (line older)) q.executes_nothing)
    (λ x. executions_stay older e x q.executes_nothing)
    (λ x c d did due smaller.
    let before = quiet_adds_none script older e q x c did in
    executions_grow older e x d (o.smaller_due_are_executed x c d before due smaller))

module _ (script : Script) (accepted : IsAccepted script) (whole : List Entry) (history : IsFreeHistory script whole)
    (settled : Settled script whole) where
  module _ (older : List Entry) (e : Entry) (before : IsFreeHistory script older) (within : IsWithin older whole) where
    declaration_keeps_order : InOrder script whole older → Declaration script older e → InOrder script whole (e ∷ older)
    declaration_keeps_order o d =
        same_line_keeps_order script whole older e o (ap (once_at_end (line older)) d.executes_nothing)
        (λ x. executions_stay older e x d.executes_nothing)
        (λ x a b did due smaller.
        executions_grow older e x b (elim (declaration_adds_one script older e before d x a did) [
          | inl old ↦ o.smaller_due_are_executed x a b old due smaller
          | inr (here, is) ↦
              let next = declared_is_next script accepted whole history settled older before within e d in
              let due_here = subst (λ (z : Site). IsDue script whole z.partition.0 b) here due in
              let below = subst (λ (i : CommandId). key_lt (final_key whole b) (final_key whole i) ≡ true) is smaller in
              subst (λ (z : Site). IsIn b (executions older z)) (sym here)
              (next.smaller_due_are_executed b due_here below)
        ]))

    -- an executor's execution is all that the line's proof asks
    execution_is_orderly : (x : Execution script older e) →
        OrderlyExecution script whole older e x.site x.command.key.id
    execution_is_orderly x = record {
      is_next = executed_is_next script accepted whole history settled older before within e x;
      is_declared_elsewhere = λ q reaches apart.
          let reached = subst (λ (o : Option Command). accesses script q o ≡ true) command_is_own reaches in
          let some = accepted.shape.some_partition in
          executable_is_declared script older x.site x.command q before some x.may_execute reached apart;
      executes_it = x.executes_it;
      is_added = execution_is_added older e x.site x.command.key.id x.actor x.executes_it;
      others_stay = λ y apart. others_execute_nothing older e x.site y x.actor apart;
      adds_only_it = execution_adds_one script older e x;
    }
      where
        command_is_own : command_of script x.command.key.id ≡ Some x.command.command
        command_is_own =
            let waits = least_is_waiting script older x.site x.command before x.is_least in
            ap (command_of script) waits.own_id ∙ command_is script accepted x.command.command waits.of_script

  -- each part of the journal is in order
  pub is_in_order : (older : List Entry) → IsFreeHistory script older → IsWithin older whole →
      InOrder script whole older
  is_in_order [] before within = start_is_in_order script whole
  is_in_order (e ∷ older) before within =
      by_kind (is_in_order older before.0 within_older) (kind_of script older e before.1)
    where
      within_older : IsWithin older whole
      within_older m sent = within m (inr sent)

      by_kind : InOrder script whole older → EntryKind script older e → InOrder script whole (e ∷ older)
      by_kind o (quiet q) = quiet_keeps_order script whole older e o q
      by_kind o (declares d) = declaration_keeps_order older e before.0 within_older o d
      by_kind o (executes x) =
          execution_keeps_order script whole older e x.site x.command.key.id o
          (execution_is_orderly older e before.0 within_older x)
