-- What was executed is in the line, and what is in the line was submitted. Used for replies and for real time.
use Rattle.std.proofs.Common.{ℕ, inl, inr, List, [], ◌∷◌, ◌++◌, Option, Some, None, sym, subst}
use Rattle.std.specs.List.{list_any}
use Rattle.std.proofs.lemmas.Bool.{cond_both, or_right}
use Rattle.tp_base.specs.Lists.{IsIn, has}
use Rattle.tp_base.specs.Names.{same_id, same_name}
use Rattle.tp_base.proofs.Members.{has_in, in_left, in_push, in_push_cases}
use Rattle.tp_base.proofs.Prefixes.{prefix_in}
use Rattle.tp_base.proofs.SameNames.{same_id_is}
use Rattle.tp_base.specs.declared.names.ActorName.TheVariants.{Executor}
use Rattle.tp_base.specs.declared.names.CommandId.{CommandId}
use Rattle.tp_base.specs.declared.names.Site.{Site}
use Rattle.tp_ops.specs.declared.operation.Answer.{Answer}
use Rattle.tp_rules.specs.Outcome.{at_end, executed_by, executions, is_submission_of, line, once_at_end}
use Rattle.tp_rules.specs.Runs.{IsFreeHistory, MayHappen}
use Rattle.tp_rules.specs.declared.event.Entry.{Entry}
use Rattle.tp_rules.specs.declared.event.Event.{Event}
use Rattle.tp_rules.specs.declared.event.Event.TheVariants.{Deliver, Dropped, Inner as OfItself}
use Rattle.tp_rules.specs.declared.event.Inner.TheVariants.{Execute}
use Rattle.tp_script.specs.Accepted.{IsAccepted}
use Rattle.tp_script.specs.declared.script.Script.{Script}
use Rattle.tp_replies.specs.Executions.{IsExecuted}
use Rattle.tp_replies.proofs.Submissions.{IsSubmitted, execution_submitted}

-- the line keeps what is in it
line_keeps : (id : CommandId) (ids : List CommandId) (o : Option CommandId) → IsIn id ids → IsIn id (once_at_end ids o)
line_keeps id ids None there = there
line_keeps id ids (Some x) there =
    cond_both (has same_id x ids) ids (ids ++ x ∷ []) (IsIn id) (λ t. there) (λ f. in_left ids (x ∷ []) id there)

-- and takes in what is executed
line_takes : (id : CommandId) (ids : List CommandId) → IsIn id (once_at_end ids (Some id))
line_takes id ids =
    cond_both (has same_id id ids) ids (ids ++ id ∷ []) (IsIn id) (has_in same_id same_id_is id ids)
    (λ f. in_push ids id)

-- what an executor executed is in the line
executions_in_line : (older : List Entry) (s : Site) (id : CommandId) → IsIn id (executions older s)
    → IsIn id (line older)
executions_in_line [] s id there = absurd there
executions_in_line (e ∷ older) s id there =
    cond_both (same_name e.actor (Executor s)) (at_end (executions older s) (executed_by e.event)) (executions older s)
    (λ (ids : List CommandId). IsIn id ids → IsIn id (once_at_end (line older) (executed_by e.event)))
    (λ t. by_executor (executed_by e.event) (executions_in_line older s id))
    (λ f k. line_keeps id (line older) (executed_by e.event) (executions_in_line older s id k)) there
  where
    by_executor : (o : Option CommandId) → (IsIn id (executions older s) → IsIn id (line older))
        → IsIn id (at_end (executions older s) o) → IsIn id (once_at_end (line older) o)
    by_executor None before k = before k
    by_executor (Some x) before k = elim (in_push_cases (executions older s) x id k) [
      | inl old ↦ line_keeps id (line older) (Some x) (before old)
      | inr new ↦ subst (λ (i : CommandId). IsIn id (once_at_end (line older) (Some i))) new
          (line_takes id (line older))
    ]

-- so the command of an execution is
pub executed_in_line : (script : Script) (older : List Entry) (id : CommandId) (p : ℕ) (answers : List Answer)
    → IsExecuted script older id p answers → IsIn id (line older)
executed_in_line script older id p answers x = executions_in_line older x.site id
    (prefix_in (x.before ++ id ∷ []) (executions older x.site) id x.prefix (in_push x.before id))

-- what is in the line was submitted
pub line_submitted : (script : Script) → IsAccepted script → (older : List Entry) (id : CommandId)
    → IsFreeHistory script older → IsIn id (line older) → IsSubmitted older id
line_submitted script accepted [] id history there = absurd there
line_submitted script accepted (e ∷ older) id history there =
    or_right (is_submission_of id e) (list_any (is_submission_of id) older)
    (by_event e.event history.1.may (line_submitted script accepted older id history.0) there)
  where
    by_event : (event : Event) → MayHappen script older e.actor event → (IsIn id (line older) → IsSubmitted older id)
        → IsIn id (once_at_end (line older) (executed_by event)) → IsSubmitted older id
    by_event (OfItself (Execute x)) may before there =
        cond_both (has same_id x (line older)) (line older) (line older ++ x ∷ [])
        (λ (ids : List CommandId). IsIn id ids → IsSubmitted older id)
        (λ t. before)
        (λ f k. elim (in_push_cases (line older) x id k) [
          | inl old ↦ before old
          | inr new ↦
              subst (IsSubmitted older) (sym new) (execution_submitted script accepted older e.actor x history.0 may)
        ]) there
    by_event (OfItself _) may before there = before there
    by_event (Deliver entry place) may before there = before there
    by_event (Dropped entry place) may before there = before there
