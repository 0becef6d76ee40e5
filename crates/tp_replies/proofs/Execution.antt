-- Which command an executor executes. Used for executors' stores, for their results and for submissions.
use Rattle.std.proofs.Common.{◌≡◌, inl, inr, false, List, Some, sym, ap, ◌∙◌}
use Rattle.std.specs.Prelude.{not}
use Rattle.std.proofs.lemmas.Bool.{not-true}
use Rattle.tp_base.specs.Lists.{IsIn, has}
use Rattle.tp_base.specs.Names.{same_id}
use Rattle.tp_base.proofs.Each.{each_in}
use Rattle.tp_base.specs.declared.names.ActorName.TheVariants.{Executor}
use Rattle.tp_base.specs.declared.names.CommandId.{CommandId}
use Rattle.tp_base.specs.declared.names.Site.{Site}
use Rattle.tp_facts.proofs.Commands.{command_is}
use Rattle.tp_rules.specs.Executor as executor
use Rattle.tp_rules.specs.Outcome.{command_of}
use Rattle.tp_rules.specs.Runs.{IsFreeHistory, MayHappen}
use Rattle.tp_rules.specs.declared.event.Entry.{Entry}
use Rattle.tp_rules.specs.declared.event.Event.TheVariants.{Inner as OfItself}
use Rattle.tp_rules.specs.declared.event.Inner.TheVariants.{Execute}
use Rattle.tp_script.specs.Accepted.{IsAccepted}
use Rattle.tp_script.specs.declared.script.Script.{Script}
use Rattle.tp_rules.proofs.OwnSteps.{executor_may}
use Rattle.tp_rules.proofs.sent.Provenance.{IsOf, committed_provenance}
use Rattle.tp_rules.proofs.lists.Tallies.{filter_in}
use Rattle.tp_rules.proofs.ends.Unexecuted.{executor_of, least_in}

-- an execution that the rules allow
pub record Execution (script : Script) (older : List Entry) (s : Site) (id : CommandId) : Type 0 where
  -- it is of the executor's least waiting command
  pub next : executor.Committed
  pub least : executor.least (executor.waiting (executor_of script older s)) ≡ Some next
  -- which is committed there
  pub committed : IsIn next (executor_of script older s).committed
  -- and is the command of the identifier
  pub named : next.command.id ≡ id
  pub is : command_of script id ≡ Some next.command
  -- and was not executed before
  pub fresh : has same_id id (executor_of script older s).executed ≡ false

-- each entry that executes a command is one
pub execution : (script : Script) → IsAccepted script → (older : List Entry) (s : Site) (id : CommandId)
    → IsFreeHistory script older → MayHappen script older (Executor s) (OfItself (Execute id))
    → Execution script older s id
execution script accepted older s id history may =
    let state = executor_of script older s in
    let step = executor_may script.topology s state (Execute id) may in
    let c : executor.Committed = step.0 in
    let same : Execute id ≡ Execute c.key.id =
    elim step.2 [ inl declares ↦ absurd (let wrong = declares.0 in cc) | inr executes ↦ executes.0 ] in
    let key : c.key.id ≡ id = cc in
    let waits = filter_in (λ (c : executor.Committed). not (has same_id c.key.id state.executed)) state.committed c
    (least_in (executor.waiting state) c step.1) in
    let own = each_in (λ (c : executor.Committed). IsOf script c.command × (c.key.id ≡ c.command.id)) state.committed c
    (committed_provenance script older history s) waits.0 in
    let named : c.command.id ≡ id = sym own.1 ∙ key in
    record {
      next = c;
      least = step.1;
      committed = waits.0;
      named = named;
      is = ap (command_of script) (sym named) ∙ command_is script accepted c.command own.0;
      fresh =
          ap (λ (i : CommandId). has same_id i state.executed) (sym key)
          ∙ not-true (has same_id c.key.id state.executed) waits.1;
    }
