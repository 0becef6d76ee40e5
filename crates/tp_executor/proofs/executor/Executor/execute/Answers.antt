use Rattle.std.proofs.Common.{ℕ, List, refl, sym, ap, ◌∙◌}
use Rattle.tp_base.proofs.Options.{if_ok, on_any}
use Rattle.tp_ops.specs.declared.operation.Op.{Op}
use Rattle.tp_ops.specs.Parts.{ops_on}
use Rattle.tp_ops.specs.Store.{after_all, answers_of}
use Rattle.tp_rules.specs.Executor.{Committed, Step}
use Rattle.tp_store.specs.Values.{contents_of}
use Rattle.tp_executor.proofs.Steps.{executes, executes_none, executes_sends, takes_none}
use Rattle.tp_executor.proofs.executor.Executor.execute.Goals as goal

pub returns-in_default-clause-outputs : goal.returns-in_default-clause-outputs
returns-in_default-clause-outputs c = λ state st.
    c.new.ensures ∙ ap (λ (m : Step). m.1) (sym (executes_none c.args.self.now state c.in_default.ensures.least st))

pub returns-in_default-clause-state : goal.returns-in_default-clause-state
returns-in_default-clause-state c = takes_none c.args.self.now _ c.in_default.ensures.least c.in_default.ensures.taken refl refl refl

pub returns-clause-outputs : goal.returns-clause-outputs
returns-clause-outputs c =
    let e = c.args.self.now in
    let m : Committed = record { key = c.in-Some.field-0-0; command = c.in-Some.command } in
    let ops = ap (λ (n : ℕ). ops_on n e.site.partition.0 c.in-Some.command.ops) c.partitions-partitions.ensures.value in
    if_ok c.result_of.result _ _
    (λ outputs sent. executes_sends e m c.in_ok-answers.answers outputs c.in-Some.ensures.least
    (c.in_ok-answers.ensures.answers ∙ ap (λ (o : List Op). answers_of o (contents_of e.store)) ops) sent)
    c.result_of.ensures

pub returns-clause-state : goal.returns-clause-state
returns-clause-state c =
    let e = c.args.self.now in
    let m : Committed = record { key = c.in-Some.field-0-0; command = c.in-Some.command } in
    let ops = ap (λ (n : ℕ). ops_on n e.site.partition.0 c.in-Some.command.ops) c.partitions-partitions.ensures.value in
    on_any c.result_of.result
    (executes e _ m c.in-Some.ensures.least c.in-Some.ensures.taken refl refl
    (c.in_ok-answers.ensures.contents ∙ ap (λ (o : List Op). after_all o (contents_of e.store)) ops))
