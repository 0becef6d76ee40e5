use Rattle.std.proofs.Common.{Option, sym, ap, subst, ◌∙◌}
use Rattle.std.specs.Option.{option_map}
use Rattle.tp_base.specs.declared.names.Stamp.{Stamp}
use Rattle.tp_process.proofs.Learning.{knows, known_sheet, learns_none, learns_some}
use Rattle.tp_process.specs.State.{IsState}
use Rattle.tp_rules.specs.Process.{Step, with_sheet}
use Rattle.tp_process.proofs.process.Process.learn.Goals as goal

pub returns-in_ok-tell_executor-in-Some-clause-state : goal.returns-in_ok-tell_executor-in-Some-clause-state
returns-in_ok-tell_executor-in-Some-clause-state c = λ s sheet stands low.
    let some = sym c.in_ok-last.ensures.last ∙ ap (λ (o : Option Stamp). option_map (λ t. t.0) o) c.in-Some.is in
    let last = learns_some _ _ _ _ _ _ _ c.args.id c.args.partition.0 c.args.stamp.0 sheet s c.in_ok-last.ensures.changed stands low c.in-Some.last.0 some in
    let kept = knows _ _ _ _ _ _ _ c.args.id c.args.partition.0 c.args.stamp.0 sheet s c.in_ok-last.ensures.changed stands low in
    subst (λ (m : Step). IsState c.bump.new.self m.0) (sym last.0)
    (c.bump.ensures.state (with_sheet c.args.id (known_sheet c.args.partition.0 c.args.stamp.0 sheet) s) kept last.1)

pub returns-in-None-clause-state : goal.returns-in-None-clause-state
returns-in-None-clause-state c = λ s sheet stands low.
    learns_none _ _ _ _ _ _ _ c.args.id c.args.partition.0 c.args.stamp.0 sheet s c.in_ok-last.ensures.changed stands low
    (sym c.in_ok-last.ensures.last ∙ ap (λ (o : Option Stamp). option_map (λ t. t.0) o) c.in-None.is)
