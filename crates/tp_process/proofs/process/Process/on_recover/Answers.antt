use Rattle.std.proofs.Common.{sym, subst, ◌∙◌}
use Rattle.tp_process.proofs.Outcomes.{on_any}
use Rattle.tp_process.proofs.Recovering.{recovers_none, recovers_some}
use Rattle.tp_process.specs.State.{IsState}
use Rattle.tp_rules.specs.Process.{Step}
use Rattle.tp_process.proofs.process.Process.on_recover.Goals as goal

pub returns-in-Some-clause-state : goal.returns-in-Some-clause-state
returns-in-Some-clause-state c = on_any c.ask.result (λ s stands.
    let all = recovers_some _ _ _ _ _ _ _ c.args.id s c.recover.ensures.changed stands c.in-Some.ballot (sym c.recover.ensures.ballot ∙ c.in-Some.is) in
    subst (λ (m : Step). IsState (record c.args.self.now { sheets = c.recover.new.sheets }) m.0) (sym all.0) all.1)

pub returns-in-None-clause-state : goal.returns-in-None-clause-state
returns-in-None-clause-state c = λ s stands.
    let all = recovers_none _ _ _ _ _ _ _ c.args.id s c.recover.ensures.changed stands (sym c.recover.ensures.ballot ∙ c.in-None.is) in
    subst (λ (m : Step). IsState (record c.args.self.now { sheets = c.recover.new.sheets }) m.0) (sym all.0) all.1
