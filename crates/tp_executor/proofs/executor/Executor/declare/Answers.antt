use Rattle.std.proofs.Common.{Option, refl, sym, ap, ◌∙◌}
use Rattle.tp_rules.specs.Executor.{Committed, Step, declare_least}
use Rattle.tp_executor.proofs.Steps.{declares, declares_none, declares_nothing, first_of}
use Rattle.tp_executor.proofs.executor.Executor.declare.Goals as goal

pub returns-in_default-clause-outputs : goal.returns-in_default-clause-outputs
returns-in_default-clause-outputs c = λ state st.
    c.new.ensures ∙ ap (λ (m : Step). m.1) (sym (declares_none c.args.self.now state c.in_default.ensures st))

pub returns-in_default-clause-state : goal.returns-in_default-clause-state
returns-in_default-clause-state c =
    declares_nothing c.args.self.now _ c.in_default.ensures (record { book = refl; queue = refl; store = refl }) refl

pub returns-clause-outputs : goal.returns-clause-outputs
returns-clause-outputs c = λ state st.
    let m : Committed = record { key = c.in-Some.field-0-0; command = c.in-Some.command.now } in
    c.in_ok-outputs.ensures
    ∙ ap (λ (o : Option Committed). (declare_least c.args.self.now.topology c.args.self.now.site o state).1) (sym (first_of c.args.self.now m state c.in-Some.ensures st))

pub returns-clause-state : goal.returns-clause-state
returns-clause-state c =
    declares c.args.self.now _ (record { key = c.in-Some.field-0-0; command = c.in-Some.command.now }) c.in-Some.ensures
    (record { book = refl; queue = refl; store = refl }) c.in_ok-send.ensures.sent
