use Rattle.std.proofs.Common.{Option, sym, ap, ◌∙◌}
use Rattle.tp_rules.specs.Executor.{Committed, enabled_of}
use Rattle.tp_executor.proofs.Steps.{first_of, none_of}
use Rattle.tp_executor.proofs.executor.Executor.step.Goals as goal

pub returns-in-Some : goal.returns-in-Some
returns-in-Some c = λ state st.
    let m : Committed = record { key = c.in-Some.key; command = c.in-Some.command.now } in
    c.step_for.ensures state st
    ∙ ap (λ (o : Option Committed). enabled_of c.args.self.now.topology c.args.self.now.site state o) (sym (first_of c.args.self.now m state c.in-Some.ensures st))

pub returns-in-None : goal.returns-in-None
returns-in-None c = λ state st.
    ap (λ (o : Option Committed). enabled_of c.args.self.now.topology c.args.self.now.site state o) (sym (none_of c.args.self.now state c.in-None.ensures st))
