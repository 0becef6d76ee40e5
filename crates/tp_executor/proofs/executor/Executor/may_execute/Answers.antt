use Rattle.std.proofs.Common.{Option, Err, refl, sym, subst}
use Rattle.tp_rules.specs.Executor.{Committed}
use Rattle.tp_executor.specs.Answers.{IsAnswerOf}
use Rattle.tp_executor.specs.declared.why.Why.TheVariants.{Nothing}
use Rattle.tp_executor.proofs.Steps.{first_of, none_of}
use Rattle.tp_executor.proofs.executor.Executor.may_execute.Goals as goal

pub returns-in-Some : goal.returns-in-Some
returns-in-Some c = λ state st.
    let m : Committed = record { key = c.in-Some.key; command = c.in-Some.command.now } in
    subst (λ (o : Option Committed). IsAnswerOf c.args.self.now.topology c.args.self.now.site state o c.answer_for.result)
    (sym (first_of c.args.self.now m state c.in-Some.ensures st)) (c.answer_for.ensures state st)

pub returns-in-None : goal.returns-in-None
returns-in-None c = λ state st.
    subst (λ (o : Option Committed). IsAnswerOf c.args.self.now.topology c.args.self.now.site state o (Err Nothing))
    (sym (none_of c.args.self.now state c.in-None.ensures st)) refl
