use Rattle.std.proofs.Common.{List, [], ◌∷◌, ◌++◌, sym, ap, subst, ◌∙◌}
use Rattle.tp_choice.specs.declared.answer.RecoveryAnswer.{RecoveryAnswer}
use Rattle.tp_process.proofs.Accepting.{kept_too}
use Rattle.tp_process.proofs.Recovering.{agrees_none, agrees_some}
use Rattle.tp_process.specs.State.{IsState, answer_with}
use Rattle.tp_rules.specs.Process.{Step}
use Rattle.tp_rules.specs.Sheet.{with_ballot}
use Rattle.tp_wire.specs.declared.message.Message.{Message}
use Rattle.tp_process.proofs.process.Process.answer_with_old_proposal.Goals as goal

pub returns-in_ok-add-in-Some-clause-outputs : goal.returns-in_ok-add-in-Some-clause-outputs
returns-in_ok-add-in-Some-clause-outputs c = λ s stands.
    let place = c.args.self.now.place in
    let command = c.args.command.now in
    let all = agrees_some _ _ _ _ _ _ _ command c.args.ballot s c.in_ok-told.ensures.changed stands c.in-Some.told (sym c.in_ok-told.ensures.answer ∙ c.in-Some.is) in
    c.in_ok-add-in-Some.ensures.added
    ∙ ap (λ (sent : List Message). sent ++ c.answer.result ∷ []) c.nothing-outputs.ensures
    ∙ ap (λ (m : Message). m ∷ []) c.answer.ensures
    ∙ ap (λ (told : RecoveryAnswer). answer_with place.site c.args.from command.id c.args.ballot told ∷ []) (sym all.1)
    ∙ ap (λ (m : Step). m.1) (sym (all.0 c.args.from))

pub returns-in_ok-add-in-Some-clause-state : goal.returns-in_ok-add-in-Some-clause-state
returns-in_ok-add-in-Some-clause-state c = λ s stands.
    let command = c.args.command.now in
    let all = agrees_some _ _ _ _ _ _ _ command c.args.ballot s c.in_ok-told.ensures.changed stands c.in-Some.told (sym c.in_ok-told.ensures.answer ∙ c.in-Some.is) in
    subst (λ (m : Step). IsState (record c.args.self.now { sheets = c.keep.new.sheets }) m.0) (sym (all.0 c.args.from))
    (kept_too _ _ _ _ _ _ _ command _ (with_ballot c.args.ballot (s.sheets command.id)) s c.requires c.in_ok-copy-in-Some.ensures c.in_ok-keep-in-Some.ensures all.2)

pub returns-in-None-clause-outputs : goal.returns-in-None-clause-outputs
returns-in-None-clause-outputs c = λ s stands.
    let all = agrees_none _ _ _ _ _ _ _ c.args.command.now c.args.ballot s c.in_ok-told.ensures.changed stands (sym c.in_ok-told.ensures.answer ∙ c.in-None.is) in
    c.nothing.ensures ∙ ap (λ (m : Step). m.1) (sym (all.0 c.args.from))

pub returns-in-None-clause-state : goal.returns-in-None-clause-state
returns-in-None-clause-state c = λ s stands.
    let all = agrees_none _ _ _ _ _ _ _ c.args.command.now c.args.ballot s c.in_ok-told.ensures.changed stands (sym c.in_ok-told.ensures.answer ∙ c.in-None.is) in
    subst (λ (m : Step). IsState (record c.args.self.now { sheets = c.promise.new.sheets }) m.0) (sym (all.0 c.args.from)) all.1
