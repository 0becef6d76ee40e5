use Rattle.std.proofs.Common.{List, Some, ◌-◌, set, ap, sym, ◌∙◌}
use Rattle.tp_base.specs.Tables.{with_nth}
use Rattle.tp_ops.specs.declared.operation.Answer.{Answer}
use Rattle.tp_session.specs.States.{parts_at}
use Rattle.tp_session.proofs.Steps.{received}
use Rattle.tp_session.proofs.session.Session.receive.Goals as goal

pub returns-in_ok-answers-clause-state : goal.returns-in_ok-answers-clause-state
returns-in_ok-answers-clause-state c =
    let kept = c.args.self.now.kept.items in
    let n = c.args.id.number in
    received _ _ _ _ _ c.keep.ensures.identity c.requires.from c.requires.to (sym c.awaits.ensures ∙ c.if-awaits.true)
    (c.keep.ensures.kept ∙ ap (λ (answers : List Answer). set kept (n - 1) (with_nth (parts_at kept n) c.args.q.0 (Some answers))) c.in_ok-answers.ensures)
    c.keep.ensures.unanswered
