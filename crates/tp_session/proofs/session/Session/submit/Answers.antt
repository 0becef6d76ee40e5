use Rattle.std.proofs.Common.{ℕ, ◌+◌, ap, sym, ◌∙◌}
use Rattle.tp_session.proofs.Steps.{submitted}
use Rattle.tp_session.proofs.session.Session.submit.Goals as goal

pub returns-clause-state : goal.returns-clause-state
returns-clause-state c = λ state stands next.
    submitted _ _ _ c.in_ok-open.ensures.identity (next ∙ ap (λ (m : ℕ). m + 1) (sym stands.submitted)) c.in_ok-open.ensures.kept
    c.in_ok-open.ensures.unanswered state stands
