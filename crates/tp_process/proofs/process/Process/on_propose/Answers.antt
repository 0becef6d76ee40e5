use Rattle.std.proofs.Common.{sym, subst, ◌∙◌, arith}
use Rattle.tp_process.proofs.Proposing.{propose_refused, propose_taken, proposes_now, stamp_fits}
use Rattle.tp_process.specs.State.{IsState}
use Rattle.tp_rules.specs.Process.{Step}
use Rattle.tp_process.proofs.process.Process.on_propose.Goals as goal
use Rattle.tp_process.proofs.process.Process.on_propose.Goals.{then-floor-ge-STAMP_LIMIT-via-then-floor-ge-STAMP_LIMIT, then-floor-ge-STAMP_LIMIT-via-else-floor-ge-STAMP_LIMIT+then-not-takes_proposal}

pub returns-then-floor-ge-STAMP_LIMIT-clause-state : goal.returns-then-floor-ge-STAMP_LIMIT-clause-state
returns-then-floor-ge-STAMP_LIMIT-clause-state c = elim c.then-floor-ge-STAMP_LIMIT.branch [
  | then-floor-ge-STAMP_LIMIT-via-then-floor-ge-STAMP_LIMIT w ↦ λ s stands low. absurd (omega (arith, low, w.if-floor-ge-STAMP_LIMIT.true))
  | then-floor-ge-STAMP_LIMIT-via-else-floor-ge-STAMP_LIMIT+then-not-takes_proposal w ↦ λ s stands low.
      subst (λ (m : Step). IsState c.args.self.now m.0)
      (sym (propose_refused _ _ _ _ _ _ c.args.command.now s stands c.args.from c.args.floor.0 low (sym w.takes_proposal.ensures ∙ w.if-not-takes_proposal.true)))
      stands
]

pub returns-clause-state : goal.returns-clause-state
returns-clause-state c = λ s stands low.
    let command = c.args.command.now in
    let floor = c.args.floor.0 in
    let t = c.propose-stamp.result.0 in
    let takes = sym c.takes_proposal.ensures ∙ c.if-not-takes_proposal.false in
    let fits = stamp_fits _ _ _ _ _ _ command s stands floor t low c.propose-stamp.ensures.stamp takes in
    let kept = proposes_now _ _ _ _ _ _ command s stands _ _ t c.requires c.in_ok-copy.ensures c.in_ok-propose.ensures in
    subst (λ (m : Step). IsState c.promise.new.self m.0)
    (sym (propose_taken _ _ _ _ _ _ command s stands c.args.from floor t low c.propose-stamp.ensures.stamp takes))
    (c.in_ok-promise.ensures.state s _ c.args.self.now.clock kept fits.0 fits.1 c.propose-stamp.ensures.moved)
