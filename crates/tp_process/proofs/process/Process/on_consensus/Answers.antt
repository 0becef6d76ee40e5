use Rattle.std.proofs.Common.{sym, ap, subst, ◌∙◌, arith}
use Rattle.tp_process.proofs.Accepting.{accepts_now, consensus_over, consensus_refused, consensus_taken, kept_too}
use Rattle.tp_process.specs.State.{IsState}
use Rattle.tp_rules.specs.Process.{Step, with_sheet}
use Rattle.tp_rules.specs.Sheet.{with_command, with_accepted}
use Rattle.tp_process.proofs.process.Process.on_consensus.Goals as goal

pub returns-then-ballot-ge-STAMP_LIMIT-clause-outputs : goal.returns-then-ballot-ge-STAMP_LIMIT-clause-outputs
returns-then-ballot-ge-STAMP_LIMIT-clause-outputs c = λ s stands.
    c.nothing.ensures
    ∙ ap (λ (m : Step). m.1) (sym (consensus_over c.args.self.now.place.site c.args.from c.args.command.now c.args.stamp.0 c.args.ballot s c.if-ballot-ge-STAMP_LIMIT.true))

pub returns-then-ballot-ge-STAMP_LIMIT-clause-state : goal.returns-then-ballot-ge-STAMP_LIMIT-clause-state
returns-then-ballot-ge-STAMP_LIMIT-clause-state c = λ s stands low.
    subst (λ (m : Step). IsState c.args.self.now m.0)
    (sym (consensus_over c.args.self.now.place.site c.args.from c.args.command.now c.args.stamp.0 c.args.ballot s c.if-ballot-ge-STAMP_LIMIT.true))
    stands

pub returns-then-not-accepted-clause-outputs : goal.returns-then-not-accepted-clause-outputs
returns-then-not-accepted-clause-outputs c = λ s stands.
    let all = consensus_refused _ _ _ _ _ _ _ c.args.command.now c.args.stamp.0 c.args.ballot s c.in_ok-accepted.ensures.changed stands c.args.from (sym c.in_ok-accepted.ensures.accepts ∙ c.if-not-accepted.true) in
    c.nothing-then-not-accepted.ensures ∙ ap (λ (m : Step). m.1) (sym all.0)

pub returns-then-not-accepted-clause-state : goal.returns-then-not-accepted-clause-state
returns-then-not-accepted-clause-state c = λ s stands low.
    let all = consensus_refused _ _ _ _ _ _ _ c.args.command.now c.args.stamp.0 c.args.ballot s c.in_ok-accepted.ensures.changed stands c.args.from (sym c.in_ok-accepted.ensures.accepts ∙ c.if-not-accepted.true) in
    subst (λ (m : Step). IsState (record c.args.self.now { sheets = c.accept.new.sheets }) m.0) (sym all.0) all.1

pub returns-clause-outputs : goal.returns-clause-outputs
returns-clause-outputs c = λ s stands.
    let takes = sym c.in_ok-accepted.ensures.accepts ∙ c.if-not-accepted.false in
    c.in_ok-outputs.ensures
    ∙ ap (λ (m : Step). m.1) (sym (consensus_taken _ _ _ _ _ _ _ c.args.command.now c.args.stamp.0 c.args.ballot s c.in_ok-accepted.ensures.changed stands c.args.from takes (omega (arith, c.if-ballot-ge-STAMP_LIMIT.false))))

pub returns-clause-state : goal.returns-clause-state
returns-clause-state c = λ s stands low.
    let command = c.args.command.now in
    let t = c.args.stamp.0 in
    let takes = sym c.in_ok-accepted.ensures.accepts ∙ c.if-not-accepted.false in
    let now = accepts_now _ _ _ _ _ _ _ command t c.args.ballot s c.in_ok-accepted.ensures.changed stands takes in
    let kept_now = kept_too _ _ _ _ _ _ _ command _ (with_accepted c.args.ballot t (s.sheets command.id)) s c.requires c.in_ok-copy.ensures c.in_ok-keep.ensures now in
    subst (λ (m : Step). IsState c.bump.new.self m.0)
    (sym (consensus_taken _ _ _ _ _ _ _ command t c.args.ballot s c.in_ok-accepted.ensures.changed stands c.args.from takes (omega (arith, c.if-ballot-ge-STAMP_LIMIT.false))))
    (c.bump.ensures.state (with_sheet command.id (with_command command (with_accepted c.args.ballot t (s.sheets command.id))) s) kept_now low)
