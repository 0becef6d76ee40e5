use Rattle.std.proofs.Common.{ℕ, sym, subst}
use Rattle.tp_process.proofs.Recovering.{late_fits, late_stamp, proposes_late_now}
use Rattle.tp_process.specs.State.{IsState}
use Rattle.tp_rules.specs.Process.{propose_and_answer}
use Rattle.tp_rules.specs.Sheet.{ring_rule}
use Rattle.tp_process.proofs.process.Process.propose_and_answer.Goals as goal

pub returns-in_ok-promise-in-Some-clause-state : goal.returns-in_ok-promise-in-Some-clause-state
returns-in_ok-promise-in-Some-clause-state c = λ s stands.
    let place = c.args.self.now.place in
    let command = c.args.command.now in
    let t = c.propose-stamp.result.0 in
    let fits = late_fits _ _ _ _ _ _ command s stands t c.propose-stamp.ensures.stamp c.requires.room in
    let kept = proposes_late_now _ _ _ _ _ _ command s stands _ _ c.args.ballot t c.requires.command c.in_ok-copy.ensures c.requires.above c.in_ok-told.ensures.changed in
    subst (λ (n : ℕ). IsState c.promise.new.self (propose_and_answer (ring_rule place.topology) place.site c.args.from command c.args.ballot n (s.sheets command.id) s).0)
    (sym (late_stamp _ _ _ _ _ _ command s stands t c.propose-stamp.ensures.stamp))
    (c.in_ok-promise-in-Some.ensures.state s _ c.args.self.now.clock kept fits.0 fits.1 c.propose-stamp.ensures.moved)
