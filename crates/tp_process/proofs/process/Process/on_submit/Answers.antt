use Rattle.std.proofs.Common.{◌≡◌, true, ◌++◌, sym, ap, subst, ◌∙◌, arith}
use Rattle.std.specs.Prelude.{◌==◌}
use Rattle.std.proofs.lemmas.Bool.{and_parts}
use Rattle.tp_process.proofs.Proposing.{stamp_fits, submit_refused, submit_taken, submits_now}
use Rattle.tp_process.specs.State.{IsState, takes_proposal, takes_submission}
use Rattle.tp_rules.specs.Process.{Step, bumps, proposals}
use Rattle.tp_rules.specs.Sheet.{command_or, ring_rule}
use Rattle.tp_sheet.specs.SiteSheet.{SiteSheet}
use Rattle.tp_process.proofs.process.Process.on_submit.Goals as goal

pub returns-then-not-takes_submission-clause-state : goal.returns-then-not-takes_submission-clause-state
returns-then-not-takes_submission-clause-state c = λ s stands.
    subst (λ (m : Step). IsState c.args.self.now m.0)
    (sym (submit_refused _ _ _ _ _ _ c.args.command.now s stands (sym c.takes_submission.ensures.value ∙ c.if-not-takes_submission.true)))
    stands

pub returns-clause-outputs : goal.returns-clause-outputs
returns-clause-outputs c = λ s stands.
    let place = c.args.self.now.place in
    let command = c.args.command.now in
    let t = c.propose-stamp.result.0 in
    let takes = sym c.takes_submission.ensures.value ∙ c.if-not-takes_submission.false in
    c.in_ok-outputs.ensures
    ∙ ap (λ (kept : SiteSheet). proposals (ring_rule place.topology) place.site command t ++ bumps place.topology place.site (command_or command kept.sheet) t) (stands.sheets_are command.id)
    ∙ ap (λ (m : Step). m.1) (sym (submit_taken _ _ _ _ _ _ command s stands t c.propose-stamp.ensures.stamp takes))

pub returns-clause-state : goal.returns-clause-state
returns-clause-state c = λ s stands.
    let p = c.args.self.now in
    let command = c.args.command.now in
    let t = c.propose-stamp.result.0 in
    let takes : takes_submission p command ≡ true = sym c.takes_submission.ensures.value ∙ c.if-not-takes_submission.false in
    let proposes = (and_parts (command.home.0 == p.place.site.rank.0) (takes_proposal p command) takes).1 in
    let fits = stamp_fits _ _ _ _ _ _ command s stands 0 t (omega arith) c.propose-stamp.ensures.stamp proposes in
    let kept = submits_now _ _ _ _ _ _ command s stands _ _ t c.requires c.in_ok-copy.ensures fits.1 c.in_ok-submit.ensures in
    subst (λ (m : Step). IsState c.promise.new.self m.0)
    (sym (submit_taken _ _ _ _ _ _ command s stands t c.propose-stamp.ensures.stamp takes))
    (c.in_ok-promise.ensures.state s _ p.clock kept fits.0 fits.1 c.propose-stamp.ensures.moved)
