use Rattle.std.proofs.Common.{Option, sym, ap, subst, ◌∙◌}
use Rattle.std.specs.Option.{option_map}
use Rattle.tp_base.proofs.Options.{when}
use Rattle.tp_base.specs.declared.names.Stamp.{Stamp}
use Rattle.tp_process.proofs.Outcomes.{if_ok}
use Rattle.tp_process.proofs.Voting.{votes_none, votes_some}
use Rattle.tp_process.specs.State.{IsState}
use Rattle.tp_rules.specs.Process.{Step}
use Rattle.tp_rules.specs.Sheet.{with_vote}
use Rattle.tp_process.proofs.process.Process.count_vote.Goals as goal

pub returns-in-Some-clause-outputs : goal.returns-in-Some-clause-outputs
returns-in-Some-clause-outputs c =
    let decision = sym c.vote.ensures.decision ∙ ap (λ (o : Option Stamp). option_map (λ t. t.0) o) c.in-Some.is in
    if_ok c.decide.result _ _ (λ outputs decided s stands within.
    let votes = votes_some _ _ _ _ _ _ _ _ _ c.args.id s c.vote.ensures.changed stands within c.in-Some.stamp.0 decision in
    decided s (with_vote c.args.rank.0 (s.sheets c.args.id)) votes.1 votes.2 ∙ ap (λ (m : Step). m.1) (sym votes.0))
    c.decide.ensures.outputs

pub returns-in-Some-clause-state : goal.returns-in-Some-clause-state
returns-in-Some-clause-state c =
    let decision = sym c.vote.ensures.decision ∙ ap (λ (o : Option Stamp). option_map (λ t. t.0) o) c.in-Some.is in
    when c.decide.result (λ decided s stands within.
    let votes = votes_some _ _ _ _ _ _ _ _ _ c.args.id s c.vote.ensures.changed stands within c.in-Some.stamp.0 decision in
    subst (λ (m : Step). IsState c.decide.new.self m.0) (sym votes.0)
    (decided s (with_vote c.args.rank.0 (s.sheets c.args.id)) votes.1 votes.2))
    c.decide.ensures.state

pub returns-in-None-clause-outputs : goal.returns-in-None-clause-outputs
returns-in-None-clause-outputs c = λ s stands within.
    c.nothing.ensures
    ∙ sym (votes_none _ _ _ _ _ _ _ _ _ c.args.id s c.vote.ensures.changed stands within (sym c.vote.ensures.decision ∙ ap (λ (o : Option Stamp). option_map (λ t. t.0) o) c.in-None.is)).0

pub returns-in-None-clause-state : goal.returns-in-None-clause-state
returns-in-None-clause-state c = λ s stands within.
    (votes_none _ _ _ _ _ _ _ _ _ c.args.id s c.vote.ensures.changed stands within (sym c.vote.ensures.decision ∙ ap (λ (o : Option Stamp). option_map (λ t. t.0) o) c.in-None.is)).1
