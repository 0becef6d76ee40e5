use Rattle.std.proofs.Common.{Option, sym, ap, subst, ◌∙◌}
use Rattle.std.specs.Option.{option_map}
use Rattle.tp_base.specs.declared.names.Stamp.{Stamp}
use Rattle.tp_process.proofs.Answering.{answers_none, answers_some}
use Rattle.tp_process.proofs.Learning.{sheet_here}
use Rattle.tp_process.proofs.Outcomes.{if_ok, on_any}
use Rattle.tp_process.specs.State.{IsState}
use Rattle.tp_rules.specs.Process.{Step, put_to_vote}
use Rattle.tp_rules.specs.Sheet.{putting, with_answer}
use Rattle.tp_sheet.specs.SiteSheet.{SiteSheet}
use Rattle.tp_process.proofs.process.Process.count_answer.Goals as goal

pub returns-in-Some-clause-outputs : goal.returns-in-Some-clause-outputs
returns-in-Some-clause-outputs c =
    let place = c.args.self.now.place in
    let t = c.in-Some.stamp.0 in
    let choice = sym c.answer.ensures.choice ∙ ap (λ (o : Option Stamp). option_map (λ t. t.0) o) c.in-Some.is in
    if_ok c.put_to_vote.result _ _ (λ outputs put s stands within low.
    let counts = answers_some _ _ _ _ _ _ _ c.args.told c.args.ballot c.args.id s c.answer.ensures.changed stands within low t choice in
    let here = sheet_here _ _ _ _ _ _ c.args.id (putting place.topology c.args.ballot t (with_answer c.args.told (s.sheets c.args.id))) s counts.1 in
    put
    ∙ ap (λ (kept : SiteSheet). put_to_vote place.topology place.site c.args.ballot t kept.sheet.command) here
    ∙ ap (λ (m : Step). m.1) (sym counts.0))
    c.put_to_vote.ensures

pub returns-in-Some-clause-state : goal.returns-in-Some-clause-state
returns-in-Some-clause-state c =
    let choice = sym c.answer.ensures.choice ∙ ap (λ (o : Option Stamp). option_map (λ t. t.0) o) c.in-Some.is in
    on_any c.put_to_vote.result (λ s stands within low.
    let counts = answers_some _ _ _ _ _ _ _ c.args.told c.args.ballot c.args.id s c.answer.ensures.changed stands within low c.in-Some.stamp.0 choice in
    subst (λ (m : Step). IsState (record c.args.self.now { sheets = c.answer.new.sheets }) m.0) (sym counts.0) counts.1)

pub returns-in-None-clause-outputs : goal.returns-in-None-clause-outputs
returns-in-None-clause-outputs c = λ s stands within low.
    c.nothing.ensures
    ∙ sym (answers_none _ _ _ _ _ _ _ c.args.told c.args.ballot c.args.id s c.answer.ensures.changed stands within low (sym c.answer.ensures.choice ∙ ap (λ (o : Option Stamp). option_map (λ t. t.0) o) c.in-None.is)).0

pub returns-in-None-clause-state : goal.returns-in-None-clause-state
returns-in-None-clause-state c = λ s stands within low.
    (answers_none _ _ _ _ _ _ _ c.args.told c.args.ballot c.args.id s c.answer.ensures.changed stands within low (sym c.answer.ensures.choice ∙ ap (λ (o : Option Stamp). option_map (λ t. t.0) o) c.in-None.is)).1
