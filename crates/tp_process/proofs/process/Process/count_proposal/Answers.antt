use Rattle.std.proofs.Common.{ℕ, Some, sym, ap, subst, ◌∙◌}
use Rattle.tp_base.proofs.Options.{when}
use Rattle.tp_process.proofs.Counting.{counts_fast, counts_none, counts_slow}
use Rattle.tp_process.proofs.Learning.{sheet_here}
use Rattle.tp_process.proofs.Outcomes.{if_ok, on_any}
use Rattle.tp_process.specs.Sheets.{sheet_at}
use Rattle.tp_process.specs.State.{IsState}
use Rattle.tp_quorum.specs.declared.choice.FastChoice.{FastChoice}
use Rattle.tp_rules.specs.Process.{Step, put_to_vote}
use Rattle.tp_rules.specs.Sheet.{acknowledged, putting}
use Rattle.tp_sheet.specs.SiteSheet.{SiteSheet}
use Rattle.tp_process.proofs.process.Process.count_proposal.Goals as goal

pub returns-in-Some-Fast-clause-outputs : goal.returns-in-Some-Fast-clause-outputs
returns-in-Some-Fast-clause-outputs c =
    let choice = sym c.acknowledge.ensures.choice ∙ c.in-Some-Fast.is ∙ ap (λ (x : FastChoice). Some x) c.in-Some-Fast.field-0-is in
    if_ok c.decide.result _ _ (λ outputs decided s stands within low.
    let counts = counts_fast _ _ _ _ _ _ _ _ _ c.args.id s c.acknowledge.ensures.changed stands within low c.in-Some-Fast.top choice in
    decided s (acknowledged c.args.rank.0 c.args.stamp.0 (s.sheets c.args.id)) counts.1 counts.2 ∙ ap (λ (m : Step). m.1) (sym counts.0))
    c.decide.ensures.outputs

pub returns-in-Some-Fast-clause-state : goal.returns-in-Some-Fast-clause-state
returns-in-Some-Fast-clause-state c =
    let choice = sym c.acknowledge.ensures.choice ∙ c.in-Some-Fast.is ∙ ap (λ (x : FastChoice). Some x) c.in-Some-Fast.field-0-is in
    when c.decide.result (λ decided s stands within low.
    let counts = counts_fast _ _ _ _ _ _ _ _ _ c.args.id s c.acknowledge.ensures.changed stands within low c.in-Some-Fast.top choice in
    subst (λ (m : Step). IsState c.decide.new.self m.0) (sym counts.0)
    (decided s (acknowledged c.args.rank.0 c.args.stamp.0 (s.sheets c.args.id)) counts.1 counts.2))
    c.decide.ensures.state

pub returns-in-Some-Slow-clause-outputs : goal.returns-in-Some-Slow-clause-outputs
returns-in-Some-Slow-clause-outputs c =
    let place = c.args.self.now.place in
    let top = c.in-Some-Slow.top in
    let choice = sym c.acknowledge.ensures.choice ∙ c.in-Some-Slow.is ∙ ap (λ (x : FastChoice). Some x) c.in-Some-Slow.field-0-is in
    if_ok c.put_to_vote.result _ _ (λ outputs put s stands within low.
    let counts = counts_slow _ _ _ _ _ _ _ _ _ c.args.id s c.acknowledge.ensures.changed stands within low top choice in
    let here = sheet_here _ _ _ _ _ _ c.args.id (putting place.topology place.site.rank.0 top.0 (acknowledged c.args.rank.0 c.args.stamp.0 (s.sheets c.args.id))) s counts.1 in
    put
    ∙ ap (λ (b : ℕ). put_to_vote place.topology place.site b top.0 (sheet_at place.topology place.site c.acknowledge.new.sheets c.args.id).sheet.command) c.from.ensures
    ∙ ap (λ (kept : SiteSheet). put_to_vote place.topology place.site place.site.rank.0 top.0 kept.sheet.command) here
    ∙ ap (λ (m : Step). m.1) (sym counts.0))
    c.put_to_vote.ensures

pub returns-in-Some-Slow-clause-state : goal.returns-in-Some-Slow-clause-state
returns-in-Some-Slow-clause-state c =
    let top = c.in-Some-Slow.top in
    let choice = sym c.acknowledge.ensures.choice ∙ c.in-Some-Slow.is ∙ ap (λ (x : FastChoice). Some x) c.in-Some-Slow.field-0-is in
    on_any c.put_to_vote.result (λ s stands within low.
    let counts = counts_slow _ _ _ _ _ _ _ _ _ c.args.id s c.acknowledge.ensures.changed stands within low top choice in
    subst (λ (m : Step). IsState (record c.args.self.now { sheets = c.acknowledge.new.sheets }) m.0) (sym counts.0) counts.1)

pub returns-in-None-clause-outputs : goal.returns-in-None-clause-outputs
returns-in-None-clause-outputs c = λ s stands within low.
    c.nothing.ensures
    ∙ sym (counts_none _ _ _ _ _ _ _ _ _ c.args.id s c.acknowledge.ensures.changed stands within low (sym c.acknowledge.ensures.choice ∙ c.in-None.is)).0

pub returns-in-None-clause-state : goal.returns-in-None-clause-state
returns-in-None-clause-state c = λ s stands within low.
    (counts_none _ _ _ _ _ _ _ _ _ c.args.id s c.acknowledge.ensures.changed stands within low (sym c.acknowledge.ensures.choice ∙ c.in-None.is)).1
