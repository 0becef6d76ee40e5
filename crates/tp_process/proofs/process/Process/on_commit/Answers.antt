use Rattle.std.proofs.Common.{◌≡◌, ℕ, true, ◌++◌, List, sym, ap, subst, ◌∙◌}
use Rattle.tp_ops.specs.Parts.{is_accessed}
use Rattle.tp_process.proofs.Learning.{commit_taken}
use Rattle.tp_process.proofs.Proposing.{keeps}
use Rattle.tp_process.specs.State.{IsState}
use Rattle.tp_rules.specs.Process.{Step, learned}
use Rattle.tp_rules.specs.Sheet.{with_command}
use Rattle.tp_wire.specs.declared.message.Message.{Message}
use Rattle.tp_process.proofs.process.Process.on_commit.Goals as goal

pub returns-clause-outputs : goal.returns-clause-outputs
returns-clause-outputs c = λ s stands low.
    let command = c.args.command.now in
    let place = c.args.self.now.place in
    let accessed : is_accessed place.topology.partitions command c.args.partition.0 ≡ true =
    ap (λ (m : ℕ). is_accessed m command c.args.partition.0) (sym c.partitions.ensures.value) ∙ sym c.accesses.ensures ∙ c.if-not-accesses.false in
    let kept_now = keeps _ _ _ _ _ _ command s stands _ _ c.requires.command c.in_ok-copy.ensures c.in_ok-keep.ensures in
    c.in_ok-learn.ensures.outputs s (with_command command (s.sheets command.id)) kept_now low
    ∙ ap (λ (sent : List Message). sent ++ (learned place.topology place.site command.id c.args.partition.0 c.args.stamp.0 (with_command command (s.sheets command.id)) s).1) c.nothing-outputs.ensures
    ∙ ap (λ (m : Step). m.1) (sym (commit_taken place.topology place.site command c.args.partition.0 c.args.stamp.0 s accessed))

pub returns-clause-state : goal.returns-clause-state
returns-clause-state c = λ s stands low.
    let command = c.args.command.now in
    let place = c.args.self.now.place in
    let accessed : is_accessed place.topology.partitions command c.args.partition.0 ≡ true =
    ap (λ (m : ℕ). is_accessed m command c.args.partition.0) (sym c.partitions.ensures.value) ∙ sym c.accesses.ensures ∙ c.if-not-accesses.false in
    let kept_now = keeps _ _ _ _ _ _ command s stands _ _ c.requires.command c.in_ok-copy.ensures c.in_ok-keep.ensures in
    subst (λ (m : Step). IsState c.learn.new.self m.0)
    (sym (commit_taken place.topology place.site command c.args.partition.0 c.args.stamp.0 s accessed))
    (c.in_ok-learn.ensures.state s (with_command command (s.sheets command.id)) kept_now low)
