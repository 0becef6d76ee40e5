use Rattle.std.proofs.Common.{sym, ◌∙◌}
use Rattle.tp_rules.specs.Executor.{Committed, committed_ids}
use Rattle.tp_executor.proofs.Answering.{none_next, none_unstable}
use Rattle.tp_executor.proofs.executor.Executor.step_for.Goals as goal

pub returns-in_default : goal.returns-in_default
returns-in_default c = λ state st.
    let m : Committed = record { key = c.args.key; command = c.args.command.now } in
    sym (none_next c.args.self.now.topology c.args.self.now.site state m c.in-Err.why c.in_default.not-NotDeclared (c.in-Err.ensures state st (sym (c.is_stable.ensures state.told (committed_ids state) st.book) ∙ c.if-not-is_stable.false)))

pub returns-then-not-is_stable : goal.returns-then-not-is_stable
returns-then-not-is_stable c = λ state st.
    let m : Committed = record { key = c.args.key; command = c.args.command.now } in
    sym (none_unstable c.args.self.now.topology c.args.self.now.site state m (sym (c.is_stable.ensures state.told (committed_ids state) st.book) ∙ c.if-not-is_stable.true))
