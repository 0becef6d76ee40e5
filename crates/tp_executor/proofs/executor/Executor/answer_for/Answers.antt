use Rattle.tp_rules.specs.Executor.{committed_ids}
use Rattle.tp_executor.proofs.Answering.{stable_to}
use Rattle.tp_executor.proofs.executor.Executor.answer_for.Goals as goal

pub returns : goal.returns
returns c = λ state st.
    c.answer_where_stable.ensures state st
    (stable_to c.args.self.now.topology state c.threshold-threshold.result c.args.key.stamp.0
    (record { stable = c.threshold-threshold.ensures.stable state.told (committed_ids state) st.book; greatest = λ s. c.threshold-threshold.ensures.greatest state.told (committed_ids state) s st.book })
    c.if-threshold-key.false)
