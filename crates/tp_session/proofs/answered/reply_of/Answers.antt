use Rattle.std.proofs.Common.{ℕ, List, Some, ap, sym, ◌∙◌, arith}
use Rattle.tp_ops.specs.declared.operation.Answer.{Answer}
use Rattle.tp_ops.specs.Parts.{answers_in, merged}
use Rattle.tp_session.proofs.Tables.{reply_whole}
use Rattle.tp_session.proofs.answered.reply_of.Goals as goal

pub returns : goal.returns
returns c =
    ap (λ (answers : List Answer). Some answers)
    (c.in_ok-answers.ensures ∙ ap (λ (m : ℕ). merged m c.args.command.now.ops (answers_in c.args.parts.now)) c.partitions.ensures.value)
    ∙ reply_whole c.args.topology.now c.args.parts.now c.args.command.now (omega arith) (sym c.is_whole.ensures ∙ c.if-not-is_whole.false)
