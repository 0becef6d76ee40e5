use Rattle.std.proofs.Common.{sym, ◌∙◌}
use Rattle.tp_print.proofs.FirstTold.{result_told}
use Rattle.tp_print.proofs.results.note_result.Goals as goal

pub returns-in_ok-keep-in-MResult : goal.returns-in_ok-keep-in-MResult
returns-in_ok-keep-in-MResult c = λ other p low high.
    result_told c.args.results.now c.keep.new.results c.in-MResult.id c.args.actor c.in-MResult.partition _
    c.args.message.now.body c.in-MResult.is
    (sym c.is_session.ensures ∙ c.if-is_session.true) c.in_ok-keep-in-MResult.ensures.here
    c.in_ok-keep-in-MResult.ensures.others other p
