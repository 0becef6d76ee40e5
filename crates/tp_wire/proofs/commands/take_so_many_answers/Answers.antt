use Rattle.std.proofs.lemmas.Result.{err_from_is_err_and}
use Rattle.tp_wire.specs.Meaning.{answer_at, times_at}
use Rattle.tp_wire.proofs.Counted.{ends, goes_on, is_done}
use Rattle.tp_wire.proofs.commands.take_so_many_answers.Goals as goal

pub returns-in_err-answer : goal.returns-in_err-answer
returns-in_err-answer c =
    let passed = err_from_is_err_and c.from_residual.result c.from_residual.ensures.1 in
    rw (passed.1, passed.2) (ends c.in_err-answer.field-0.0 answer_at c.loop.answers c.args.count c.loop.counter c.loop.cut (times_at answer_at c.args.count c.args.cut.now) c.loop-test.true c.in_err-answer.ensures c.loop.invariant)

pub loop-preserved : goal.loop-preserved
loop-preserved c =
    rw c.in_ok-add.ensures.added (goes_on answer_at c.loop.answers c.args.count c.loop.counter c.loop.cut c.in_ok-answer.answer c.take_answer.new.cut (times_at answer_at c.args.count c.args.cut.now) c.loop-test.true c.in_ok-answer.ensures c.loop.invariant)

pub returns : goal.returns
returns c = rw c.in_ok-new.ensures (is_done answer_at c.loop.answers c.args.count c.loop.counter c.loop.cut (times_at answer_at c.args.count c.args.cut.now) c.loop-test.false c.loop.invariant)
