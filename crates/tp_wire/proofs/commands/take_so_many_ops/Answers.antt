use Rattle.std.proofs.lemmas.Result.{err_from_is_err_and}
use Rattle.tp_wire.specs.Meaning.{op_at, times_at}
use Rattle.tp_wire.proofs.Counted.{ends, goes_on, is_done}
use Rattle.tp_wire.proofs.commands.take_so_many_ops.Goals as goal

pub returns-in_err-op : goal.returns-in_err-op
returns-in_err-op c =
    let passed = err_from_is_err_and c.from_residual.result c.from_residual.ensures.1 in
    rw (passed.1, passed.2) (ends c.in_err-op.field-0.0 op_at c.loop.ops c.args.count c.loop.counter c.loop.cut (times_at op_at c.args.count c.args.cut.now) c.loop-test.true c.in_err-op.ensures c.loop.invariant)

pub loop-preserved : goal.loop-preserved
loop-preserved c =
    rw c.in_ok-add.ensures.added (goes_on op_at c.loop.ops c.args.count c.loop.counter c.loop.cut c.in_ok-op.op c.take_op.new.cut (times_at op_at c.args.count c.args.cut.now) c.loop-test.true c.in_ok-op.ensures c.loop.invariant)

pub returns : goal.returns
returns c = rw c.in_ok-new.ensures (is_done op_at c.loop.ops c.args.count c.loop.counter c.loop.cut (times_at op_at c.args.count c.args.cut.now) c.loop-test.false c.loop.invariant)
