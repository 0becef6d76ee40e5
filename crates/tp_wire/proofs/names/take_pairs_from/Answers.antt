use Rattle.std.proofs.lemmas.Result.{err_from_is_err_and}
use Rattle.tp_wire.specs.Meaning.{pairs_from}
use Rattle.tp_wire.proofs.Counted.{pairs_done, pairs_end, pairs_go_on}
use Rattle.tp_wire.proofs.names.take_pairs_from.Goals as goal

pub returns-in_err-pair : goal.returns-in_err-pair
returns-in_err-pair c =
    let passed = err_from_is_err_and c.from_residual.result c.from_residual.ensures.1 in
    rw (passed.1, passed.2) (pairs_end c.in_err-pair.field-0.0 c.loop.pairs c.args.count c.loop.counter c.loop.last c.args.hi c.loop.cut (pairs_from c.args.count c.args.lo c.args.hi c.args.cut.now) c.loop-test.true c.in_err-pair.ensures.read c.loop.invariant.read)

pub loop-preserved : goal.loop-preserved
loop-preserved c = record {
  read = rw c.in_ok-add.ensures.added (pairs_go_on c.loop.pairs c.args.count c.loop.counter c.loop.last c.args.hi c.loop.cut c.in_ok-pair.pair c.take_pair.new.cut (pairs_from c.args.count c.args.lo c.args.hi c.args.cut.now) c.loop-test.true c.in_ok-pair.ensures.read c.loop.invariant.read);
  within = c.in_ok-pair.ensures.within;
}

pub returns : goal.returns
returns c = rw c.in_ok-new.ensures (pairs_done c.loop.pairs c.args.count c.loop.counter c.loop.last c.args.hi c.loop.cut (pairs_from c.args.count c.args.lo c.args.hi c.args.cut.now) c.loop-test.false c.loop.invariant.read)
