use Rattle.std.proofs.Common.{refl}
use Rattle.tp_promise.proofs.Numbers.{clear_further}
use Rattle.tp_promise.proofs.pairs.clear_to.Goals as goal

pub loop-pair-preserved : goal.loop-pair-preserved
loop-pair-preserved c = clear_further c.args.attached.now c.loop-pair.pair-index c.args.front c.args.last c.loop-pair.clear c.clear_before-clear.result _ _ c.loop-pair-test.true refl c.clear_before-clear.ensures c.loop-pair.invariant
