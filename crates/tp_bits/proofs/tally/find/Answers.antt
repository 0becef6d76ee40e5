use Rattle.std.proofs.Common.{arith}
use Rattle.std.proofs.lemmas.Option.{slice_get-get_or}
use Rattle.tp_bits.proofs.Sums.{sum_more}
use Rattle.tp_bits.proofs.tally.find.Goals as goal
use Rattle.tp_bits.specs.Bits.{itself}

pub loop-block-preserved : goal.loop-block-preserved
loop-block-preserved c =
    omega (arith, c.loop-block.invariant, c.if-left-count.false, sum_more itself c.args.counts.now c.loop-block.block _ (slice_get-get_or c.args.counts.now c.loop-block.block 0 c.loop-block-test.true))
