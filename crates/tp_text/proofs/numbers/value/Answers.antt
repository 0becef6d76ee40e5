use Rattle.std.proofs.Common.{arith, refl}
use Rattle.tp_text.proofs.Numerals.{one_more, too_large}
use Rattle.tp_text.proofs.numbers.value.Goals as goal

pub returns-then-next-from : goal.returns-then-next-from
returns-then-next-from c =
    let large = too_large c.args.word.now c.loop-c.c-index c.loop-c.n c.args.limit c.loop-c-test.true c.requires c.loop-c.invariant.0 (omega arith) in
    rw large refl

pub loop-c-preserved : goal.loop-c-preserved
loop-c-preserved c =
    let more = one_more c.args.word.now c.loop-c.c-index c.loop-c.n c.loop-c-test.true c.requires c.loop-c.invariant.0 in
    (omega (arith, more), omega arith)
