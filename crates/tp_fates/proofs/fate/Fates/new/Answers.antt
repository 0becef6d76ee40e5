use Rattle.std.proofs.Common.{arith}
use Rattle.std.proofs.lemmas.Option.{slice_get-get_or}
use Rattle.tp_fates.proofs.FateTables.{more_lines}
use Rattle.tp_fates.proofs.fate.Fates.new.Goals as goal

pub loop-k-preserved : goal.loop-k-preserved
loop-k-preserved c = more_lines c.args.plan.now c.loop-k.k c.loop-k.fates c.add.new.self _ (omega (arith, c.loop-k-test.true, c.loop-k.auto.k-end))
    (slice_get-get_or c.args.plan.now _ _ (omega (arith, c.loop-k-test.true, c.loop-k.auto.k-end))) c.loop-k.invariant c.in_ok-add.ensures
