use Rattle.std.proofs.Common.{◌++◌, take, ◌∙◌, arith}
use Rattle.std.proofs.lemmas.Grind.{common_steps}
use Rattle.std.proofs.KnownBytes.{Appends-trans}
use Rattle.tp_outside.proofs.whole.write_all.Goals as goal

pub loop-rest-preserved : goal.loop-rest-preserved
loop-rest-preserved g c =
    let before = c.loop-rest.invariant in
    let here = c.in_ok-count.ensures in (
      (
        before.0.0 ++ take c.in_ok-count.count c.loop-rest.rest.now,
        grind (arith, common_steps, before.0.1),
        Appends-trans _ _ _ _ _ before.0.2 here.bytes,
      ),
      here.cause.kept (λ failed. cc) ∙ before.1,
    )
