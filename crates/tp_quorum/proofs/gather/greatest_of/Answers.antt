use Rattle.std.proofs.Common.{◌≡◌, max, ◌∙◌, arith}
use Rattle.tp_quorum.proofs.Present.{greatest_some, greatest_none}
use Rattle.tp_quorum.proofs.gather.greatest_of.Goals as goal
use Rattle.tp_quorum.proofs.gather.greatest_of.Goals.{in-Some+then-top-number, in-Some+else-top-number, in-None}

pub loop-value-preserved : goal.loop-value-preserved
loop-value-preserved c = elim c.match-value.branch [
  | in-Some+then-top-number w ↦
      let more = greatest_some _ _ _ _ w.in-Some.is c.loop-value-test.true c.loop-value.invariant in
      let same : c.match-value.top ≡ max c.loop-value.top w.in-Some.number = omega arith in same ∙ more
  | in-Some+else-top-number w ↦
      let more = greatest_some _ _ _ _ w.in-Some.is c.loop-value-test.true c.loop-value.invariant in
      let same : c.match-value.top ≡ max c.loop-value.top w.in-Some.number = omega arith in same ∙ more
  | in-None w ↦ w.top-is ∙ greatest_none _ _ _ w.in-None.is c.loop-value-test.true c.loop-value.invariant
]
