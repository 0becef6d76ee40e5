use Rattle.std.proofs.Common.{◌≡◌, ◌-◌, length, ap, ◌∙◌, arith}
use Rattle.tp_netbook.proofs.Parts.{lines_from}
use Rattle.tp_netbook.proofs.line.lines_of.Goals as goal
use Rattle.tp_rules.specs.Plan.{plan_of}

pub returns : goal.returns
unfolding plan_of
returns c =
    let whole : length c.as_slice-plan.result.now ≡ length c.args.script.now.plan = ap length c.as_slice-plan.ensures in
    let last : length c.args.script.now.plan - c.loop-k.k ≡ 0 = omega (arith, c.loop-k-test.false, whole) in
    c.loop-k.invariant ∙ ap (lines_from c.args.site c.args.script.now.plan) last
