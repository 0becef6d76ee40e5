use Rattle.std.proofs.Common.{◌≡◌, ◌-◌, ℕ, ap, map, ◌∙◌, arith}
use Rattle.tp_gen.proofs.generator.picks.Goals as goal
use Rattle.tp_gen.specs.Generator.{pick}
use Rattle.tp_topology.specs.Counting.{up_to}

pub returns : goal.returns
returns c =
    let all : c.loop-j.j - 1 ≡ 400 = omega (arith, c.loop-j-test.false, c.loop-j.auto.j-end) in
    c.loop-j.invariant ∙ ap (λ (k : ℕ). map (pick c.args.n) (up_to k)) all
