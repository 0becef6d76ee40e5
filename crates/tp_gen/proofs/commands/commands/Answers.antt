use Rattle.std.proofs.Common.{◌≡◌, ◌-◌, ℕ, ap, map, ◌++◌, [], ◌∷◌, ◌∙◌, arith}
use Rattle.tp_gen.proofs.Making.{one_more}
use Rattle.tp_gen.proofs.commands.commands.Goals as goal
use Rattle.tp_gen.specs.Generator.{command}
use Rattle.tp_ops.specs.declared.command.Command.{Command}
use Rattle.tp_topology.specs.Counting.{up_to}

pub loop-i-preserved : goal.loop-i-preserved
loop-i-preserved c =
    one_more (command c.args.n) c.loop-i.commands c.add.new.self c.loop-i.i c.loop-i.auto.i c.loop-i.invariant
    (c.in_ok-add.ensures.added ∙ ap (λ (made : Command). c.loop-i.commands ++ made ∷ []) c.in_ok-command.ensures)

pub returns : goal.returns
returns c =
    let all : c.loop-i.i - 1 ≡ 200 = omega (arith, c.loop-i-test.false, c.loop-i.auto.i-end) in
    c.loop-i.invariant ∙ ap (λ (k : ℕ). map (command c.args.n) (up_to k)) all
