use Rattle.std.proofs.Common.{ℕ, sym, subst}
use Rattle.tp_choice.specs.Choosing.{IsChosen}
use Rattle.tp_choice.proofs.Cases.{choice_cases}
use Rattle.tp_topology.specs.Shape.{in_ring}
use Rattle.tp_choice.proofs.recovery.choose.Goals as goal

pub returns-clause-chosen : goal.returns-clause-chosen
returns-clause-chosen c =
    subst (λ (stamp : ℕ). IsChosen (in_ring c.args.topology.now c.args.home.0) c.args.home.0 c.args.answers.now stamp) (sym c.chosen.ensures) (choice_cases (in_ring c.args.topology.now c.args.home.0) c.args.home.0 c.args.answers.now)
