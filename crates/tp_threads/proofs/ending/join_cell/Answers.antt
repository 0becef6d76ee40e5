use Rattle.std.proofs.Common.{ap, subst, ◌∙◌}
use Rattle.tp_base.specs.Lists.{IsPrefixOf}
use Rattle.tp_shared.specs.Known.{Known, joined}
use Rattle.tp_threads.proofs.Joining.{joined_now}
use Rattle.tp_threads.proofs.ending.join_cell.Goals as goal

pub returns-clause-joined : goal.returns-clause-joined
returns-clause-joined g c =
    let same = c.parts-actor.ensures.parts.1 in
    joined_now g.A.Actor.identity_of g.A.Actor.is_spent g.A.Actor.stands c.args.cell c.args.first.now c.join.new.self
    (c.join.ensures.same ∙ ap (λ (k : Known). joined c.args.first.now k) same)
    (subst (λ (k : Known). IsPrefixOf k.seen c.join.new.self.seen) same c.join.ensures.longer.1)
    c.parts-actor.ensures.cell
