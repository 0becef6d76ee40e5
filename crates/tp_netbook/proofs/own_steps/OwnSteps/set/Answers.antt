use Rattle.std.proofs.Common.{is_some, map, set, sym, ap, subst, ◌∙◌}
use Rattle.std.proofs.lemmas.List.{map-set}
use Rattle.tp_bits.specs.Bits.{AreBits}
use Rattle.tp_netbook.proofs.own_steps.OwnSteps.set.Goals as goal

pub invariant_of-self : goal.invariant_of-self
invariant_of-self c =
    subst (λ bits. AreBits bits c.set.new.self)
    (ap (set (map is_some c.self.inside.steps.items) c.args.place) c.is_some.ensures ∙ sym (map-set is_some c.self.inside.steps.items c.args.place c.args.step))
    (c.set.ensures _ c.self.invariant)
