use Rattle.std.proofs.Common.{◌∙◌, ap}
use Rattle.tp_shared.specs.Known.{Known}
use Rattle.tp_shared.specs.declared.view.View.{View}
use Rattle.atomic_table.specs.Table.{Me}
use Rattle.tp_shared.specs.Rule.{Slot}
use Rattle.tp_shared.proofs.Desks.{empty_hand, join_told}
use Rattle.tp_shared.proofs.desk.Desk.join.Goals as goal

pub returns-clause-longer : goal.returns-clause-longer
returns-clause-longer c =
    let i = c.self.invariant in
    let o = c.other.invariant in
    let v = c.self.inside.seat.me.0 in
    let w = c.other.inside.seat.me.0 in
    let waits = ap (λ (k : Known). k.holds) c.self.view_is ∙ c.requires.first.1 in
    let waitsʹ = ap (λ (k : Known). k.holds) c.other.view_is ∙ c.requires.other in
    join_told v w c.join.new.seat.me.0 c.self.inside.hand c.other.inside.hand c.args.self.now.seen c.args.other.seen
    (empty_hand v c.self.inside.seat.me.1 c.self.inside.hand i.hand_is waits)
    (empty_hand w c.other.inside.seat.me.1 c.other.inside.hand o.hand_is waitsʹ)
    (ap (λ (m : Me Slot View). m.0) c.join.ensures.same.1) c.join.ensures.looks
    (ap (λ (k : Known). k.seen) c.self.view_is) (ap (λ (k : Known). k.seen) c.other.view_is)
