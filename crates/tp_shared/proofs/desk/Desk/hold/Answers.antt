use Rattle.std.proofs.Common.{Some, ◌∙◌, ap, sym}
use Rattle.tp_shared.proofs.Desks.{empty_hand, won_slot}
use Rattle.tp_shared.proofs.Settled.{settled_as}
use Rattle.tp_shared.proofs.desk.Desk.hold.Goals as goal
use Rattle.tp_shared.specs.Known.{Known}

pub exchange-requires : goal.exchange-requires
exchange-requires g c =
    let table = ap (λ (k : Known). k.table) c.self.view_is ∙ c.requires.table ∙ sym c.shared.view_is in
    (c.win.ensures.table ∙ table, (Some c.win.new.seat.me.0.seen, won_slot c.self.inside.seat.me.0 c.win.new.seat.me c.win.ensures.won))

pub returns-clause-settled : goal.returns-clause-settled
returns-clause-settled g c = λ free all.
    let d = c.self.inside in
    let i = c.self.invariant in
    let waits = ap (λ (k : Known). k.holds) c.self.view_is ∙ c.requires.free in
    settled_as d.seat.table_id d.seat.me.0 d.hand c.args.self.now c.win.new.seat.me c.exchange.result c.in-Some.journal c.self.view_is
    (empty_hand d.seat.me.0 d.seat.me.1 d.hand i.hand_is waits) i.shows c.win.ensures.won c.exchange.ensures.2 c.in-Some.is free all
