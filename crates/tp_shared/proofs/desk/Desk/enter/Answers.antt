use Rattle.std.proofs.Common.{◌∙◌, sym}
use Rattle.tp_shared.proofs.Desks.{entering_as}
use Rattle.tp_shared.proofs.desk.Desk.enter.Goals as goal

pub invariant_of-self : goal.invariant_of-self
invariant_of-self c =
    let d = c.self.inside in
    let s = c.in-Some-Some in
    entering_as d.seat.table_id d.seat.me.0 d.seat.me.1 d.hand s.journal c.enter.new.self d.count d.looked c.in-Ok.number d.crash c.crash_after-self-inside.result
    d.actor s.actor c.args.event c.args.outputs c.args.self.now c.self.invariant (sym c.take.ensures.value ∙ s.is-1) c.self.view_is c.in_default.is s.is-0
    c.requires.legal c.in-Ok.ensures.entered c.in-Ok.ensures.length c.crash_after-self-inside.ensures
