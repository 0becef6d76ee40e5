use Rattle.std.proofs.Common.{◌∙◌, rules}
use Rattle.tp_shared.proofs.Joins.{glues}
use Rattle.tp_shared.proofs.Turns.{looks_as}
use Rattle.tp_shared.proofs.steps.join.Goals as goal

pub join_seat-requires : goal.join_seat-requires
join_seat-requires c =
    let s = c.requires.seat in
    let o = c.requires.other in
    (c.requires.table.0, c.requires.table.1, o.2, search rules, glues _ c.args.seat.now.id c.args.other.id c.args.seat.now.me.0 c.args.other.me.0 s.0 o.0 s.1 o.1 s.2)

pub load-requires : goal.load-requires
load-requires c =
    let joined = c.join_seat.ensures in
    (joined.0 ∙ c.requires.table.0, search rules, looks_as _ _ _ _ _ joined.2 c.requires.seat.0)
