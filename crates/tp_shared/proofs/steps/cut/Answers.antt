use Rattle.std.proofs.Common.{◌≡◌, false, rules, subst}
use Rattle.tp_base.specs.Lists.{has}
use Rattle.tp_base.specs.Names.{same_name}
use Rattle.tp_base.specs.declared.names.ActorName.{ActorName}
use Rattle.tp_shared.proofs.Splits.{cuts}
use Rattle.tp_shared.proofs.steps.cut.Goals as goal

pub split_seat-requires : goal.split_seat-requires
split_seat-requires g c =
    let v = c.args.seat.now.me.0 in
    let s = c.requires.seat in
    let fresh = subst (λ (a : ActorName). has same_name a v.listed ≡ false) c.requires.actor c.requires.fresh in
    (c.requires.table.0, search rules, cuts _ v g.N.Naming.actor s.0 s.1 s.2 fresh c.args.seat.now.id)
