use Rattle.std.proofs.Common.{◌∷◌, ◌∙◌, ap, sym, rules}
use Rattle.atomic_table.specs.Table.{rest}
use Rattle.tp_shared.specs.Known.{Known}
use Rattle.tp_shared.specs.Rule.{Slot}
use Rattle.tp_shared.proofs.Desks.{storing}
use Rattle.tp_shared.proofs.desk.Desk.release.Goals as goal

pub store-requires : goal.store-requires
store-requires c =
    let seat = c.self.inside.seat in
    let i = c.self.invariant in
    let put = c.exchange.ensures in
    let held = ap (λ (k : Known). k.holds) c.self.view_is ∙ c.requires.held in
    let table = ap (λ (k : Known). k.table) c.self.view_is ∙ c.requires.table in (
      put.0 ∙ table ∙ sym c.shared.view_is,
      search rules,
      storing _ _ _ seat.me.0 seat.me.1 c.self.inside.hand i.hand_is held i.lives i.shows c.exchange.new.seat.me
          (put.3 ∙ ap (λ (h : Slot). (seat.me.0, (0, h) ∷ rest seat.me.1)) c.take-journal.ensures.value),
    )
