use Rattle.std.proofs.Common.{◌∙◌, rules}
use Rattle.tp_shared.proofs.Turns.{acquires_as}
use Rattle.tp_shared.proofs.steps.win.Goals as goal

pub compare_exchange-requires : goal.compare_exchange-requires
compare_exchange-requires g c =
    let s = c.requires.seat in
    (c.loop.invariant.3 ∙ c.requires.table.0, search rules, acquires_as _ _ _ _ _ c.loop.invariant.2 s.0 s.1 s.2)
