use Rattle.std.proofs.Common.{refl, sym, ◌∙◌}
use Rattle.std.proofs.lemmas.Option.{slice_get_read}
use Rattle.tp_base.proofs.Members.{in_get}
use Rattle.tp_worker.proofs.threads.is_any_spent.Goals as goal

pub returns-in-Spent : goal.returns-in-Spent
returns-in-Spent g c = λ yes none.
    none c.cell-item.result
    (in_get c.args.cells.now c.loop-cell.cell-index c.cell-item.result (slice_get_read c.args.cells.now _ c.loop-cell.cell-index c.cell-item.result refl c.loop-cell-test.true c.cell-item.is))
    (sym c.state.ensures ∙ c.in-Spent.is)
