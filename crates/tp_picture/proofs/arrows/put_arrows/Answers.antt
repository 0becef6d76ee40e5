use Rattle.std.proofs.Common.{◌≡◌, ◌+◌, ◌++◌, length, refl, sym, ap, ◌∙◌, Option, Some}
use Rattle.std.proofs.lemmas.Option.{slice_get_read}
use Rattle.tp_picture.proofs.Growing.{number_more}
use Rattle.tp_picture.proofs.Places.{nth_found}
use Rattle.tp_picture.specs.Shapes.{entry_arrows, event_arrows}
use Rattle.tp_base.specs.Tables.{nth}
use Rattle.tp_rules.specs.declared.event.Entry.{Entry}
use Rattle.tp_picture.proofs.arrows.put_arrows.Goals as goal

pub loop-i-preserved : goal.loop-i-preserved
loop-i-preserved c =
    let scene = c.args.scene.now in
    let i = c.loop-i.i in
    let entries = c.entries-entries.result.now in
    let here : nth scene.journal (i + 1) ≡ Some c.index-entries-i.result =
    nth_found scene.journal entries i c.index-entries-i.result c.entries-entries.ensures
    (slice_get_read entries (length entries) i c.index-entries-i.result refl c.loop-i-test.true c.index-entries-i.is) in
    number_more (λ n. entry_arrows scene n (nth scene.journal n)) c.args.shapes.now.items c.loop-i.shapes.items c.put_event.new.shapes.items i
    c.loop-i.invariant
    (c.in_ok-put_event.ensures
    ∙ ap (λ (e : Entry). c.loop-i.shapes.items ++ event_arrows scene (i + 1) e.event) (sym c.index-entries-i.is)
    ∙ sym (ap (λ (o : Option Entry). c.loop-i.shapes.items ++ entry_arrows scene (i + 1) o) here))
