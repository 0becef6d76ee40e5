use Rattle.std.proofs.Common.{◌≡◌, ◌+◌, length, refl, Some, arith}
use Rattle.std.proofs.lemmas.Option.{slice_get_read}
use Rattle.std.specs.Prelude.{slice_get}
use Rattle.tp_picture.proofs.Growing.{values_more}
use Rattle.tp_picture.proofs.Places.{none_shown, row_at, shown_few, spot_next, width_next}
use Rattle.tp_picture.specs.Scenes.{Scene, row, shown, spot}
use Rattle.tp_picture.proofs.scene.spots_of.Goals as goal

pub loop-i-init : goal.loop-i-init
loop-i-init c = record {
  spots = c.new-spots.ensures.items;
  width = none_shown (record { journal = c.args.entries.now; view = c.args.view.now; rows = c.args.rows.now });
  few = omega arith;
}

pub loop-i-preserved : goal.loop-i-preserved
loop-i-preserved c =
    let scene : Scene = record { journal = c.args.entries.now; view = c.args.view.now; rows = c.args.rows.now } in
    let i = c.loop-i.i in
    let here : slice_get c.args.entries.now i ≡ Some c.index-entries-i.result =
    slice_get_read c.args.entries.now (length c.args.entries.now) i c.index-entries-i.result refl c.loop-i-test.true c.index-entries-i.is in
    let at : c.row_where-row.result ≡ row scene (i + 1) = row_at scene i c.index-entries-i.result c.row_where-row.result here c.row_where-row.ensures in
    let width : c.counted-width.result ≡ shown scene (i + 1) =
    width_next scene i c.loop-i.width c.counted-width.result c.row_where-row.result c.loop-i.invariant.width at c.counted-width.ensures in
    record {
      spots = values_more (spot scene) c.loop-i.spots.items c.push.new.self.items i _ c.loop-i.invariant.spots c.in_ok-push.ensures.items
          (spot_next scene i c.loop-i.width c.row_where-row.result c.loop-i.invariant.width at);
      width = width;
      few = omega (arith, width, shown_few scene i c.loop-i.width c.loop-i.invariant.width c.loop-i.invariant.few);
    }
