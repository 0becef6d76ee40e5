use Rattle.std.proofs.Common.{◌≡◌, ◌+◌, ◌++◌, sym, ap, ◌∙◌, Option, Some}
use Rattle.tp_base.specs.declared.names.ActorName.{ActorName}
use Rattle.tp_picture.proofs.Growing.{number_more}
use Rattle.tp_picture.proofs.Places.{nth_found}
use Rattle.tp_picture.specs.Shapes.{actor_row}
use Rattle.tp_base.specs.Tables.{nth}
use Rattle.tp_picture.proofs.picture.put_rows.Goals as goal

pub loop-i-preserved : goal.loop-i-preserved
loop-i-preserved c =
    let scene = c.args.scene.now in
    let i = c.loop-i.i in
    let here : nth scene.rows (i + 1) ≡ Some c.actor_at-actor.result =
    nth_found scene.rows c.rows-rows.result.now i c.actor_at-actor.result c.rows-rows.ensures c.actor_at-actor.ensures in
    number_more (λ r. actor_row scene r (nth scene.rows r)) c.args.shapes.now.items c.loop-i.shapes.items c.put_row.new.shapes.items i
    c.loop-i.invariant
    (c.in_ok-put_row.ensures ∙ sym (ap (λ (o : Option ActorName). c.loop-i.shapes.items ++ actor_row scene (i + 1) o) here))
