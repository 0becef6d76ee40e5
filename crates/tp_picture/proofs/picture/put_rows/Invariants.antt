use Rattle.std.proofs.Common.{◌≡◌, ◌++◌}
use Rattle.std.specs.List.{flat_map}
use Rattle.tp_picture.specs.Shapes.{actor_row}
use Rattle.tp_base.specs.Tables.{nth}
use Rattle.tp_topology.specs.Counting.{up_to}
use Rattle.tp_picture.proofs.picture.put_rows.Given as goal

abbrev pub invariant-loop-i : goal.invariant-loop-i
invariant-loop-i l = l.shapes.items ≡ l.initial.shapes.items ++ flat_map (λ r. actor_row l.scene r (nth l.scene.rows r)) (up_to l.i)
