use Rattle.std.proofs.Common.{◌≡◌, ◌≤◌, map}
use Rattle.tp_picture.specs.Scenes.{shown, spot}
use Rattle.tp_topology.specs.Counting.{up_to}
use Rattle.tp_picture.proofs.scene.spots_of.Given as goal

abbrev pub invariant-loop-i : goal.invariant-loop-i
invariant-loop-i l = record {
  spots : l.spots.items ≡ map (spot (record { journal = l.entries; view = l.view; rows = l.rows })) (up_to l.i);
  width : l.width ≡ shown (record { journal = l.entries; view = l.view; rows = l.rows }) l.i;
  few : l.width ≤ l.i;
}
