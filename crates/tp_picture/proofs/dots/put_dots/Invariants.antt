use Rattle.std.proofs.Common.{◌≡◌, ◌++◌, take}
use Rattle.std.specs.List.{flat_map}
use Rattle.std.specs.Prelude.{reverse}
use Rattle.tp_picture.specs.Shapes.{entry_dots}
use Rattle.tp_rules.specs.Outcome.{line}
use Rattle.tp_base.specs.Tables.{nth}
use Rattle.tp_topology.specs.Counting.{up_to}
use Rattle.tp_picture.proofs.dots.put_dots.Given as goal

abbrev pub invariant-loop-i : goal.invariant-loop-i
invariant-loop-i l = record {
  shapes : l.shapes.items ≡ l.initial.shapes.items ++ flat_map (λ n. entry_dots l.scene n (nth l.scene.journal n)) (up_to l.i);
  line : l.line.keys ≡ line (reverse (take l.i l.scene.journal));
}
