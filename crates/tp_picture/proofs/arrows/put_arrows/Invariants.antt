use Rattle.std.proofs.Common.{◌≡◌, ◌++◌}
use Rattle.std.specs.List.{flat_map}
use Rattle.tp_picture.specs.Shapes.{entry_arrows}
use Rattle.tp_base.specs.Tables.{nth}
use Rattle.tp_topology.specs.Counting.{up_to}
use Rattle.tp_picture.proofs.arrows.put_arrows.Given as goal

abbrev pub invariant-loop-i : goal.invariant-loop-i
invariant-loop-i l = l.shapes.items ≡ l.initial.shapes.items ++ flat_map (λ n. entry_arrows l.scene n (nth l.scene.journal n)) (up_to l.i)
