use Rattle.std.proofs.Common.{◌≡◌, ◌++◌, take}
use Rattle.std.specs.List.{flat_map}
use Rattle.tp_svg.specs.Svg.{shape_text}
use Rattle.tp_svg.proofs.svg.put_shapes.Given as goal

abbrev pub invariant-loop-shape : goal.invariant-loop-shape
invariant-loop-shape l = l.out ≡ l.initial.out ++ flat_map (shape_text l.fn.reach) (take l.shape-index l.shapes)
