use Rattle.std.proofs.Common.{◌≡◌, take}
use Rattle.std.specs.List.{fold}
use Rattle.std.specs.Prelude.{max}
use Rattle.tp_svg.specs.Svg.{label_length}
use Rattle.tp_svg.proofs.label.longest.Given as goal

abbrev pub invariant-loop-shape : goal.invariant-loop-shape
invariant-loop-shape l = l.most ≡ fold (λ n shape. max n (label_length shape)) 0 (take l.shape-index l.shapes)
