use Rattle.std.proofs.Common.{◌+◌, ℕ, refl, ap}
use Rattle.std.specs.Prelude.{codes}
use Rattle.tp_svg.proofs.Pieces.{point_at, put7}
use Rattle.tp_svg.specs.Svg.{class_legend, mark_legend, point, word_legend, y}
use Rattle.tp_svg.proofs.frame.put_legend.Goals as goal

pub returns : goal.returns
returns c =
    put7 c.args.out.now
    c.bytes.new.self c.put_point.new.out c.bytes-2.new.self c.put_class_legend.new.out c.put_mark_legend.new.out c.put_word_legend.new.out c.bytes-3.new.self
    (codes "<g transform='translate(")
    (point 90 (y c.args.rows + 130))
    (codes ")'>")
    (class_legend)
    (mark_legend)
    (word_legend)
    (codes "</g>")
    c.in_ok-bytes.ensures.written
    (point_at c.bytes.new.self c.put_point.new.out _ _ 90 (y c.args.rows + 130) c.in_ok-put_point.ensures refl (ap (λ (n : ℕ). n + 130) c.y.ensures))
    c.in_ok-bytes-2.ensures.written
    c.in_ok-put_class_legend.ensures
    c.in_ok-put_mark_legend.ensures
    c.in_ok-put_word_legend.ensures
    c.in_ok-bytes-3.ensures.written
