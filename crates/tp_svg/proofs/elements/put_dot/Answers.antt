use Rattle.std.proofs.Common.{List, ◌++◌, ◌∙◌, ℕ, ap}
use Rattle.tp_svg.proofs.Pieces.{put3}
use Rattle.tp_svg.specs.Svg.{circle_text, dot_class, guide_text, label_text}
use Rattle.tp_svg.proofs.elements.put_dot.Goals as goal

pub returns : goal.returns
returns c =
    put3 c.args.out.now
    c.put_guide.new.out c.put_circle.new.out c.put_label.new.out
    (guide_text c.args.at)
    (circle_text (dot_class c.args.sign) c.args.at)
    (label_text c.args.actor c.args.sign c.args.at)
    c.in_ok-put_guide.ensures
    (c.in_ok-put_circle.ensures ∙ ap (λ (class : List ℕ). c.put_guide.new.out ++ circle_text class c.args.at) c.dot_class.ensures)
    c.in_ok-put_label.ensures
