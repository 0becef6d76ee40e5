use Rattle.tp_svg.proofs.Pieces.{put4}
use Rattle.tp_svg.specs.Svg.{below_text, size_text, style, line_name}
use Rattle.tp_svg.proofs.frame.put_frame.Goals as goal

pub returns : goal.returns
returns c =
    put4 c.args.out.now
    c.put_size.new.out c.put_style.new.out c.put_below.new.out c.put_line_name.new.out
    (size_text c.args.columns c.args.rows c.args.reach)
    (style)
    (below_text c.args.reach)
    (line_name c.args.rows)
    c.in_ok-put_size.ensures
    c.in_ok-put_style.ensures
    c.in_ok-put_below.ensures
    c.in_ok-put_line_name.ensures
