use Rattle.std.proofs.Common.{◌+◌, ℕ, ap}
use Rattle.std.specs.Prelude.{codes}
use Rattle.tp_svg.proofs.Pieces.{put2, quoted_at}
use Rattle.tp_svg.specs.Svg.{quoted, y}
use Rattle.tp_svg.proofs.frame.put_line_name.Goals as goal

pub returns : goal.returns
returns c =
    put2 c.args.out.now
    c.put_quoted.new.out c.bytes.new.self
    (quoted (codes "<text class='name' x='68' y='") (y c.args.rows + 34))
    (codes ">line</text>")
    (quoted_at c.args.out.now c.put_quoted.new.out (codes "<text class='name' x='68' y='") _ (y c.args.rows + 34) c.in_ok-put_quoted.ensures (ap (λ (n : ℕ). n + 34) c.y.ensures))
    c.in_ok-bytes.ensures.written
