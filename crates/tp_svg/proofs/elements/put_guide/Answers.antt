use Rattle.std.specs.Prelude.{codes}
use Rattle.tp_svg.proofs.Pieces.{put5, quoted_at}
use Rattle.tp_svg.specs.Svg.{quoted, x, y}
use Rattle.tp_svg.proofs.elements.put_guide.Goals as goal

pub returns : goal.returns
returns c =
    put5 c.args.out.now
    c.bytes.new.self c.put_quoted.new.out c.put_quoted-2.new.out c.put_quoted-3.new.out c.bytes-2.new.self
    (codes "<line class='guide' y1='48'")
    (quoted (codes " x1='") (x c.args.at.column))
    (quoted (codes " x2='") (x c.args.at.column))
    (quoted (codes " y2='") (y c.args.at.row))
    (codes "/>")
    c.in_ok-bytes.ensures.written
    (quoted_at c.bytes.new.self c.put_quoted.new.out (codes " x1='") _ (x c.args.at.column) c.in_ok-put_quoted.ensures c.x.ensures)
    (quoted_at c.put_quoted.new.out c.put_quoted-2.new.out (codes " x2='") _ (x c.args.at.column) c.in_ok-put_quoted-2.ensures c.x-2.ensures)
    (quoted_at c.put_quoted-2.new.out c.put_quoted-3.new.out (codes " y2='") _ (y c.args.at.row) c.in_ok-put_quoted-3.ensures c.y.ensures)
    c.in_ok-bytes-2.ensures.written
