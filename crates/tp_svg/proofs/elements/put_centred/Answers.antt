use Rattle.std.specs.Prelude.{codes}
use Rattle.tp_svg.proofs.Pieces.{put3, quoted_at}
use Rattle.tp_svg.specs.Svg.{quoted, x, y}
use Rattle.tp_svg.proofs.elements.put_centred.Goals as goal

pub returns : goal.returns
returns c =
    put3 c.args.out.now
    c.put_quoted.new.out c.put_quoted-2.new.out c.bytes.new.self
    (quoted (codes " cx='") (x c.args.at.column))
    (quoted (codes " cy='") (y c.args.at.row))
    (codes "/>")
    (quoted_at c.args.out.now c.put_quoted.new.out (codes " cx='") _ (x c.args.at.column) c.in_ok-put_quoted.ensures c.x.ensures)
    (quoted_at c.put_quoted.new.out c.put_quoted-2.new.out (codes " cy='") _ (y c.args.at.row) c.in_ok-put_quoted-2.ensures c.y.ensures)
    c.in_ok-bytes.ensures.written
