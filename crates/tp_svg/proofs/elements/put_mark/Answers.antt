use Rattle.std.specs.Prelude.{codes}
use Rattle.tp_svg.proofs.Pieces.{point_at, put7}
use Rattle.tp_svg.specs.Svg.{point, x, y}
use Rattle.tp_svg.proofs.elements.put_mark.Goals as goal

pub returns : goal.returns
returns c =
    put7 c.args.out.now
    c.bytes.new.self c.bytes-2.new.self c.bytes-3.new.self c.bytes-4.new.self c.bytes-5.new.self c.put_point.new.out c.bytes-6.new.self
    (codes "<path class='")
    (c.args.class.now)
    (codes "' d='")
    (c.args.path.now)
    (codes "' transform='translate(")
    (point (x c.args.at.column) (y c.args.at.row))
    (codes ")'/>")
    c.in_ok-bytes.ensures.written
    c.in_ok-bytes-2.ensures.written
    c.in_ok-bytes-3.ensures.written
    c.in_ok-bytes-4.ensures.written
    c.in_ok-bytes-5.ensures.written
    (point_at c.bytes-5.new.self c.put_point.new.out _ _ (x c.args.at.column) (y c.args.at.row) c.in_ok-put_point.ensures c.x.ensures c.y.ensures)
    c.in_ok-bytes-6.ensures.written
