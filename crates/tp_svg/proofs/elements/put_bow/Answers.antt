use Rattle.std.specs.Prelude.{codes}
use Rattle.tp_svg.proofs.Pieces.{point_at, put5}
use Rattle.tp_svg.specs.Svg.{bend, point, x, y}
use Rattle.tp_svg.proofs.elements.put_bow.Goals as goal

pub returns : goal.returns
returns c =
    put5 c.args.out.now
    c.put_point.new.out c.bytes.new.self c.put_point-2.new.out c.bytes-2.new.self c.put_point-3.new.out
    (point (x c.args.from.column) (y c.args.from.row))
    (codes "Q")
    (point (x c.args.to.column) (bend c.args.from.row c.args.to.row))
    (codes " ")
    (point (x c.args.to.column) (y c.args.to.row))
    (point_at c.args.out.now c.put_point.new.out _ _ (x c.args.from.column) (y c.args.from.row) c.in_ok-put_point.ensures c.x.ensures c.y.ensures)
    c.in_ok-bytes.ensures.written
    (point_at c.bytes.new.self c.put_point-2.new.out _ _ (x c.args.to.column) (bend c.args.from.row c.args.to.row) c.in_ok-put_point-2.ensures c.x-2.ensures c.bend.ensures)
    c.in_ok-bytes-2.ensures.written
    (point_at c.bytes-2.new.self c.put_point-3.new.out _ _ (x c.args.to.column) (y c.args.to.row) c.in_ok-put_point-3.ensures c.x-3.ensures c.y-2.ensures)
