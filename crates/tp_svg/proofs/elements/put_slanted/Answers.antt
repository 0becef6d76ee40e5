use Rattle.std.specs.Prelude.{codes}
use Rattle.tp_svg.proofs.Pieces.{put4}
use Rattle.tp_svg.specs.Svg.{point}
use Rattle.tp_svg.proofs.elements.put_slanted.Goals as goal

pub returns : goal.returns
returns c =
    put4 c.args.out.now
    c.bytes.new.self c.bytes-2.new.self c.put_point.new.out c.bytes-3.new.self
    (c.args.start.now)
    (codes " transform='translate(")
    (point c.args.a c.args.b)
    (codes ") rotate(-60)'>")
    c.in_ok-bytes.ensures.written
    c.in_ok-bytes-2.ensures.written
    c.in_ok-put_point.ensures
    c.in_ok-bytes-3.ensures.written
