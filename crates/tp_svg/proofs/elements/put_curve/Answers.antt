use Rattle.std.proofs.Common.{◌++◌}
use Rattle.std.specs.Prelude.{codes}
use Rattle.tp_svg.proofs.Pieces.{next, two}
use Rattle.tp_svg.specs.Svg.{bow}
use Rattle.tp_svg.proofs.elements.put_curve.Goals as goal

pub returns : goal.returns
returns c =
    next c.args.out.now c.put_bow.new.out c.bytes-5.new.self (((codes "<path class='" ++ (c.args.sort.now ++ c.args.class.now)) ++ codes "' d='M") ++ bow c.args.from c.args.to) (codes "'/>")
    (next c.args.out.now c.bytes-4.new.self c.put_bow.new.out ((codes "<path class='" ++ (c.args.sort.now ++ c.args.class.now)) ++ codes "' d='M") (bow c.args.from c.args.to)
    (next c.args.out.now c.bytes-3.new.self c.bytes-4.new.self (codes "<path class='" ++ (c.args.sort.now ++ c.args.class.now)) (codes "' d='M")
    (two c.args.out.now c.bytes.new.self c.bytes-2.new.self c.bytes-3.new.self (codes "<path class='") c.args.sort.now c.args.class.now
    c.in_ok-bytes.ensures.written c.in_ok-bytes-2.ensures.written c.in_ok-bytes-3.ensures.written)
    c.in_ok-bytes-4.ensures.written) c.in_ok-put_bow.ensures) c.in_ok-bytes-5.ensures.written
