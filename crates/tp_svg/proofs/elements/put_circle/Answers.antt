use Rattle.std.specs.Prelude.{codes}
use Rattle.tp_svg.proofs.Pieces.{put6}
use Rattle.tp_svg.specs.Svg.{centred}
use Rattle.tp_svg.proofs.elements.put_circle.Goals as goal

pub returns : goal.returns
returns c =
    put6 c.args.out.now
    c.bytes.new.self c.put_centred.new.out c.bytes-2.new.self c.bytes-3.new.self c.bytes-4.new.self c.put_centred-2.new.out
    (codes "<circle class='halo' r='6'")
    (centred c.args.at)
    (codes "<circle class='dot ")
    (c.args.class.now)
    (codes "' r='4'")
    (centred c.args.at)
    c.in_ok-bytes.ensures.written
    c.in_ok-put_centred.ensures
    c.in_ok-bytes-2.ensures.written
    c.in_ok-bytes-3.ensures.written
    c.in_ok-bytes-4.ensures.written
    c.in_ok-put_centred-2.ensures
