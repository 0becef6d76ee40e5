use Rattle.tp_svg.proofs.Pieces.{put5}
use Rattle.tp_svg.specs.Svg.{word_legend}
use Rattle.tp_svg.proofs.frame.put_word_legend.Goals as goal

pub returns : goal.returns
unfolding word_legend
returns c =
    put5 c.args.out.now
    c.bytes.new.self c.bytes-2.new.self c.bytes-3.new.self c.bytes-4.new.self c.bytes-5.new.self
    _ _ _ _ _
    c.in_ok-bytes.ensures.written
    c.in_ok-bytes-2.ensures.written
    c.in_ok-bytes-3.ensures.written
    c.in_ok-bytes-4.ensures.written
    c.in_ok-bytes-5.ensures.written
