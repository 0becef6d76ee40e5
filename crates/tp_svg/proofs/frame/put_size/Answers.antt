use Rattle.std.proofs.Common.{◌+◌, ◌∙◌, ℕ, ap}
use Rattle.std.specs.Prelude.{codes}
use Rattle.tp_svg.proofs.Pieces.{put4, quoted_at}
use Rattle.tp_svg.specs.Svg.{head, quoted, width, y}
use Rattle.tp_svg.proofs.frame.put_size.Goals as goal

pub returns : goal.returns
returns c =
    put4 c.args.out.now
    c.bytes.new.self c.put_quoted.new.out c.put_quoted-2.new.out c.bytes-2.new.self
    (codes "<svg xmlns='http://www.w3.org/2000/svg'")
    (quoted (codes " width='") (width c.args.columns c.args.reach))
    (quoted (codes " height='") (y c.args.rows + 222 + head c.args.reach))
    (codes ">")
    c.in_ok-bytes.ensures.written
    (quoted_at c.bytes.new.self c.put_quoted.new.out (codes " width='") _ (width c.args.columns c.args.reach) c.in_ok-put_quoted.ensures c.width.ensures)
    (quoted_at c.put_quoted.new.out c.put_quoted-2.new.out (codes " height='") _ (y c.args.rows + 222 + head c.args.reach) c.in_ok-put_quoted-2.ensures
    (ap (λ (n : ℕ). n + 222 + c.head.result) c.y.ensures ∙ ap (λ (n : ℕ). y c.args.rows + 222 + n) c.head.ensures))
    c.in_ok-bytes-2.ensures.written
