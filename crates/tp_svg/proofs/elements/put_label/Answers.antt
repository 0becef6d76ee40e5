use Rattle.std.proofs.Common.{◌+◌, ℕ, refl, ap}
use Rattle.std.specs.Prelude.{codes}
use Rattle.tp_svg.proofs.Pieces.{put3, slanted_at}
use Rattle.tp_svg.specs.Svg.{label, slanted, x}
use Rattle.tp_svg.proofs.elements.put_label.Goals as goal

pub returns : goal.returns
returns c =
    put3 c.args.out.now
    c.put_slanted.new.out c.put_label_words.new.out c.bytes.new.self
    (slanted (codes "<text") (x c.args.at.column + 4) 44)
    (label c.args.actor c.args.sign c.args.at.entry)
    (codes "</text>")
    (slanted_at c.args.out.now c.put_slanted.new.out (codes "<text") _ 44 (x c.args.at.column + 4) 44 c.in_ok-put_slanted.ensures (ap (λ (n : ℕ). n + 4) c.x.ensures) refl)
    c.in_ok-put_label_words.ensures
    c.in_ok-bytes.ensures.written
