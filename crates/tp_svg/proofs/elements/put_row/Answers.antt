use Rattle.std.proofs.Common.{◌+◌, ℕ, refl, ap}
use Rattle.std.specs.Prelude.{codes}
use Rattle.tp_svg.proofs.Pieces.{name_at, put3}
use Rattle.tp_svg.specs.Svg.{name, row_line, x, y}
use Rattle.tp_svg.proofs.elements.put_row.Goals as goal

pub returns : goal.returns
returns c =
    put3 c.args.out.now
    c.put_row_line.new.out c.put_name.new.out c.put_name-2.new.out
    (row_line c.args.row c.args.end)
    (name (codes "<text class='name'") 68 (y c.args.row + 4) c.args.actor)
    (name (codes "<text") (x c.args.columns + 12) (y c.args.row + 4) c.args.actor)
    c.in_ok-put_row_line.ensures
    (name_at c.put_row_line.new.out c.put_name.new.out (codes "<text class='name'") 68 _ 68 (y c.args.row + 4) c.args.actor c.in_ok-put_name.ensures refl (ap (λ (n : ℕ). n + 4) c.y-level.ensures))
    (name_at c.put_name.new.out c.put_name-2.new.out (codes "<text") _ _ (x c.args.columns + 12) (y c.args.row + 4) c.args.actor c.in_ok-put_name-2.ensures (ap (λ (n : ℕ). n + 12) c.x-behind.ensures) (ap (λ (n : ℕ). n + 4) c.y-level.ensures))
