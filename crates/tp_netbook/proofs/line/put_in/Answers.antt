use Rattle.std.proofs.Common.{◌≡◌, ℕ, List, map, sym, ap, ◌∙◌, arith}
use Rattle.std.specs.List.{insert, position}
use Rattle.tp_netbook.proofs.Parts.{is_later, put_before, put_last}
use Rattle.tp_netbook.proofs.line.put_in.Goals as goal
use Rattle.tp_netbook.proofs.line.put_in.Goals.{in-Some, in-None}
use Rattle.tp_netbook.specs.Netbook.{planned_of}
use Rattle.tp_netbook.specs.declared.line.Line.{Line}

pub returns : goal.returns
returns c =
    let found : position (is_later c.args.line) c.args.lines.now.items ≡ c.first_from.result =
    ap (λ (l : List Line). position (is_later c.args.line) l) (sym c.deref.ensures.value) ∙ sym c.first_from.ensures.place in
    elim c.match-first_from.branch [
      | in-Some w ↦
          ap (map planned_of) (c.in_ok-insert.ensures.items ∙ ap (λ (n : ℕ). insert c.args.lines.now.items n c.args.line) w.place-is)
          ∙ put_before c.args.line c.args.lines.now.items w.in-Some.place (found ∙ w.in-Some.is)
      | in-None w ↦
          ap (map planned_of) c.in_ok-insert.ensures.items
          ∙ put_last c.args.line c.args.lines.now.items c.match-first_from.place (found ∙ w.in-None.is) (omega (arith, w.place-is, w.len-place.ensures))
    ]
