use Rattle.std.proofs.Common.{IfSome, List, Ok, subst, sym, ◌≡◌}
use Rattle.tp_rules.specs.declared.event.Entry.{Entry}
use Rattle.tp_run.proofs.BothLaws.{both_by_whole, checked_by_whole, front_is, unchecked_by_whole}
use Rattle.tp_run.proofs.reading.read_to_check.Goals as goal
use Rattle.tp_run.specs.Both.{IsTextOfBoth, checked_of}

pub returns-in-Ok-clause-both : goal.returns-in-Ok-clause-both
returns-in-Ok-clause-both g c =
    let left = g.S.Source.left c.args.input.now in
    subst (λ (j : List Entry). IfSome left (λ text. IsTextOfBoth text c.in-Ok.script j)) (sym c.of.ensures)
    (both_by_whole left _ _ _ (front_is left _ _ c.as_slice.ensures c.in_ok-bytes.ensures.first) c.in-Ok.ensures.short c.in-Ok.ensures.both)

pub returns-in-Ok-clause-checked : goal.returns-in-Ok-clause-checked
returns-in-Ok-clause-checked g c =
    let left = g.S.Source.left c.args.input.now in
    subst (λ (j : List Entry). IfSome left (λ text. checked_of text ≡ Ok (c.in-Ok.script, j))) (sym c.of.ensures)
    (checked_by_whole left _ _ _ (front_is left _ _ c.as_slice.ensures c.in_ok-bytes.ensures.first) c.in-Ok.ensures.exact)

pub returns-clause-refused : goal.returns-clause-refused
returns-clause-refused g c =
    let left = g.S.Source.left c.args.input.now in
    unchecked_by_whole left _ c.in-Err.cause (front_is left _ _ c.as_slice.ensures c.in_ok-bytes.ensures.first) c.in-Err.ensures.exact
