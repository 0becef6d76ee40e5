use Rattle.std.proofs.Common.{◌≤◌, ℕ, arith, sym, ap, ◌∙◌}
use Rattle.std.specs.Prelude.{reverse}
use Rattle.std.specs.Option.{option_copied}
use Rattle.tp_print.proofs.Looking.{output_at_no_place, output_at_zero, output_found, output_missing}
use Rattle.tp_rules.specs.Journal.{output_at}
use Rattle.tp_print.proofs.journal.output.Goals as goal

pub returns-then-entry-eq0 : goal.returns-then-entry-eq0
returns-then-entry-eq0 c =
    sym (ap (λ (n : ℕ). output_at (reverse c.args.journal.now) n c.args.place) c.if-entry-eq0.true
    ∙ output_at_zero (reverse c.args.journal.now) c.args.place)

pub returns-then-place-eq0 : goal.returns-then-place-eq0
returns-then-place-eq0 c =
    sym (ap (λ (n : ℕ). output_at (reverse c.args.journal.now) c.args.entry n) c.if-place-eq0.true
    ∙ output_at_no_place (reverse c.args.journal.now) c.args.entry)

pub returns-in-Some : goal.returns-in-Some
returns-in-Some c =
    let low : 1 ≤ c.args.entry = omega arith in
    let from : 1 ≤ c.args.place = omega arith in
    output_found c.args.journal.now c.args.entry c.args.place c.in-Some.found.now (option_copied c.get.result) low from
    c.in-Some.ensures c.get.ensures.item

pub returns-in-None : goal.returns-in-None
returns-in-None c =
    let low : 1 ≤ c.args.entry = omega arith in
    output_missing c.args.journal.now c.args.entry c.args.place low c.in-None.ensures
