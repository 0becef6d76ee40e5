use Rattle.std.proofs.Common.{set, sym, ◌∙◌, arith}
use Rattle.std.proofs.lemmas.List.{length-set}
use Rattle.std.proofs.lemmas.Option.{slice_get_within}
use Rattle.tp_bits.proofs.Firsts.{none_until, turn_after, turn_only, turn_to}
use Rattle.tp_bits.proofs.Sums.{sum_set_before}
use Rattle.tp_bits.proofs.bits.Bits.first_turned.Goals as goal
use Rattle.tp_bits.specs.Bits.{one}

pub returns-in_default : goal.returns-in_default
returns-in_default c = λ bits are at is. sym (turn_only bits c.args.place c.args.bit at (sym is ∙ c.in_default.is))

pub returns-then-first-place : goal.returns-then-first-place
returns-then-first-place c = λ bits are at is. sym (turn_after bits c.args.place c.args.bit at c.in-Some.first (sym is ∙ c.in-Some.is) c.if-first-place.true)

pub returns-then-bit : goal.returns-then-bit
returns-then-bit c = λ bits are at is.
    sym (turn_to bits c.args.place c.args.bit at c.if-bit.true (none_until bits c.args.place c.args.bit at c.in-Some.first (sym is ∙ c.in-Some.is) (omega (arith, c.if-first-place.false))))

pub returns : goal.returns
returns c = λ bits are at is.
    c.next.ensures (set bits c.args.place c.args.bit) are
    (sum_set_before one bits c.args.place c.args.place c.args.bit (omega arith)
    ∙ none_until bits c.args.place c.args.bit at c.in-Some.first (sym is ∙ c.in-Some.is) (omega (arith, c.if-first-place.false)))
    (omega (arith, length-set bits c.args.place c.args.bit, slice_get_within bits c.args.place _ at))
