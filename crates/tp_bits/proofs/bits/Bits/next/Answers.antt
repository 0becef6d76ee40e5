use Rattle.std.proofs.Common.{sym, subst, ◌∙◌}
use Rattle.tp_bits.proofs.Firsts.{first_from, group_before}
use Rattle.tp_bits.proofs.bits.Bits.next.Goals as goal
use Rattle.tp_bits.specs.Bits.{IsFirstFrom}

pub returns-in-Some : goal.returns-in-Some
returns-in-Some c = λ bits are none lt.
    sym (first_from bits c.args.place c.in-Some.near none (subst (λ l. IsFirstFrom l c.args.place c.in-Some.near) (c.deref.ensures.value ∙ are.items) c.in-Some.ensures))

pub returns : goal.returns
returns c = λ bits are none lt. c.search.ensures bits are (group_before bits c.args.place none)
