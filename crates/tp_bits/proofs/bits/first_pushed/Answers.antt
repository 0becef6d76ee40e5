use Rattle.std.proofs.Common.{Some, ℕ, sym, ap, ◌∙◌}
use Rattle.tp_bits.proofs.Firsts.{push_after, push_first, push_none}
use Rattle.tp_bits.proofs.bits.first_pushed.Goals as goal

pub returns-in-Some : goal.returns-in-Some
returns-in-Some c = λ bits is end. sym (push_after bits c.args.bit c.in-Some.first (sym is ∙ c.in-Some.is))

pub returns-then-bit : goal.returns-then-bit
returns-then-bit c = λ bits is end. ap (λ (n : ℕ). Some n) end ∙ sym (push_first bits c.args.bit c.if-bit.true (sym is ∙ c.in-None.is))

pub returns-else-bit : goal.returns-else-bit
returns-else-bit c = λ bits is end. sym (push_none bits c.args.bit c.if-bit.false (sym is ∙ c.in-None.is))
