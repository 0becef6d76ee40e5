use Rattle.std.proofs.Common.{sym, ◌∙◌}
use Rattle.tp_bits.proofs.Firsts.{none_at_all, none_before}
use Rattle.tp_bits.proofs.bits.Bits.select.Goals as goal

pub returns-in_err-first : goal.returns-in_err-first
returns-in_err-first c = λ bits are. c.from_residual.ensures ∙ sym (none_at_all bits c.args.rank (sym are.first ∙ c.in_err-first.was))

pub returns : goal.returns
returns c = λ bits are. c.search.ensures bits are.counted (none_before bits c.in_ok-first.first (sym are.first ∙ c.in_ok-first.was))
