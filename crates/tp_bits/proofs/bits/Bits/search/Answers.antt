use Rattle.std.proofs.Common.{◌+◌, Some, None, Bool, List, take, sym, subst, ap, ◌∙◌}
use Rattle.tp_bits.proofs.Searches.{bit_there, no_block, no_group, no_row}
use Rattle.tp_bits.proofs.bits.Bits.search.Goals as goal
use Rattle.tp_bits.specs.Bits.{IsSpot, ones, select}

pub returns-in_err-group : goal.returns-in_err-group
returns-in_err-group c = λ bits are none.
    c.from_residual.ensures ∙ sym (no_group bits c.args.self.now are c.args.from none c.args.rank (subst (λ l. IsSpot l c.args.from c.args.rank None) c.deref.ensures.value c.in_err-group.ensures))

pub returns-in_err-row : goal.returns-in_err-row
returns-in_err-row c = λ bits are none.
    c.from_residual-in_err-row.ensures ∙ sym (no_row bits c.args.self.now are c.args.from none c.args.rank
    c.in_ok-group.group (subst (λ l. IsSpot l c.args.from c.args.rank (Some c.in_ok-group.group)) c.deref.ensures.value c.in_ok-group.ensures)
    c.saturating_mul-first.result c.saturating_mul-first.ensures
    (subst (λ l. IsSpot l c.saturating_mul-first.result c.in_ok-group.group.rank None) c.deref-2.ensures.value c.in_err-row.ensures))

pub returns-in_err-block : goal.returns-in_err-block
returns-in_err-block c = λ bits are none.
    c.from_residual-in_err-block.ensures ∙ sym (no_block bits c.args.self.now are c.args.from none c.args.rank
    c.in_ok-group.group (subst (λ l. IsSpot l c.args.from c.args.rank (Some c.in_ok-group.group)) c.deref.ensures.value c.in_ok-group.ensures)
    c.saturating_mul-first.result c.saturating_mul-first.ensures
    c.in_ok-row.row (subst (λ l. IsSpot l c.saturating_mul-first.result c.in_ok-group.group.rank (Some c.in_ok-row.row)) c.deref-2.ensures.value c.in_ok-row.ensures)
    c.saturating_mul-first-2.result c.saturating_mul-first-2.ensures
    (subst (λ l. IsSpot l c.saturating_mul-first-2.result c.in_ok-row.row.rank None) c.deref-3.ensures.value c.in_err-block.ensures))

pub returns : goal.returns
returns c = λ bits are none.
    bit_there bits c.args.self.now are c.args.from none c.args.rank
    c.in_ok-group.group (subst (λ l. IsSpot l c.args.from c.args.rank (Some c.in_ok-group.group)) c.deref.ensures.value c.in_ok-group.ensures)
    c.saturating_mul-first.result c.saturating_mul-first.ensures
    c.in_ok-row.row (subst (λ l. IsSpot l c.saturating_mul-first.result c.in_ok-group.group.rank (Some c.in_ok-row.row)) c.deref-2.ensures.value c.in_ok-row.ensures)
    c.saturating_mul-first-2.result c.saturating_mul-first-2.ensures
    c.in_ok-block.block (subst (λ l. IsSpot l c.saturating_mul-first-2.result c.in_ok-row.row.rank (Some c.in_ok-block.block)) c.deref-3.ensures.value c.in_ok-block.ensures)
    c.saturating_mul-first-3.result c.saturating_mul-first-3.ensures c.find_bit.result
    (c.find_bit.ensures ∙ ap (λ (l : List Bool). select l (ones (take c.saturating_mul-first-3.result l) + c.in_ok-block.block.rank)) c.deref-4.ensures.value)
