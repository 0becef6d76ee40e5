use Rattle.std.proofs.Common.{◌≡◌, ◌++◌, ◌∷◌, [], ℕ, get_or, rules, sym, ap, subst, ◌∙◌, arith}
use Rattle.std.proofs.lemmas.Option.{slice_get-get_or}
use Rattle.tp_bits.proofs.Sums.{one_small}
use Rattle.tp_bits.proofs.Tallies.{count_few, more_new, more_there}
use Rattle.tp_bits.proofs.tally.count_new.Goals as goal
use Rattle.tp_bits.specs.Bits.{IsTally, one}

pub returns-then-block-len : goal.returns-then-block-len
returns-then-block-len c = λ width bits is of short.
    let unit : c.from.result ≡ one c.args.bit = search rules in
    let there = slice_get-get_or c.args.counts.now.items c.args.block c.index.result.now (omega (arith, c.if-block-len.true, c.len.ensures)) in
    let few = count_few width bits c.args.counts.now.items is c.args.block _ there in
    more_there width bits c.args.counts.now.items is c.args.block (get_or c.args.counts.now.items c.args.block c.index.result.now) c.saturating_add.result c.args.bit of there
    (omega (arith, c.if-block-len.true, c.len.ensures)) (omega (arith, c.saturating_add.ensures, c.index.ensures, unit, few, short, one_small c.args.bit))

pub returns-in_ok-push : goal.returns-in_ok-push
returns-in_ok-push c = λ width bits is of short.
    let unit : c.from-else-block-len.result ≡ one c.args.bit = search rules in
    subst (IsTally width (bits ++ c.args.bit ∷ [])) (sym (c.in_ok-push.ensures.items ∙ ap (λ (n : ℕ). c.args.counts.now.items ++ n ∷ []) unit))
    (more_new width bits c.args.counts.now.items is c.args.block c.args.bit of (omega (arith, c.if-block-len.false, c.len.ensures)))
