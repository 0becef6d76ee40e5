use Rattle.std.proofs.Common.{◌≡◌, get_or, not, rules, arith}
use Rattle.std.proofs.lemmas.Option.{slice_get-get_or, slice_get_within}
use Rattle.tp_bits.proofs.Tallies.{block_there, turned_to}
use Rattle.tp_bits.proofs.tally.count_turned.Goals as goal
use Rattle.tp_bits.specs.Bits.{one}

pub returns-then-block-counts-clause-tally : goal.returns-then-block-counts-clause-tally
returns-then-block-counts-clause-tally c = λ width bits place is of at short.
    let up : c.from.result ≡ one c.args.bit = search rules in
    let down : c.from-then-block-counts.result ≡ one (not c.args.bit) = search rules in
    turned_to width bits c.args.counts.now is place c.args.block (get_or c.args.counts.now c.args.block 0) c.saturating_add-count.result c.saturating_sub.result c.args.bit of at
    (slice_get-get_or c.args.counts.now c.args.block 0 c.if-block-counts.true) short
    (omega (arith, c.saturating_add-count.ensures, up)) (omega (arith, c.saturating_sub.ensures, down))

pub returns-else-block-counts-clause-tally : goal.returns-else-block-counts-clause-tally
returns-else-block-counts-clause-tally c = λ width bits place is of at short.
    absurd (omega (arith, c.if-block-counts.false, block_there width bits c.args.counts.now is place c.args.block of (slice_get_within bits place _ at)))
