use Rattle.std.proofs.Common.{◌≡◌, ◌+◌, get_or, Bool, true, false, Some, take, rules, sym, ap, ◌∙◌, arith}
use Rattle.std.proofs.lemmas.Option.{slice_get-get_or}
use Rattle.std.specs.Prelude.{slice_get}
use Rattle.tp_bits.proofs.Selected.{select_here, select_none}
use Rattle.tp_bits.proofs.Sums.{one_only, sum_all, sum_more}
use Rattle.tp_bits.proofs.bits.find_bit.Goals as goal
use Rattle.tp_bits.specs.Bits.{one, ones, select}

pub returns-then-left-unit : goal.returns-then-left-unit
returns-then-left-unit c =
    let unit : c.from-unit.result ≡ one (get_or c.args.bits.now c.loop-place.place false) = search rules in
    let only = one_only (get_or c.args.bits.now c.loop-place.place false) c.loop-place.left (omega (arith, c.if-left-unit.true, unit)) in
    let at : slice_get c.args.bits.now c.loop-place.place ≡ Some true =
    slice_get-get_or c.args.bits.now c.loop-place.place false c.loop-place-test.true ∙ ap (λ (b : Bool). Some b) only.0 in
    let rank : ones (take c.args.from c.args.bits.now) + c.args.rank ≡ ones (take c.loop-place.place c.args.bits.now) = omega (arith, c.loop-place.invariant, only.1) in
    sym (ap (select c.args.bits.now) rank ∙ select_here c.args.bits.now c.loop-place.place at)

pub loop-place-preserved : goal.loop-place-preserved
loop-place-preserved c =
    let unit : c.from-unit.result ≡ one (get_or c.args.bits.now c.loop-place.place false) = search rules in
    let more = sum_more one c.args.bits.now c.loop-place.place _ (slice_get-get_or c.args.bits.now c.loop-place.place false c.loop-place-test.true) in
    omega (arith, c.loop-place.invariant, c.if-left-unit.false, more, unit)

pub returns : goal.returns
returns c =
    let all : ones (take c.loop-place.place c.args.bits.now) ≡ ones c.args.bits.now = sum_all one c.args.bits.now c.loop-place.place c.loop-place-test.false in
    sym (select_none c.args.bits.now _ (omega (arith, all, c.loop-place.invariant)))
