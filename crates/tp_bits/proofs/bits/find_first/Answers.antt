use Rattle.std.proofs.Common.{Bool, false, Some, ap, ◌∙◌, arith}
use Rattle.std.proofs.lemmas.Option.{slice_get-get_or}
use Rattle.tp_bits.proofs.Sums.{sum_more}
use Rattle.tp_bits.proofs.bits.find_first.Goals as goal
use Rattle.tp_bits.specs.Bits.{one}

pub returns-then-bits-place : goal.returns-then-bits-place
returns-then-bits-place c = (
  slice_get-get_or c.args.bits.now c.loop-place.place false (omega (arith, c.loop-place-test.true, c.requires)) ∙ ap (λ (b : Bool). Some b) c.if-bits-place.true,
  c.loop-place.invariant,
)

pub loop-place-preserved : goal.loop-place-preserved
loop-place-preserved c =
    let at = slice_get-get_or c.args.bits.now c.loop-place.place false (omega (arith, c.loop-place-test.true, c.requires)) in
    omega (arith, c.loop-place.invariant, sum_more one c.args.bits.now c.loop-place.place false (at ∙ ap (λ (b : Bool). Some b) c.if-bits-place.false))
