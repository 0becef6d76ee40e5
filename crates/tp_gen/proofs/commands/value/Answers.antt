use Rattle.std.proofs.Common.{◌≡◌, ℕ, ◌/◌, ◌%◌, ◌^◌, [], ◌∷◌, ap, ◌∙◌, ◌<◌, arith}
use Rattle.tp_gen.proofs.commands.value.Goals as goal
use Rattle.tp_base.specs.Fields.{big_endian}

-- a number below 256 in two bytes
two_bytes : (i : ℕ) → i < 256 → 0 ∷ i ∷ [] ≡ big_endian 2 i
unfolding big_endian
two_bytes i few =
    let high : 0 ≡ i / 256 ^ 1 % 256 = omega (arith, few) in
    let low : i ≡ i / 256 ^ 0 % 256 = omega (arith, few) in
    ap (λ (b : ℕ). b ∷ i ∷ []) high ∙ ap (λ (b : ℕ). (i / 256 ^ 1 % 256) ∷ b ∷ []) low

pub returns : goal.returns
returns c = c.from_vec.ensures ∙ c.in_ok-vec.ensures.items ∙ two_bytes c.args.i c.ranges.i.fits
