-- Numbers of one byte.
use Rattle.std.proofs.Common.{◌≡◌, ℕ, ◌<◌, ◌%◌, [], ◌∷◌, ap, ◌∙◌, arith}
use Rattle.std.proofs.Math.Nat.{div-one, mod-eq_of_lt}
use Rattle.tp_base.specs.Fields.{big_endian, big_endian_value}

pub one_byte_value : (b : ℕ) → big_endian_value (b ∷ []) ≡ b
unfolding big_endian_value
one_byte_value b = omega arith

pub one_byte : (n : ℕ) → n < 256 → big_endian 1 n ≡ n ∷ []
unfolding big_endian
one_byte n fits = ap (λ (b : ℕ). b ∷ []) (ap (λ (k : ℕ). k % 256) (div-one n) ∙ mod-eq_of_lt fits)
