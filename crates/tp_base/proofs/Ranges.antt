-- The test of a range says what the range says.
use Rattle.std.proofs.Common.{◌≡◌, ℕ, true, refl, arith}
use Rattle.std.proofs.lemmas.Bool.{le-leb}
use Rattle.tp_base.specs.Limits.{IsFrom, is_from}

pub in_range : (low high n : ℕ) → is_from low high n ≡ true → IsFrom low high n
in_range low high n test = (grind arith, grind arith)

pub range_in : (low high n : ℕ) → IsFrom low high n → is_from low high n ≡ true
range_in low high n fits = rw (le-leb low n fits.0, le-leb n high fits.1) refl
