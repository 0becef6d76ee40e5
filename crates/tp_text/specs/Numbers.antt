-- Decimal numbers: `0`, or digits without a leading zero.
use Rattle.std.specs.Char.{is_ascii_digit}
use Rattle.std.specs.List.{list_all}
use Rattle.std.specs.Prelude.{ℕ, ◌==◌, nat_le, Bool, false, if◌then◌else◌, List, [], ◌∷◌, Result, Ok, Err}
use Rattle.std.specs.Str.Parse.{digits_value}
use Rattle.tp_text.specs.Steps.{◌>>=◌, ◌>>◌, else_cause, need}
use Rattle.tp_text.specs.declared.numbers.NumberFault.{NumberFault}
use Rattle.tp_text.specs.declared.numbers.NumberFault.TheVariants.{NotANumber, NumberTooLarge}

abbrev pub is_number : List ℕ → Bool
is_number [] = false
is_number (c ∷ []) = is_ascii_digit c
is_number (c ∷ d ∷ ds) = if c == 48 then false else list_all is_ascii_digit (c ∷ d ∷ ds)

-- what a word says up to a limit, or its fault
unfoldable pub number_of : ℕ → List ℕ → Result ℕ NumberFault
number_of limit word =
    if is_number word then (if nat_le (digits_value 10 word) limit then Ok (digits_value 10 word) else Err NumberTooLarge)
    else Err NotANumber

-- what a word says from a number to another, or this fault
unfoldable pub number_at : {C : Type 0} → C → ℕ → ℕ → List ℕ → Result ℕ C
number_at cause low high word = do
  n ← else_cause cause (number_of high word)
  need (nat_le low n) cause
  Ok n
