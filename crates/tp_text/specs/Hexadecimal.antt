-- Hexadecimal words: two digits of `0-9a-f` for each byte, the high one first.
use Rattle.std.specs.List.{list_all}
use Rattle.std.specs.Prelude.{ℕ, ◌+◌, ◌-◌, ◌*◌, ◌%◌, ◌==◌, ◌&&◌, ◌||◌, nat_le, Bool, if◌then◌else◌, List, [], ◌∷◌, length, Result, Ok, Err}
use Rattle.tp_text.specs.declared.hexadecimal.HexFault.{HexFault}
use Rattle.tp_text.specs.declared.hexadecimal.HexFault.TheVariants.{OddHex, BadHex}

-- 0 to 9, a to f
abbrev pub is_hex : ℕ → Bool
is_hex c = (nat_le 48 c && nat_le c 57) || (nat_le 97 c && nat_le c 102)

-- what a digit says
abbrev pub nibble : ℕ → ℕ
nibble c = if nat_le c 57 then c - 48 else c - 87

-- what pairs of digits say
abbrev pub pair_values : List ℕ → List ℕ
pair_values [] = []
pair_values (digit ∷ []) = []
pair_values (high ∷ low ∷ rest) = (nibble high * 16 + nibble low) ∷ pair_values rest

-- what a word says, or its fault
unfoldable pub hex_of : List ℕ → Result (List ℕ) HexFault
hex_of word =
    if length word % 2 == 1 then Err OddHex
    else (if list_all is_hex word then Ok (pair_values word) else Err BadHex)
