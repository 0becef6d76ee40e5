use Rattle.std.specs.Prelude.{◌<◌, ℕ, zero, suc, ◌+◌, ◌*◌, ◌/◌, ◌%◌, ◌^◌, List, [], ◌∷◌, length, drop, slice_index}

-- a number as so many bytes, the most significant first
unfoldable pub big_endian : ℕ → ℕ → List ℕ
big_endian zero n = []
big_endian (suc width) n = (n / 256 ^ width % 256) ∷ big_endian width n

-- the number that bytes say, the most significant first
unfoldable pub big_endian_value : List ℕ → ℕ
big_endian_value [] = 0
big_endian_value (byte ∷ bytes) = byte * 256 ^ length bytes + big_endian_value bytes

-- where a reader of an input stands: the count of the bytes that it has taken
pub record At : Type 0 where
  pub input : List ℕ
  pub place : ℕ

-- the bytes not yet taken
abbrev pub left : At → List ℕ
left at = drop at.place at.input

-- so many bytes further on
abbrev pub past : ℕ → At → At
past n at = record { input = at.input; place = at.place + n }

-- each item is a byte
abbrev pub IsBytes : List ℕ → Type 0
IsBytes bytes = (i : ℕ) → slice_index bytes i < 256
