-- Lines and their words.
use Rattle.std.specs.List.{slice_split}
use Rattle.std.specs.Prelude.{ℕ, ◌==◌, ◌≡◌, List, [], ◌∷◌, Option, Some, None}
use Rattle.tp_text.specs.declared.lines.LineFault.{LineFault}
use Rattle.tp_text.specs.declared.lines.LineFault.TheVariants.{AtEnd, Unended}

-- the pieces round each byte of a value
abbrev pub pieces : ℕ → List ℕ → List (List ℕ)
pieces mark bytes = slice_split (λ b. b == mark) bytes

-- the pieces round each space: an empty piece is a word too
abbrev pub words_of : List ℕ → List (List ℕ)
words_of line = pieces 32 line

-- the word is the first of the words
abbrev pub IsFirst : List ℕ → List (List ℕ) → Type 0
IsFirst word words = (others : List (List ℕ)) × (words ≡ word ∷ others)

-- the lines, each ended by 0A, and last what stands behind the last 0A, which is no line
abbrev pub lines_of : List ℕ → List (List ℕ)
lines_of bytes = pieces 10 bytes

abbrev pub two_of : List (List ℕ) → Option (List ℕ × List ℕ)
two_of (a ∷ b ∷ []) = Some (a, b)
two_of _ = None

-- the pieces round a byte of a value, where there is one such byte
unfoldable pub halves : ℕ → List ℕ → Option (List ℕ × List ℕ)
halves mark word = two_of (pieces mark word)

-- what is left of an input, and how many of its lines were taken
pub record Input : Type 0 where
  pub left : List ℕ
  pub count : ℕ

-- why no line follows
abbrev pub end_fault : List ℕ → LineFault
end_fault [] = AtEnd
end_fault (b ∷ bytes) = Unended
