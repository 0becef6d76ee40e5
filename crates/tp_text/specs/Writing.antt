-- The text of lines of words.
use Rattle.std.specs.List.{flat_map, join_with_byte}
use Rattle.std.specs.Prelude.{ℕ, Bool, true, false, if◌then◌else◌, List, [], ◌∷◌, ◌++◌}

-- one space between each two words, and 0A at the end
abbrev pub line_text : List (List ℕ) → List ℕ
line_text words = join_with_byte 32 words ++ 10 ∷ []

abbrev pub lines_text : List (List (List ℕ)) → List ℕ
lines_text lines = flat_map line_text lines

-- a text that is being written, and whether its last line has words yet
pub record Written : Type 0 where
  pub bytes : List ℕ
  pub begun : Bool

-- with one more word in its last line
abbrev pub with_word : Written → List ℕ → Written
with_word text word = record { bytes = text.bytes ++ (if text.begun then 32 ∷ word else word); begun = true }

-- with its last line ended
abbrev pub ended : Written → Written
ended text = record { bytes = text.bytes ++ 10 ∷ []; begun = false }

-- with more words in its last line
abbrev pub with_words : Written → List (List ℕ) → Written
with_words text [] = text
with_words text (word ∷ words) = with_words (with_word text word) words

-- with more lines, of these words
abbrev pub with_lines : Written → List (List (List ℕ)) → Written
with_lines text [] = text
with_lines text (words ∷ lines) = with_lines (ended (with_words text words)) lines
