-- What is written word by word is the text of the lines.
use Rattle.std.proofs.Common.{◌≡◌, ℕ, true, false, List, [], ◌∷◌, ◌++◌, refl, sym, ap, ◌∙◌, append_assoc}
use Rattle.std.specs.List.{join_with_byte}
use Rattle.std.proofs.lemmas.List.{append-nil}
use Rattle.std.proofs.lemmas.List.Concat.{flat_map-cons}
use Rattle.tp_text.specs.Writing.{Written, ended, line_text, lines_text, with_lines, with_word, with_words}

abbrev Words : Type 0
Words = List (List ℕ)

pub with_words-append : (text : Written) (xs ys : Words) → with_words text (xs ++ ys) ≡ with_words (with_words text xs) ys
with_words-append text [] ys = refl
with_words-append text (x ∷ xs) ys = with_words-append (with_word text x) xs ys

pub with_lines-append : (text : Written) (xs ys : List Words) → with_lines text (xs ++ ys) ≡ with_lines (with_lines text xs) ys
with_lines-append text [] ys = refl
with_lines-append text (x ∷ xs) ys = with_lines-append (ended (with_words text x)) xs ys

-- words behind a word of the line
more : (bytes : List ℕ) (words : Words) (w : List ℕ) → (with_words (record { bytes = bytes ++ w; begun = true }) words).bytes ≡ bytes ++ join_with_byte 32 (w ∷ words)
more bytes [] w = refl
more bytes (v ∷ words) w =
    ap (λ (b : List ℕ). (with_words (record { bytes = b; begun = true }) words).bytes) (append_assoc bytes w (32 ∷ v))
    ∙ ap (λ (b : List ℕ). (with_words (record { bytes = b; begun = true }) words).bytes) (sym (append_assoc bytes (w ++ 32 ∷ []) v ∙ ap (λ (x : List ℕ). bytes ++ x) (append_assoc w (32 ∷ []) v)))
    ∙ more (bytes ++ (w ++ 32 ∷ [])) words v
    ∙ append_assoc bytes (w ++ 32 ∷ []) (join_with_byte 32 (v ∷ words))
    ∙ ap (λ (x : List ℕ). bytes ++ x) (append_assoc w (32 ∷ []) (join_with_byte 32 (v ∷ words)))

one_line : (bytes : List ℕ) (words : Words) → ended (with_words (record { bytes = bytes; begun = false }) words) ≡ record { bytes = bytes ++ line_text words; begun = false }
one_line bytes [] = refl
one_line bytes (w ∷ words) =
    ap (λ (b : List ℕ). let text : Written = record { bytes = b; begun = false } in text)
    (ap (λ (b : List ℕ). b ++ 10 ∷ []) (more bytes words w) ∙ append_assoc bytes (join_with_byte 32 (w ∷ words)) (10 ∷ []))

-- the bytes of lines that are written at the start of a line
pub lines_written : (bytes : List ℕ) (lines : List Words) → (with_lines (record { bytes = bytes; begun = false }) lines).bytes ≡ bytes ++ lines_text lines
lines_written bytes [] = sym (append-nil bytes)
lines_written bytes (words ∷ lines) =
    ap (λ (text : Written). (with_lines text lines).bytes) (one_line bytes words)
    ∙ lines_written (bytes ++ line_text words) lines
    ∙ append_assoc bytes (line_text words) (lines_text lines)
    ∙ ap (λ (x : List ℕ). bytes ++ x) (sym (flat_map-cons line_text words lines))
