-- Lines of words are cut into those words again, and what was cut is what stood there.
use Rattle.std.proofs.Common.{◌≡◌, ◌==◌, ℕ, suc, ◌+◌, ◌-◌, ◌<◌, ◌≤◌, Bool, true, false, eq-eqb, List, [], ◌∷◌, ◌++◌, length, map, refl, sym, ap, ◌∙◌, arith, append_assoc}
use Rattle.std.specs.List.{flat_map, join_with_byte, onto_first}
use Rattle.std.proofs.lemmas.Bool.{ne_eqb}
use Rattle.std.proofs.lemmas.List.Concat.{flat_map-cons}
use Rattle.std.proofs.lemmas.List.Splits.{join_with_byte-slice_split, length-slice_split, slice_split-cons_no, slice_split-cons_yes}
use Rattle.tp_base.specs.Lists.{Each}
use Rattle.tp_text.specs.Lines.{lines_of, pieces, words_of}
use Rattle.tp_text.specs.Writing.{line_text, lines_text}

-- neither a space nor a line end is in the word
abbrev pub IsPlain : List ℕ → Type 0
IsPlain word = Each (λ b. 32 < b) word

abbrev pub IsApart : ℕ → List ℕ → Type 0
IsApart mark word = Each (λ b. (b == mark) ≡ false) word

pub pieces_one : (mark : ℕ) (word : List ℕ) → IsApart mark word → pieces mark word ≡ word ∷ []
pieces_one mark [] e = refl
pieces_one mark (b ∷ word) e = slice_split-cons_no (λ b. b == mark) b word e.0 ∙ ap (onto_first b) (pieces_one mark word e.1)

pub pieces_at : (mark : ℕ) (word rest : List ℕ) → IsApart mark word → pieces mark (word ++ mark ∷ rest) ≡ word ∷ pieces mark rest
pieces_at mark [] rest e = slice_split-cons_yes (λ b. b == mark) mark rest (eq-eqb mark mark refl)
pieces_at mark (b ∷ word) rest e = slice_split-cons_no (λ b. b == mark) b (word ++ mark ∷ rest) e.0 ∙ ap (onto_first b) (pieces_at mark word rest e.1)

no_space : (word : List ℕ) → IsPlain word → IsApart 32 word
no_space [] plain = tt
no_space (b ∷ word) plain = (ne_eqb b 32 (λ e. omega (arith, plain.0)), no_space word plain.1)

-- the words of a line are the words that were joined
pub words_again : (w : List ℕ) (ws : List (List ℕ)) → Each IsPlain (w ∷ ws) → words_of (join_with_byte 32 (w ∷ ws)) ≡ w ∷ ws
words_again w [] plain = pieces_one 32 w (no_space w plain.0)
words_again w (v ∷ ws) plain = pieces_at 32 w (join_with_byte 32 (v ∷ ws)) (no_space w plain.0) ∙ ap (λ (x : List (List ℕ)). w ∷ x) (words_again v ws plain.1)

no_end : (word : List ℕ) → IsPlain word → IsApart 10 word
no_end [] plain = tt
no_end (b ∷ word) plain = (ne_eqb b 10 (λ e. omega (arith, plain.0)), no_end word plain.1)

apart_append : (mark : ℕ) (xs ys : List ℕ) → IsApart mark xs → IsApart mark ys → IsApart mark (xs ++ ys)
apart_append mark [] ys a b = b
apart_append mark (x ∷ xs) ys a b = (a.0, apart_append mark xs ys a.1 b)

joined_no_end : (words : List (List ℕ)) → Each IsPlain words → IsApart 10 (join_with_byte 32 words)
joined_no_end [] plain = tt
joined_no_end (w ∷ []) plain = no_end w plain.0
joined_no_end (w ∷ v ∷ ws) plain = apart_append 10 w (32 ∷ join_with_byte 32 (v ∷ ws)) (no_end w plain.0) (refl, joined_no_end (v ∷ ws) plain.1)

pub line_again : (words : List (List ℕ)) (rest : List ℕ) → Each IsPlain words → lines_of (line_text words ++ rest) ≡ join_with_byte 32 words ∷ lines_of rest
line_again words rest plain =
    ap lines_of (append_assoc (join_with_byte 32 words) (10 ∷ []) rest) ∙ pieces_at 10 (join_with_byte 32 words) rest (joined_no_end words plain)

-- the lines of a text are the lines that were written
pub lines_again : (lines : List (List (List ℕ))) (rest : List ℕ) → Each (Each IsPlain) lines → lines_of (lines_text lines ++ rest) ≡ map (join_with_byte 32) lines ++ lines_of rest
lines_again [] rest plain = refl
lines_again (words ∷ lines) rest plain =
    let regrouped : lines_text (words ∷ lines) ++ rest ≡ line_text words ++ (lines_text lines ++ rest) = ap (λ (x : List ℕ). x ++ rest) (flat_map-cons line_text words lines) ∙ append_assoc (line_text words) (lines_text lines) rest in
    ap lines_of regrouped ∙ line_again words (lines_text lines ++ rest) plain.0 ∙ ap (λ (x : List (List ℕ)). join_with_byte 32 words ∷ x) (lines_again lines rest plain.1)

join_more : (c : ℕ) (x : List ℕ) (xs : List (List ℕ)) → 0 < length xs → join_with_byte c (x ∷ xs) ≡ x ++ c ∷ join_with_byte c xs
join_more c x [] some = absurd (omega arith)
join_more c x (y ∷ xs) some = refl

pub some_piece : (mark : ℕ) (bytes : List ℕ) → 0 < length (pieces mark bytes)
some_piece mark bytes = omega (arith, length-slice_split (λ b. b == mark) bytes)

pub few_pieces : (mark : ℕ) (bytes : List ℕ) → length (pieces mark bytes) ≤ length bytes + 1
few_pieces mark [] = omega arith
few_pieces mark (b ∷ bytes) = go (b == mark) refl (few_pieces mark bytes)
  where
    onto : (ps : List (List ℕ)) → length (onto_first b ps) ≤ length ps + (1 - length ps)
    onto [] = omega arith
    onto (p ∷ ps) = omega arith

    go : (same : Bool) → (b == mark) ≡ same → length (pieces mark bytes) ≤ length bytes + 1 → length (pieces mark (b ∷ bytes)) ≤ suc (length bytes) + 1
    go true e few = rw (slice_split-cons_yes (λ x. x == mark) b bytes e) (omega (arith, few))
    go false e few = rw (slice_split-cons_no (λ x. x == mark) b bytes e) (omega (arith, few, onto (pieces mark bytes), some_piece mark bytes))

some_more : (xs ys : List (List ℕ)) → 0 < length ys → 0 < length (xs ++ ys)
some_more [] ys some = some
some_more (x ∷ xs) ys some = omega arith

joined_lines : (lines : List (List ℕ)) (rest : List ℕ) → join_with_byte 10 (lines ++ lines_of rest) ≡ flat_map (λ line. line ++ 10 ∷ []) lines ++ rest
joined_lines [] rest = join_with_byte-slice_split 10 rest
joined_lines (line ∷ lines) rest =
    let more : join_with_byte 10 (line ∷ lines ++ lines_of rest) ≡ line ++ 10 ∷ (flat_map (λ line. line ++ 10 ∷ []) lines ++ rest) = join_more 10 line (lines ++ lines_of rest) (some_more lines (lines_of rest) (some_piece 10 rest)) ∙ ap (λ (x : List ℕ). line ++ 10 ∷ x) (joined_lines lines rest) in
    let regrouped : flat_map (λ line. line ++ 10 ∷ []) (line ∷ lines) ++ rest ≡ line ++ 10 ∷ (flat_map (λ line. line ++ 10 ∷ []) lines ++ rest) = ap (λ (x : List ℕ). x ++ rest) (flat_map-cons (λ (line : List ℕ). line ++ 10 ∷ []) line lines ∙ append_assoc line (10 ∷ []) (flat_map (λ line. line ++ 10 ∷ []) lines)) ∙ append_assoc line (10 ∷ flat_map (λ line. line ++ 10 ∷ []) lines) rest in
    more ∙ sym regrouped

-- what was taken as lines stood before what is left
pub lines_taken : (bytes rest : List ℕ) (lines : List (List ℕ)) → lines_of bytes ≡ lines ++ lines_of rest → bytes ≡ flat_map (λ line. line ++ 10 ∷ []) lines ++ rest
lines_taken bytes rest lines e = sym (join_with_byte-slice_split 10 bytes) ∙ ap (join_with_byte 10) e ∙ joined_lines lines rest

-- a line is its words
pub joined_words : (line : List ℕ) → join_with_byte 32 (words_of line) ≡ line
joined_words line = join_with_byte-slice_split 32 line

ended_lines : (lines : List (List (List ℕ))) → flat_map (λ line. line ++ 10 ∷ []) (map (join_with_byte 32) lines) ≡ lines_text lines
ended_lines [] = refl
ended_lines (words ∷ lines) =
    flat_map-cons (λ (line : List ℕ). line ++ 10 ∷ []) (join_with_byte 32 words) (map (join_with_byte 32) lines)
    ∙ ap (λ (x : List ℕ). line_text words ++ x) (ended_lines lines) ∙ sym (flat_map-cons line_text words lines)

-- the same, of lines of words
pub text_taken : (bytes rest : List ℕ) (lines : List (List (List ℕ))) → lines_of bytes ≡ map (join_with_byte 32) lines ++ lines_of rest → bytes ≡ lines_text lines ++ rest
text_taken bytes rest lines e = lines_taken bytes rest (map (join_with_byte 32) lines) e ∙ ap (λ (x : List ℕ). x ++ rest) (ended_lines lines)

-- where the same pieces are left, the same text is left
pub same_left : (a b : List ℕ) → lines_of a ≡ lines_of b → a ≡ b
same_left a b e = sym (join_with_byte-slice_split 10 a) ∙ ap (join_with_byte 10) e ∙ join_with_byte-slice_split 10 b
