-- Words of two parts with one byte of a value between them.
use Rattle.std.proofs.Common.{◌≡◌, ℕ, ◌^◌, ◌<◌, ◌≤◌, true, leb, List, [], ◌∷◌, ◌++◌, length, Some, None, refl, sym, ap, ◌∙◌, arith}
use Rattle.std.specs.Char.{is_ascii_digit}
use Rattle.std.specs.Fmt.{decimal}
use Rattle.std.specs.List.{join_with_byte, list_all}
use Rattle.std.proofs.lemmas.Bool.{and_parts, leb-true, ne_eqb}
use Rattle.std.proofs.lemmas.Fmt.{digits_decimal}
use Rattle.std.proofs.lemmas.List.Splits.{join_with_byte-slice_split}
use Rattle.tp_text.specs.Lines.{halves, pieces, two_of}
use Rattle.tp_text.proofs.Joined.{IsApart, pieces_at, pieces_one, some_piece}
use Rattle.tp_text.proofs.Numerals.{own}

not_two : (a c : List ℕ) (others : List (List ℕ)) → 0 < length others → two_of (a ∷ c ∷ others) ≡ None
not_two a c [] some = absurd (omega arith)
not_two a c (p ∷ others) some = refl

pub no_halves : (mark : ℕ) (word a b c d : List ℕ) → pieces mark word ≡ a ∷ pieces mark b → pieces mark b ≡ c ∷ pieces mark d → halves mark word ≡ None
unfolding halves
no_halves mark word a b c d first second =
    ap two_of (first ∙ ap (λ (ps : List (List ℕ)). a ∷ ps) second) ∙ not_two a c (pieces mark d) (some_piece mark d)

are_two : (ps : List (List ℕ)) (a b : List ℕ) → two_of ps ≡ Some (a, b) → ps ≡ a ∷ b ∷ []
are_two [] a b e = absurd cc
are_two (x ∷ []) a b e = absurd cc
are_two (x ∷ y ∷ []) a b e =
    let both : (x, y) ≡ (a, b) = cc in
    ap (λ (p : List ℕ × List ℕ). p.0 ∷ p.1 ∷ []) both
are_two (x ∷ y ∷ z ∷ ps) a b e = absurd cc

-- the word is the two halves, with the byte between them
pub halves_take : (mark : ℕ) (word a b : List ℕ) → halves mark word ≡ Some (a, b) → word ≡ a ++ mark ∷ b
unfolding halves
halves_take mark word a b e = sym (join_with_byte-slice_split mark word) ∙ ap (join_with_byte mark) (are_two (pieces mark word) a b e)

pub halves_again : (mark : ℕ) (a b : List ℕ) → IsApart mark a → IsApart mark b → halves mark (a ++ mark ∷ b) ≡ Some (a, b)
unfolding halves
halves_again mark a b first second = ap two_of (pieces_at mark a b first ∙ ap (λ (ps : List (List ℕ)). a ∷ ps) (pieces_one mark b second))

digits_apart : (ds : List ℕ) → list_all is_ascii_digit ds ≡ true → IsApart 46 ds
digits_apart [] all = tt
digits_apart (d ∷ ds) all =
    let parts = and_parts (is_ascii_digit d) (list_all is_ascii_digit ds) all in
    let low : 48 ≤ d = leb-true _ _ (and_parts (leb 48 d) (leb d 57) parts.0).0 in
    (ne_eqb d 46 (λ e. omega (arith, low)), digits_apart ds parts.1)

-- no point stands in a decimal word
pub decimal_apart : (n : ℕ) → n < 2 ^ 64 → IsApart 46 (decimal n)
decimal_apart n small = digits_apart (decimal n) (digits_decimal own n small)
