-- Hexadecimal words: what is read is written so, and what is written is read.
use Rattle.std.proofs.Common.{◌≡◌, ◌==◌, ℕ, zero, suc, ◌+◌, ◌-◌, ◌*◌, ◌/◌, ◌%◌, ◌<◌, ◌≤◌, Bool, true, false, ◌&&◌, cond, eqb, leb, List, [], ◌∷◌, length, Ok, Err, refl, sym, ap, subst, ◌∙◌, arith, slice_index, inl, inr}
use Rattle.hex.specs.Hex.{encode_lower, encode_with, lower_digits}
use Rattle.hex.proofs.HexLemmas.{length-encode_with}
use Rattle.std.specs.List.{list_all}
use Rattle.std.proofs.lemmas.Bool.{and_parts, eqb-true, leb-true, cases_lt, ne_eqb}
use Rattle.tp_base.specs.Lists.{Each}
use Rattle.tp_text.specs.Hexadecimal.{hex_of, is_hex, nibble, pair_values}
use Rattle.tp_text.specs.declared.hexadecimal.HexFault.{HexFault}
use Rattle.tp_text.specs.declared.hexadecimal.HexFault.TheVariants.{OddHex, BadHex}

-- the digit of a number below sixteen
abbrev glyph : ℕ → ℕ
glyph n = slice_index lower_digits n

-- a test of the first n digits, which computes
abbrev is_glyph : ℕ → Bool
is_glyph n = is_hex (glyph n) && (nibble (glyph n) == n)

abbrev are_glyphs : ℕ → Bool
are_glyphs zero = true
are_glyphs (suc n) = is_glyph n && are_glyphs n

glyph_at : (n k : ℕ) → are_glyphs n ≡ true → k < n → is_glyph k ≡ true
glyph_at zero k h lt = absurd (omega arith)
glyph_at (suc n) k h lt =
    let parts = and_parts (is_glyph n) (are_glyphs n) h in
    elim (cases_lt k n) [
      | inl below ↦ glyph_at n k parts.1 below
      | inr top ↦ let e : k ≡ n = omega arith in rw e parts.0
    ]

glyph_is : (n : ℕ) → n < 16 → (is_hex (glyph n) ≡ true) × (nibble (glyph n) ≡ n)
glyph_is n lt =
    let parts = and_parts (is_hex (glyph n)) (nibble (glyph n) == n) (glyph_at 16 n refl lt) in
    (parts.0, eqb-true _ _ parts.1)

-- a test of the digits from 48 on
abbrev is_back : ℕ → Bool
is_back k = cond (is_hex (48 + k)) ((glyph (nibble (48 + k)) == 48 + k) && leb (nibble (48 + k)) 15) true

abbrev are_back : ℕ → Bool
are_back zero = true
are_back (suc n) = is_back n && are_back n

back_at : (n k : ℕ) → are_back n ≡ true → k < n → is_back k ≡ true
back_at zero k h lt = absurd (omega arith)
back_at (suc n) k h lt =
    let parts = and_parts (is_back n) (are_back n) h in
    elim (cases_lt k n) [
      | inl below ↦ back_at n k parts.1 below
      | inr top ↦ let e : k ≡ n = omega arith in rw e parts.0
    ]

taken : (b x : Bool) → b ≡ true → cond b x true ≡ true → x ≡ true
taken true x e h = h
taken false x e h = absurd cc

pub digit_range : (c : ℕ) → is_hex c ≡ true → (48 ≤ c) × (c ≤ 102)
digit_range c e = grind (arith, leb-true)

digit_is : (c : ℕ) → is_hex c ≡ true → (glyph (nibble c) ≡ c) × (nibble c < 16)
digit_is c e =
    let range = digit_range c e in
    let k : 48 + (c - 48) ≡ c = omega arith in
    let e' : is_hex (48 + (c - 48)) ≡ true = rw k e in
    let h = taken (is_hex (48 + (c - 48))) ((glyph (nibble (48 + (c - 48))) == 48 + (c - 48)) && leb (nibble (48 + (c - 48))) 15) e' (back_at 55 (c - 48) refl (omega arith)) in
    let parts = and_parts (glyph (nibble (48 + (c - 48))) == 48 + (c - 48)) (leb (nibble (48 + (c - 48))) 15) h in
    let same : glyph (nibble (48 + (c - 48))) ≡ 48 + (c - 48) = eqb-true _ _ parts.0 in
    let low : nibble (48 + (c - 48)) ≤ 15 = leb-true _ _ parts.1 in
    subst (λ (x : ℕ). (glyph (nibble x) ≡ x) × (nibble x < 16)) k (same, omega arith)

abbrev pub AreBytes : List ℕ → Type 0
AreBytes bytes = Each (λ b. b < 256) bytes

pairs_take : (word : List ℕ) → length word % 2 ≡ 0 → list_all is_hex word ≡ true → (word ≡ encode_lower (pair_values word)) × AreBytes (pair_values word)
unfolding encode_with
pairs_take [] even all = (refl, tt)
pairs_take (c ∷ []) even all = absurd (omega arith)
pairs_take (high ∷ low ∷ rest) even all =
    let one = and_parts (is_hex high) (list_all is_hex (low ∷ rest)) all in
    let two = and_parts (is_hex low) (list_all is_hex rest) one.1 in
    let h = digit_is high one.0 in
    let l = digit_is low two.0 in
    let others = pairs_take rest (omega arith) two.1 in
    let upper : (nibble high * 16 + nibble low) / 16 ≡ nibble high = omega (arith, h.1, l.1) in
    let lower : (nibble high * 16 + nibble low) % 16 ≡ nibble low = omega (arith, h.1, l.1) in
    let text : high ∷ low ∷ rest ≡ glyph (nibble high) ∷ glyph (nibble low) ∷ encode_lower (pair_values rest) = ap (λ (x : ℕ). x ∷ low ∷ rest) (sym h.0) ∙ ap (λ (x : ℕ). glyph (nibble high) ∷ x ∷ rest) (sym l.0) ∙ ap (λ (x : List ℕ). glyph (nibble high) ∷ glyph (nibble low) ∷ x) others.0 in
    (rw (upper, lower) text, (omega (arith, h.1, l.1), others.1))

pub pairs_again : (bytes : List ℕ) → AreBytes bytes → (list_all is_hex (encode_lower bytes) ≡ true) × (pair_values (encode_lower bytes) ≡ bytes)
unfolding encode_with
pairs_again [] fits = (refl, refl)
pairs_again (b ∷ bytes) fits =
    let h = glyph_is (b / 16) (omega (arith, fits.0)) in
    let l = glyph_is (b % 16) (omega arith) in
    let others = pairs_again bytes fits.1 in
    let byte : b / 16 * 16 + b % 16 ≡ b = omega arith in
    (rw (h.0, l.0) others.0, rw (h.1, l.1, byte, others.1) refl)

chosen : {A : Type 0} (a b : Bool) (x y : A) (f g : HexFault) → cond a (Err f) (cond b (Ok x) (Err g)) ≡ Ok y → (a ≡ false) × (b ≡ true) × (x ≡ y)
chosen true b x y f g e = absurd cc
chosen false true x y f g e = (refl, refl, cc)
chosen false false x y f g e = absurd cc

even_of : (n : ℕ) → eqb (n % 2) 1 ≡ false → n % 2 ≡ 0
even_of n e = grind arith

-- what is read is written so
pub hex_takes : (word bytes : List ℕ) → hex_of word ≡ Ok bytes → (word ≡ encode_lower bytes) × AreBytes bytes
unfolding hex_of
hex_takes word bytes e =
    let is = chosen (eqb (length word % 2) 1) (list_all is_hex word) (pair_values word) bytes OddHex BadHex e in
    subst (λ (x : List ℕ). (word ≡ encode_lower x) × AreBytes x) is.2 (pairs_take word (even_of (length word) is.0) is.1)

-- what is written is read
pub hex_again : (bytes : List ℕ) → AreBytes bytes → hex_of (encode_lower bytes) ≡ Ok bytes
unfolding hex_of
hex_again bytes fits =
    let both = pairs_again bytes fits in
    let odd : eqb (length (encode_lower bytes) % 2) 1 ≡ false = ne_eqb _ _ (λ e. omega (arith, e, length-encode_with lower_digits bytes)) in
    rw (odd, both.0, both.1) refl
