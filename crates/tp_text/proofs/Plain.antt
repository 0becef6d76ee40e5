-- Neither a space nor a line end stands in a decimal or a hexadecimal word.
use Rattle.std.proofs.Common.{◌≡◌, ℕ, ◌^◌, ◌<◌, ◌≤◌, true, leb, ltb, List, [], ◌∷◌, ◌++◌, refl, arith}
use Rattle.hex.specs.Hex.{encode_lower}
use Rattle.std.specs.Char.{is_ascii_digit}
use Rattle.std.specs.Fmt.{decimal}
use Rattle.std.specs.List.{list_all}
use Rattle.std.specs.Prelude.{nat_lt}
use Rattle.std.specs.Str.{bytes_eq}
use Rattle.std.proofs.lemmas.Bool.{and_parts, leb-true, ltb-true}
use Rattle.std.proofs.lemmas.Fmt.{digits_decimal}
use Rattle.std.proofs.lemmas.Slice.Eq.{bytes_eq-Decides}
use Rattle.tp_text.specs.Hexadecimal.{is_hex}
use Rattle.tp_text.specs.Names.{dotted}
use Rattle.tp_text.proofs.Hexed.{AreBytes, digit_range, pairs_again}
use Rattle.tp_text.proofs.Joined.{IsPlain}
use Rattle.tp_text.proofs.Numerals.{own}

digits_plain : (ds : List ℕ) → list_all is_ascii_digit ds ≡ true → IsPlain ds
digits_plain [] all = tt
digits_plain (d ∷ ds) all =
    let parts = and_parts (is_ascii_digit d) (list_all is_ascii_digit ds) all in
    let low : 48 ≤ d = leb-true _ _ (and_parts (leb 48 d) (leb d 57) parts.0).0 in
    (omega (arith, low), digits_plain ds parts.1)

pub decimal_plain : (n : ℕ) → n < 2 ^ 64 → IsPlain (decimal n)
decimal_plain n small = digits_plain (decimal n) (digits_decimal own n small)

hex_digits_plain : (ds : List ℕ) → list_all is_hex ds ≡ true → IsPlain ds
hex_digits_plain [] all = tt
hex_digits_plain (d ∷ ds) all =
    let parts = and_parts (is_hex d) (list_all is_hex ds) all in
    (omega (arith, (digit_range d parts.0).0), hex_digits_plain ds parts.1)

pub hex_plain : (bytes : List ℕ) → AreBytes bytes → IsPlain (encode_lower bytes)
hex_plain bytes fits = hex_digits_plain (encode_lower bytes) (pairs_again bytes fits).0

pub plain_append : (xs ys : List ℕ) → IsPlain xs → IsPlain ys → IsPlain (xs ++ ys)
plain_append [] ys a b = b
plain_append (x ∷ xs) ys a b = (a.0, plain_append xs ys a.1 b)

pub plain_by : (word : List ℕ) → list_all (λ b. nat_lt 32 b) word ≡ true → IsPlain word
plain_by [] all = tt
plain_by (b ∷ word) all =
    let parts = and_parts (ltb 32 b) (list_all (λ b. nat_lt 32 b) word) all in
    (ltb-true _ _ parts.0, plain_by word parts.1)

pub same_bytes : (xs ys : List ℕ) → bytes_eq xs ys ≡ true → xs ≡ ys
same_bytes xs ys e = (bytes_eq-Decides xs ys).0 e

pub bytes_same : (xs : List ℕ) → bytes_eq xs xs ≡ true
bytes_same xs = (bytes_eq-Decides xs xs).1 refl

pub dotted_plain : (m n : ℕ) → m < 2 ^ 64 → n < 2 ^ 64 → IsPlain (dotted m n)
dotted_plain m n first second = plain_append (decimal m) (46 ∷ decimal n) (decimal_plain m first) (omega arith, decimal_plain n second)
