-- Decimal words: what is read is written so, and what is written is read.
use Rattle.std.proofs.Common.{◌≡◌, ℕ, zero, suc, ◌+◌, ◌-◌, ◌*◌, ◌^◌, ◌<◌, ◌≤◌, Bool, true, false, ◌&&◌, cond, eqb, leb, eq-eqb, List, [], ◌∷◌, length, get_or, take, Ok, Err, refl, sym, ap, subst, ◌∙◌, arith, rules}
use Rattle.std.specs.Char.{digit_value, is_ascii_digit}
use Rattle.std.specs.Fmt.{decimal}
use Rattle.std.specs.List.{list_all}
use Rattle.std.specs.Str.Parse.{digits_value}
use Rattle.std.proofs.lemmas.Bool.{and_parts, false≢true, ne_eqb, leb-true, le-leb, lt-leb}
use Rattle.std.proofs.lemmas.Fmt.{decimal-digits_value, decimal_digit, decimal_nonempty, digits_decimal, digits_value-decimal, first_decimal}
use Rattle.std.proofs.lemmas.Int.Digits.{digits_value_more}
use Rattle.std.proofs.lemmas.Str.{digit_value_digit}
use Rattle.std.proofs.lemmas.Str.Parse.{IsNumeralModel, digits_value-take-le, numerals_by_value}
use Rattle.tp_text.specs.Numbers.{is_number, number_of}
use Rattle.tp_text.specs.declared.numbers.NumberFault.{NumberFault}
use Rattle.tp_text.specs.declared.numbers.NumberFault.TheVariants.{NotANumber, NumberTooLarge}

abbrev pub AreDigits : List ℕ → Type 0
AreDigits ds = list_all is_ascii_digit ds ≡ true

pub own : IsNumeralModel AreDigits (digits_value 10)
own = numerals_by_value AreDigits (search rules)

-- ---- the value, digit by digit

digit_in : (ds : List ℕ) (i : ℕ) → i < length ds → AreDigits ds → digit_value (get_or ds i 0) + 48 ≡ get_or ds i 0
digit_in [] i lt all = absurd (omega arith)
digit_in (d ∷ ds) zero lt all =
    let here = and_parts (is_ascii_digit d) (list_all is_ascii_digit ds) all in
    let range = and_parts (leb 48 d) (leb d 57) here.0 in
    digit_value_digit d (leb-true _ _ range.0, leb-true _ _ range.1)
digit_in (d ∷ ds) (suc i) lt all = digit_in ds i (omega arith) (and_parts (is_ascii_digit d) (list_all is_ascii_digit ds) all).1

pub one_more : (ds : List ℕ) (i n : ℕ) → i < length ds → AreDigits ds → n ≡ digits_value 10 (take i ds) → n * 10 + (get_or ds i 0 - 48) ≡ digits_value 10 (take (i + 1) ds)
one_more ds i n lt all e =
    let more = digits_value_more 10 ds i lt in
    let digit = digit_in ds i lt all in
    omega (arith, more, digit, e)

pub too_large : (ds : List ℕ) (i n limit : ℕ) → i < length ds → AreDigits ds → n ≡ digits_value 10 (take i ds) → limit < n * 10 + (get_or ds i 0 - 48) → leb (digits_value 10 ds) limit ≡ false
too_large ds i n limit lt all e above = lt-leb _ _ (omega (arith, one_more ds i n lt all e, digits_value-take-le 10 ds (i + 1) (omega arith)))

-- ---- the two laws

and_true : (b : Bool) → b ≡ true → (b && true) ≡ true
and_true true e = refl
and_true false e = e

not_zero : (b x : Bool) → cond b false x ≡ true → (b ≡ false) × (x ≡ true)
not_zero true x e = absurd (false≢true e)
not_zero false x e = (refl, e)

numeral : (ds : List ℕ) → is_number ds ≡ true → AreDigits ds × (0 < length ds) × (get_or ds 0 0 ≡ 48 → length ds ≡ 1)
numeral [] e = absurd (false≢true e)
numeral (c ∷ []) e = (and_true (is_ascii_digit c) e, omega arith, λ _. refl)
numeral (c ∷ d ∷ ds) e =
    let parts = not_zero (eqb c 48) (list_all is_ascii_digit (c ∷ d ∷ ds)) e in
    (parts.1, omega arith, λ first. absurd (false≢true (sym parts.0 ∙ eq-eqb c 48 first)))

is_numeral : (ds : List ℕ) → AreDigits ds → 0 < length ds → (get_or ds 0 0 ≡ 48 → length ds ≡ 1) → is_number ds ≡ true
is_numeral [] all some lead = absurd (omega arith)
is_numeral (c ∷ []) all some lead = (and_parts (is_ascii_digit c) true all).0
is_numeral (c ∷ d ∷ ds) all some lead =
    let other : c ≡ 48 → ⊥ = λ e. omega (arith, lead e) in
    rw (ne_eqb c 48 other) all

chosen : {A : Type 0} (a b : Bool) (x y : A) (f g : NumberFault) → cond a (cond b (Ok x) (Err f)) (Err g) ≡ Ok y → (a ≡ true) × (b ≡ true) × (x ≡ y)
chosen true true x y f g e = (refl, refl, cc)
chosen true false x y f g e = absurd cc
chosen false b x y f g e = absurd cc

-- what is read is written so
pub number_takes : (limit : ℕ) (word : List ℕ) (n : ℕ) → limit < 2 ^ 64 → number_of limit word ≡ Ok n → (word ≡ decimal n) × (n ≤ limit)
unfolding number_of
number_takes limit word n small e =
    let is = chosen (is_number word) (leb (digits_value 10 word) limit) (digits_value 10 word) n NumberTooLarge NotANumber e in
    let below : digits_value 10 word ≤ limit = leb-true _ _ is.1 in
    let parts = numeral word is.0 in
    let text : decimal (digits_value 10 word) ≡ word = decimal-digits_value own word parts.0 parts.1 parts.2 (omega arith) in
    subst (λ (m : ℕ). (word ≡ decimal m) × (m ≤ limit)) is.2 (sym text, below)

decimal_is_number : (n : ℕ) → n < 2 ^ 64 → is_number (decimal n) ≡ true
decimal_is_number zero small = ap is_number (decimal_digit 0 (omega arith)) ∙ refl
decimal_is_number (suc n) small =
    is_numeral (decimal (suc n)) (digits_decimal own (suc n) small) (decimal_nonempty (suc n) small)
    (λ e. let first = first_decimal (suc n) (omega arith) small in omega arith)

-- what is written is read
pub number_again : (limit n : ℕ) → limit < 2 ^ 64 → n ≤ limit → number_of limit (decimal n) ≡ Ok n
unfolding number_of
number_again limit n small below =
    let value : digits_value 10 (decimal n) ≡ n = digits_value-decimal own n (omega arith) in
    rw (decimal_is_number n (omega arith), value, le-leb n limit below) refl
