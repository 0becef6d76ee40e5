-- Bytes, numbers, keys and values as fields.
use Rattle.std.proofs.Common.{◌≡◌, ℕ, zero, suc, ◌^◌, ◌<◌, ◌≤◌, true, List, [], ◌∷◌, ◌++◌, length, take, Ok, refl, sym, ap, subst, ◌∙◌, arith}
use Rattle.std.specs.Prelude.{nat_le}
use Rattle.std.proofs.lemmas.Bool.{le-leb, leb-true}
use Rattle.std.proofs.lemmas.List.{length-append, length-take, take-append-drop}
use Rattle.tp_base.proofs.Ranges.{in_range, range_in}
use Rattle.tp_base.specs.Fields.{At, IsBytes, big_endian, big_endian_value, left, past}
use Rattle.tp_base.specs.Limits.{IsFrom, is_from}
use Rattle.tp_base.specs.Lists.{Each}
use Rattle.tp_base.proofs.BigEndian.{big_endian-big_endian_value, big_endian_value-big_endian, big_endian_value-lt, length-big_endian}
use Rattle.tp_base.proofs.Reading.{IsBytes-drop, IsBytes-take, left_past, left_text, take_text}
use Rattle.tp_ops.specs.Limits.{IsText}
use Rattle.tp_text.specs.Steps.{◌>>=◌, need}
use Rattle.tp_text.proofs.Stepped.{bind_ok, need_ok, ok_is}
use Rattle.tp_wire.specs.Meaning.{bytes_at, fault_at, number_at, text_at, value_at}
use Rattle.tp_wire.specs.Spelling.{byte, eight, four, text}
use Rattle.tp_wire.specs.declared.fault.WireCause.TheVariants.{Range, Short}
use Rattle.tp_wire.specs.declared.fault.WireFault.{WireFault}
use Rattle.tp_wire.proofs.OneByte.{one_byte}
use Rattle.tp_wire.proofs.Fielded.{IsField, IsRead, Takes, last, respelled, then_field, whole}

each_byte : (bytes : List ℕ) → IsBytes bytes → Each (λ b. b < 256) bytes
each_byte [] fits = tt
each_byte (b ∷ bytes) fits = (fits zero, each_byte bytes (λ i. fits (suc i)))

-- ---- so many bytes

abbrev pub AreBytes : ℕ → List ℕ → Type 0
AreBytes n bytes = (length bytes ≡ n) × Each (λ b. b < 256) bytes

pub record Taken (n : ℕ) (at : At) (x : List ℕ × At) : Type 0 where
  pub takes : Takes at x.0 x.1
  pub count : length x.0 ≡ n
  pub bytes : IsBytes x.0

bytes_taken : (n : ℕ) (at : At) (x : List ℕ × At) → IsBytes at.input → bytes_at n at ≡ Ok x → Taken n at x
unfolding bytes_at
bytes_taken n at x fits e =
    let there = need_ok (nat_le n (length (left at))) (fault_at Short at) (Ok (take n (left at), past n at)) x e in
    let enough : n ≤ length (left at) = leb-true _ _ there.0 in
    let all : IsBytes (left at) = IsBytes-drop at.place at.input fits in
    subst (λ (y : List ℕ × At). Taken n at y) (ok_is WireFault (take n (left at), past n at) x there.1) (record {
      takes = record { parts = sym (ap (λ (t : List ℕ). take n (left at) ++ t) (left_past n at) ∙ take-append-drop n (left at)); input = refl };
      count = omega (arith, length-take n (left at));
      bytes = IsBytes-take n (left at) all;
    })

bytes_again : (n : ℕ) (at : At) (bytes rest : List ℕ) → length bytes ≡ n → left at ≡ bytes ++ rest → IsRead (bytes_at n) at bytes rest
unfolding bytes_at
bytes_again n at bytes rest count e =
    let enough : n ≤ length (left at) = omega (arith, ap length e, length-append bytes rest) in
    let test : nat_le n (length (left at)) ≡ true = le-leb _ _ enough in
    record {
      after = past n at;
      read = rw (test, take_text bytes rest at n e count) refl;
      rest_is = left_text bytes rest at n e count;
    }

pub bytes_field : (n : ℕ) → IsField (bytes_at n) (λ bytes. bytes) (AreBytes n)
bytes_field n = record {
  takes = λ at x fits e. let taken = bytes_taken n at x fits e in (taken.takes, (taken.count, each_byte x.0 taken.bytes));
  again = λ at bytes rest fits e. bytes_again n at bytes rest fits.0 e;
}

-- ---- numbers

value_field : (width : ℕ) → IsField (value_at width) (big_endian width) (λ n. n < 256 ^ width)
unfolding value_at
value_field width = record {
  takes = λ at x fits e.
      let step = bind_ok (bytes_at width at) (λ bytes. Ok (big_endian_value bytes.0, bytes.1)) x e in
      let taken = bytes_taken width at step.0 fits step.1 in
      let again : big_endian width (big_endian_value step.0.0) ≡ step.0.0 = subst (λ (w : ℕ). big_endian w (big_endian_value step.0.0) ≡ step.0.0) taken.count (big_endian-big_endian_value step.0.0 taken.bytes) in
      let small : big_endian_value step.0.0 < 256 ^ width = subst (λ (w : ℕ). big_endian_value step.0.0 < 256 ^ w) taken.count (big_endian_value-lt step.0.0 taken.bytes) in
      subst (λ (y : ℕ × At). Takes at (big_endian width y.0) y.1 × (y.0 < 256 ^ width)) (ok_is WireFault (big_endian_value step.0.0, step.0.1) x step.2) (subst (λ (t : List ℕ). Takes at t step.0.1) (sym again) taken.takes, small);
  again = λ at n rest fits e.
      let is = bytes_again width at (big_endian width n) rest (length-big_endian width n) e in
      record { after = is.after; read = rw (is.read, big_endian_value-big_endian width n fits) refl; rest_is = is.rest_is };
}

pub number_field : (width low high : ℕ) → high < 256 ^ width → IsField (number_at width low high) (big_endian width) (IsFrom low high)
unfolding number_at
number_field width low high small = record {
  takes = λ at x fits e.
      let step = bind_ok (value_at width at) (λ n. need (is_from low high n.0) (fault_at Range at) >>= λ _. Ok n) x e in
      let taken = (value_field width).takes at step.0 fits step.1 in
      let there = need_ok (is_from low high step.0.0) (fault_at Range at) (Ok step.0) x step.2 in
      subst (λ (y : ℕ × At). Takes at (big_endian width y.0) y.1 × IsFrom low high y.0) (ok_is WireFault step.0 x there.1) (taken.0, in_range low high step.0.0 there.0);
  again = λ at n rest fits e.
      let below : n < 256 ^ width = omega (arith, fits.1) in
      let is = (value_field width).again at n rest below e in
      record { after = is.after; read = rw (is.read, range_in low high n fits) refl; rest_is = is.rest_is };
}

pub byte_field : (low high : ℕ) → high < 256 → IsField (number_at 1 low high) byte (IsFrom low high)
byte_field low high small = respelled (number_field 1 low high (omega arith)) (λ n fits. one_byte n (omega (arith, fits.1)))

pub four_field : (low high : ℕ) → high < 2 ^ 32 → IsField (number_at 4 low high) four (IsFrom low high)
four_field low high small = number_field 4 low high (omega arith)

pub eight_field : (low high : ℕ) → high < 2 ^ 64 → IsField (number_at 8 low high) eight (IsFrom low high)
eight_field low high small = number_field 8 low high (omega arith)

-- the byte of a choice
pub any_byte_field : IsField (value_at 1) byte (λ n. n < 256)
any_byte_field = respelled (record {
  takes = λ at x fits e. let taken = (value_field 1).takes at x fits e in (taken.0, omega (arith, taken.1));
  again = λ at n rest fits e. (value_field 1).again at n rest (omega arith) e;
}) one_byte

-- ---- keys and values

pub text_field : (low high : ℕ) → high < 256 → IsField (text_at low high) text (IsText low high)
unfolding text_at text
text_field low high small = whole
    (then_field (byte_field low high small) (λ len _. last (bytes_field len)))
    (λ p fits. (ap (λ (n : ℕ). n ∷ (p.1 ++ [])) fits.1.0, (subst (λ (n : ℕ). IsFrom low high n) (sym fits.1.0) fits.0, fits.1.1)))
    (λ bytes fits. ((length bytes, bytes), refl, (fits.0, (refl, fits.1))))
