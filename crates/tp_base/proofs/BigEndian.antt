-- What is written at a width is read again, and what is read is what would be written.
use Rattle.std.proofs.Common.{◌≡◌, ℕ, zero, suc, ◌+◌, ◌*◌, ◌/◌, ◌%◌, ◌^◌, ◌<◌, ◌≤◌, List, [], ◌∷◌, length, refl, sym, ap, ◌∙◌, arith}
use Rattle.std.proofs.Math.Nat.{add-mul, add-mul-div_left, add-mul-mod_self_right, add_assoc, div-add-mod', div-one, mod-eq_of_lt, mod-lt, mul-add-mod_self_right, mul-le-mul_right, mul_assoc, one-le-pow, pow-succ'}
use Rattle.std.specs.Int.{byte_at, bytes_high_first, to_be_bytes, w32, w64}
use Rattle.tp_base.specs.Fields.{IsBytes, big_endian, big_endian_value}
use Rattle.std.proofs.lemmas.Nat.{div-mul-add}

-- the same bytes as std's `to_be_bytes` has
byte_at-pow : (k n : ℕ) → byte_at k n ≡ n / 256 ^ k % 256
byte_at-pow zero n = ap (λ (m : ℕ). m % 256) (sym (div-one n))
byte_at-pow (suc k) n = refl

pub bytes_high_first-big_endian : (width n : ℕ) → bytes_high_first width n ≡ big_endian width n
unfolding big_endian
bytes_high_first-big_endian zero n = refl
bytes_high_first-big_endian (suc k) n = rw (byte_at-pow k n, bytes_high_first-big_endian k n) refl

pub length-big_endian : (width n : ℕ) → length (big_endian width n) ≡ width
unfolding big_endian
length-big_endian zero n = refl
length-big_endian (suc width) n = ap (λ (m : ℕ). suc m) (length-big_endian width n)

-- a power of 256 is above zero
pow_above_zero : (n : ℕ) → zero < 256 ^ n
pow_above_zero n = let h = one-le-pow n 256 (omega arith) in omega arith

-- the two low digits of n, to the bases c and then m
mod-split : (n : ℕ) {m c : ℕ} → zero < m → zero < c → n % (m * c) ≡ (n / c % m) * c + n % c
mod-split n {m} {c} hm hc =
    let a = mod-lt (n / c) hm in
    let b = mod-lt n hc in
    let top : (n / c % m + 1) * c ≤ m * c = mul-le-mul_right c (omega arith) in
    let expand : (n / c % m + 1) * c ≡ n / c % m * c + 1 * c = add-mul (n / c % m) 1 c in
    let split : n ≡ n / c / m * (m * c) + (n / c % m * c + n % c) =
    sym (div-add-mod' n c)
    ∙ ap (λ (x : ℕ). x * c + n % c) (sym (div-add-mod' (n / c) m))
    ∙ ap (λ (x : ℕ). x + n % c) (add-mul (n / c / m * m) (n / c % m) c ∙ ap (λ (x : ℕ). x + n / c % m * c) (mul_assoc (n / c / m) m c))
    ∙ add_assoc (n / c / m * (m * c)) (n / c % m * c) (n % c) in
    ap (λ (x : ℕ). x % (m * c)) split ∙ mul-add-mod_self_right (n / c / m) (m * c) (n / c % m * c + n % c) ∙ mod-eq_of_lt (omega arith)

-- the bytes at a width say the number, as far as it fits
big_endian_value-mod : (width n : ℕ) → big_endian_value (big_endian width n) ≡ n % 256 ^ width
unfolding big_endian big_endian_value
big_endian_value-mod zero n = omega arith
big_endian_value-mod (suc width) n =
    let split = mod-split n {m = 256} {c = 256 ^ width} (omega arith) (pow_above_zero width) in
    rw (length-big_endian width n, big_endian_value-mod width n, pow-succ' 256 width, split) refl

-- reading what was written gives it back
pub big_endian_value-big_endian : (width n : ℕ) → n < 256 ^ width → big_endian_value (big_endian width n) ≡ n
big_endian_value-big_endian width n fits = big_endian_value-mod width n ∙ mod-eq_of_lt fits

-- what std's bytes of a number are
pub to_be_bytes-32 : (n : ℕ) → to_be_bytes w32 n ≡ big_endian 4 n
to_be_bytes-32 n = bytes_high_first-big_endian 4 n

pub to_be_bytes-64 : (n : ℕ) → to_be_bytes w64 n ≡ big_endian 8 n
to_be_bytes-64 n = bytes_high_first-big_endian 8 n

-- the bytes of a number that fits say that number, and are those that would be written
pub value_of_bytes : (width n : ℕ) (bytes : List ℕ) → bytes_high_first width n ≡ bytes → n < 256 ^ width → n ≡ big_endian_value bytes
value_of_bytes width n bytes same fits =
    sym (ap (λ (b : List ℕ). big_endian_value b) (sym same ∙ bytes_high_first-big_endian width n) ∙ big_endian_value-big_endian width n fits)

-- what bytes say fits their width
pub big_endian_value-lt : (bytes : List ℕ) → IsBytes bytes → big_endian_value bytes < 256 ^ length bytes
unfolding big_endian_value
big_endian_value-lt [] fits = omega arith
big_endian_value-lt (byte ∷ bytes) fits =
    let first = fits zero in
    let below = big_endian_value-lt bytes (λ i. fits (suc i)) in
    let top : (byte + 1) * 256 ^ length bytes ≤ 256 * 256 ^ length bytes = mul-le-mul_right (256 ^ length bytes) (omega arith) in
    let expand : (byte + 1) * 256 ^ length bytes ≡ byte * 256 ^ length bytes + 1 * 256 ^ length bytes = add-mul byte 1 (256 ^ length bytes) in
    omega (arith, pow-succ' 256 (length bytes))

-- what is above the width is not written
big_endian-mod : (width m n : ℕ) → big_endian width (m * 256 ^ width + n) ≡ big_endian width n
unfolding big_endian
big_endian-mod zero m n = refl
big_endian-mod (suc width) m n =
    let p = 256 ^ width in
    let apart : m * 256 ^ suc width + n ≡ n + p * (m * 256) = omega (arith, ap (λ (k : ℕ). m * k) (pow-succ' 256 width)) in
    let again : m * 256 ^ suc width + n ≡ m * 256 * p + n = omega (arith, apart) in
    let first : (m * 256 ^ suc width + n) / p % 256 ≡ n / p % 256 =
    ap (λ (k : ℕ). k / p % 256) apart ∙ ap (λ (k : ℕ). k % 256) (add-mul-div_left n (m * 256) (pow_above_zero width)) ∙ add-mul-mod_self_right (n / p) m 256 in
    let rest = ap (λ (k : ℕ). big_endian width k) again ∙ big_endian-mod width (m * 256) n in
    rw (first, rest) refl

-- writing what was read gives the bytes back
pub big_endian-big_endian_value : (bytes : List ℕ) → IsBytes bytes → big_endian (length bytes) (big_endian_value bytes) ≡ bytes
unfolding big_endian big_endian_value
big_endian-big_endian_value [] fits = refl
big_endian-big_endian_value (byte ∷ bytes) fits =
    let below = big_endian_value-lt bytes (λ i. fits (suc i)) in
    let p = 256 ^ length bytes in
    let first : (byte * p + big_endian_value bytes) / p % 256 ≡ byte =
    ap (λ (k : ℕ). k % 256) (div-mul-add byte p (big_endian_value bytes) below) ∙ mod-eq_of_lt (fits zero) in
    let rest = big_endian-mod (length bytes) byte (big_endian_value bytes) ∙ big_endian-big_endian_value bytes (λ i. fits (suc i)) in
    rw (first, rest) refl
