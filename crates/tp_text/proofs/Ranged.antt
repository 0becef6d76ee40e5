-- Numbers in a range: what is read is written so, and what is written is read.
use Rattle.std.proofs.Common.{◌≡◌, ℕ, ◌^◌, ◌<◌, leb, List, Ok, refl, subst}
use Rattle.std.specs.Fmt.{decimal}
use Rattle.std.proofs.lemmas.Bool.{leb-true, le-leb}
use Rattle.tp_base.specs.Limits.{IsFrom}
use Rattle.tp_text.specs.Numbers.{number_at, number_of}
use Rattle.tp_text.specs.Steps.{◌>>=◌, else_cause, need}
use Rattle.tp_text.proofs.Numerals.{number_again, number_takes}
use Rattle.tp_text.proofs.Stepped.{bind_ok, else_ok, need_ok, ok_is}

pub number_read : {C : Type 0} (cause : C) (low high : ℕ) (word : List ℕ) (n : ℕ) → high < 2 ^ 64 → number_at cause low high word ≡ Ok n → (word ≡ decimal n) × IsFrom low high n
unfolding number_at
number_read {C} cause low high word n small e =
    let a = bind_ok (else_cause cause (number_of high word)) (λ m. need (leb low m) cause >>= λ _. Ok m) n e in
    let w = number_takes high word a.0 small (else_ok cause (number_of high word) a.0 a.1) in
    let t = need_ok (leb low a.0) cause (Ok a.0) n a.2 in
    subst (λ (m : ℕ). (word ≡ decimal m) × IsFrom low high m) (ok_is C a.0 n t.1) (w.0, (leb-true _ _ t.0, w.1))

pub number_written : {C : Type 0} (cause : C) (low high n : ℕ) → high < 2 ^ 64 → IsFrom low high n → number_at cause low high (decimal n) ≡ Ok n
unfolding number_at
number_written cause low high n small range = rw (number_again high n small range.1, le-leb low n range.0) refl
