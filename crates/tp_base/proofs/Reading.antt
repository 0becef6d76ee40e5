-- Where a reader stands after a field.
use Rattle.std.proofs.Common.{◌≡◌, ℕ, ◌+◌, List, ◌++◌, length, take, drop, sym, ap, ◌∙◌, inl, inr, arith}
use Rattle.std.proofs.lemmas.Bool.{cases_lt}
use Rattle.std.proofs.lemmas.List.{drop-drop, drop_at, get_or-drop, get_or-take, get_or_past, length-take, take_at}
use Rattle.tp_base.specs.Fields.{At, IsBytes, left, past}

pub left_past : (n : ℕ) (at : At) → left (past n at) ≡ drop n (left at)
left_past n at = sym (drop-drop n at.place at.input)

-- the bytes of a text that is next, and what is left behind it
pub take_text : (text rest : List ℕ) (at : At) (n : ℕ) → left at ≡ text ++ rest → length text ≡ n → take n (left at) ≡ text
take_text text rest at n e len = ap (take n) e ∙ take_at text rest n len

pub left_text : (text rest : List ℕ) (at : At) (n : ℕ) → left at ≡ text ++ rest → length text ≡ n → left (past n at) ≡ rest
left_text text rest at n e len = left_past n at ∙ ap (drop n) e ∙ drop_at text rest n len

pub IsBytes-drop : (n : ℕ) (bytes : List ℕ) → IsBytes bytes → IsBytes (drop n bytes)
IsBytes-drop n bytes fits i = rw get_or-drop (fits (n + i))

pub IsBytes-take : (n : ℕ) (bytes : List ℕ) → IsBytes bytes → IsBytes (take n bytes)
IsBytes-take n bytes fits i = elim (cases_lt i n) [
  | inl within ↦ rw (get_or-take n bytes i 0 within) (fits i)
  | inr past ↦ rw (get_or_past (take n bytes) i 0 (omega (arith, length-take n bytes))) (omega arith)
]
