-- What a read from memory takes, as a source tells it.
use Rattle.std.proofs.Common.{◌≡◌, ℕ, ◌<◌, min, List, [], ◌++◌, length, take, drop, sym, ◌∙◌, ap, arith, length-append, length-drop, take-append-drop}
use Rattle.std.proofs.lemmas.List.{take_at, drop_all, length-take}

-- where the buffer has the first n of what was left, and the rest is left, the n were consumed, and none only at the end
pub taken : (n : ℕ) (left buf now after : List ℕ) → n ≡ min (length buf) (length left) → now ≡ take n left ++ drop n buf → after ≡ drop n left
    → (left ≡ take n now ++ after) × (n ≡ 0 → 0 < length now → after ≡ [])
taken n left buf now after count front rest =
    let size : length (take n left) ≡ n = omega (arith, length-take n left) in
    let read : take n now ≡ take n left = ap (take n) front ∙ take_at (take n left) (drop n buf) n size in
    let all : length now ≡ length buf = omega (arith, ap length front, length-append (take n left) (drop n buf), length-drop n buf, size) in (
      sym (take-append-drop n left) ∙ ap (λ (l : List ℕ). l ++ drop n left) (sym read) ∙ ap (λ (l : List ℕ). take n now ++ l) (sym rest),
      λ none room. rest ∙ drop_all n left (omega arith),
    )
