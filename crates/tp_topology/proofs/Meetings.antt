-- Sets of the ranks 1 to n that are too large to be apart, as tests and as lists.
use Rattle.std.proofs.Common.{◌≡◌, ℕ, zero, suc, ◌+◌, ◌<◌, ◌≤◌, Bool, true, false, cond, List, [], ◌∷◌, length, refl, ap, ◌∙◌, arith}
use Rattle.std.specs.Prelude.{◌&&◌, ◌||◌, nat_eq}
use Rattle.std.specs.List.{IsDistinct, AllByRecursion}
use Rattle.std.proofs.lemmas.Bool.{eq-eqb, ne_eqb}
use Rattle.tp_base.specs.Lists.{Each, has}
use Rattle.tp_topology.specs.Counting.{count_up_to}
use Rattle.tp_topology.proofs.Passing.{count_none, count_with_one}

-- some number of 1 to n passes both tests
pub record IsShared (p q : ℕ → Bool) (n : ℕ) : Type 0 where
  pub rank : ℕ
  pub low : 1 ≤ rank
  pub high : rank ≤ n
  pub first : p rank ≡ true
  pub second : q rank ≡ true

abbrev pub both : (ℕ → Bool) → (ℕ → Bool) → ℕ → Bool
both p q k = p k && q k

further : {p q : ℕ → Bool} {n : ℕ} → IsShared p q n → IsShared p q (suc n)
further s = record { rank = s.rank; low = s.low; high = omega (arith, s.high); first = s.first; second = s.second }

-- two sets whose sizes together are more than n share a number
pub shared : (p q : ℕ → Bool) (n : ℕ) → n < count_up_to p n + count_up_to q n → IsShared p q n
shared p q zero lt = absurd (omega arith)
shared p q (suc n) lt = go (p (suc n)) (q (suc n)) refl refl lt (shared p q n)
  where
    go : (a b : Bool) → p (suc n) ≡ a → q (suc n) ≡ b
        → suc n < cond a (suc (count_up_to p n)) (count_up_to p n) + cond b (suc (count_up_to q n)) (count_up_to q n)
        → (n < count_up_to p n + count_up_to q n → IsShared p q n) → IsShared p q (suc n)
    go true true e f lt rest = record { rank = suc n; low = omega arith; high = omega arith; first = e; second = f }
    go true false e f lt rest = further (rest (omega arith))
    go false true e f lt rest = further (rest (omega arith))
    go false false e f lt rest = further (rest (omega arith))

-- the share of a set in another is at least both sizes less n
pub share : (p q : ℕ → Bool) (n : ℕ) → count_up_to p n + count_up_to q n ≤ n + count_up_to (both p q) n
share p q zero = omega arith
share p q (suc n) = go (p (suc n)) (q (suc n)) (share p q n)
  where
    go : (a b : Bool) → count_up_to p n + count_up_to q n ≤ n + count_up_to (both p q) n
        → cond a (suc (count_up_to p n)) (count_up_to p n) + cond b (suc (count_up_to q n)) (count_up_to q n)
        ≤ suc n + cond (a && b) (suc (count_up_to (both p q) n)) (count_up_to (both p q) n)
    go true true le = omega arith
    go true false le = omega arith
    go false true le = omega arith
    go false false le = omega arith

-- from lists

-- whether a rank is in a list of them
abbrev pub is_of : List ℕ → ℕ → Bool
is_of ranks k = has nat_eq k ranks
