-- Counting over the numbers from 1 up.
use Rattle.std.specs.Prelude.{ℕ, Bool, true, false, List, [], ◌∷◌, ◌++◌, cond, zero, suc}

-- 1 to n
abbrev pub up_to : ℕ → List ℕ
up_to zero = []
up_to (suc n) = up_to n ++ suc n ∷ []

-- how many of 1 to n pass a test
abbrev pub count_up_to : (ℕ → Bool) → ℕ → ℕ
count_up_to p zero = 0
count_up_to p (suc n) = cond (p (suc n)) (suc (count_up_to p n)) (count_up_to p n)

-- whether each of 1 to n passes a test
abbrev pub all_up_to : (ℕ → Bool) → ℕ → Bool
all_up_to p zero = true
all_up_to p (suc n) = cond (p (suc n)) (all_up_to p n) false
