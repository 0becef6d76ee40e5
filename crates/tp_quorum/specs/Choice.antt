-- What the proposals of a fast quorum decide.
use Rattle.std.specs.Prelude.{ℕ, ◌+◌, ◌==◌, nat_le, Bool, max, cond, List, [], ◌∷◌, Option, Some, None}
use Rattle.tp_base.specs.declared.names.Stamp.{Stamp}
use Rattle.tp_quorum.specs.declared.choice.FastChoice.{FastChoice}
use Rattle.tp_quorum.specs.declared.choice.FastChoice.TheVariants.{Fast, Slow}
use Rattle.tp_topology.specs.Shape.{Shape}

-- the values that are there, of a table with a place for each rank
abbrev pub present : {X : Type 0} → List (Option X) → List X
present [] = []
present (None ∷ table) = present table
present (Some x ∷ table) = x ∷ present table

-- the greatest of the values, 0 of none
abbrev pub greatest : List ℕ → ℕ
greatest [] = 0
greatest (n ∷ ns) = max n (greatest ns)

-- how many of the values equal n
abbrev pub count_of : ℕ → List ℕ → ℕ
count_of n [] = 0
count_of n (m ∷ ms) = cond (n == m) (1 + count_of n ms) (count_of n ms)

-- whether at least `failures` of the proposals equal the greatest
abbrev pub is_fast : Shape → List ℕ → Bool
is_fast shape proposals = nat_le shape.failures (count_of (greatest proposals) proposals)

-- the greatest proposal: fast where at least `failures` of them equal it, else slow
unfoldable pub fast_choice : Shape → List ℕ → FastChoice
fast_choice shape proposals =
    let t : Stamp = record { 0 = greatest proposals } in
    cond (is_fast shape proposals) (Fast t) (Slow t)
