-- Tables with a place for each rank or partition, from 1.
use Rattle.std.specs.Prelude.{ℕ, zero, suc, List, Option, Some, None, slice_get, slice_set}

-- the item at a place, from 1
abbrev pub nth : {X : Type 0} → List X → ℕ → Option X
nth xs zero = None
nth xs (suc i) = slice_get xs i

-- the list with another item at a place
abbrev pub with_nth : {X : Type 0} → List X → ℕ → X → List X
with_nth xs zero x = xs
with_nth xs (suc i) x = slice_set xs i x

abbrev pub flat : {X : Type 0} → Option (Option X) → Option X
flat None = None
flat (Some o) = o

-- what a table keeps at a place
abbrev pub kept_at : {X : Type 0} → List (Option X) → ℕ → Option X
kept_at table place = flat (nth table place)
