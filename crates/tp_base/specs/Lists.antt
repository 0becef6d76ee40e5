use Rattle.std.specs.Prelude.{◌≡◌, Bool, true, ◌⊎◌, List, [], ◌∷◌, ◌++◌}
use Rattle.std.specs.List.{list_any}

-- x is an element of the list
abbrev pub IsIn : {X : Type 0} → X → List X → Type 0
IsIn x [] = ⊥
IsIn x (y ∷ ys) = (x ≡ y) ⊎ IsIn x ys

-- P holds of each element
abbrev pub Each : {X : Type 0} → (X → Type 0) → List X → Type 0
Each P [] = Unit {0}
Each P (x ∷ xs) = P x × Each P xs

-- the test for an element that is the same as x
abbrev pub has : {X : Type 0} → (X → X → Bool) → X → List X → Bool
has same x xs = list_any (same x) xs

-- each element is before all that follow it
abbrev pub Ascends : {X : Type 0} → (X → X → Bool) → List X → Type 0
Ascends before [] = Unit {0}
Ascends before (x ∷ xs) = Each (λ y. before x y ≡ true) xs × Ascends before xs

-- ys goes on where xs ends
abbrev pub IsPrefixOf : {X : Type 0} → List X → List X → Type 0
IsPrefixOf {X} xs ys = (rest : List X) × (xs ++ rest ≡ ys)
