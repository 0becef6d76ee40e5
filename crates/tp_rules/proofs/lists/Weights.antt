-- Lists of counts of which the first that differs falls, and those behind it rise by less than 600: their weight falls.
-- Used for the end of runs.
use Rattle.std.proofs.Common.{◌≡◌, ℕ, suc, ◌+◌, ◌*◌, ◌^◌, ◌<◌, ◌≤◌, ◌⊎◌, inl, inr, List, [], ◌∷◌, length, refl, ap, arith}
use Rattle.std.proofs.Math.Nat.{add-mul, mul-le-mul_right, pow-succ'}
use Rattle.tp_rules.specs.Left.{weight}

-- each number rises by less than 600
abbrev pub RisesLittle : List ℕ → List ℕ → Type 0
RisesLittle [] [] = Unit {0}
RisesLittle [] (d ∷ ds) = ⊥
RisesLittle (c ∷ cs) [] = ⊥
RisesLittle (c ∷ cs) (d ∷ ds) = (d ≤ c + 599) × RisesLittle cs ds

-- one number falls, none before it rises, and those behind it rise by less than 600
abbrev pub Lower : List ℕ → List ℕ → Type 0
Lower [] ds = ⊥
Lower (c ∷ cs) [] = ⊥
Lower (c ∷ cs) (d ∷ ds) = ((d < c) × RisesLittle cs ds) ⊎ ((d ≤ c) × Lower cs ds)

rises_length : (cs ds : List ℕ) → RisesLittle cs ds → length ds ≡ length cs
rises_length [] [] h = refl
rises_length [] (d ∷ ds) h = absurd h
rises_length (c ∷ cs) [] h = absurd h
rises_length (c ∷ cs) (d ∷ ds) h = ap (λ (n : ℕ). suc n) (rises_length cs ds h.1)

lower_length : (cs ds : List ℕ) → Lower cs ds → length ds ≡ length cs
lower_length [] ds h = absurd h
lower_length (c ∷ cs) [] h = absurd h
lower_length (c ∷ cs) (d ∷ ds) (inl h) = ap (λ (n : ℕ). suc n) (rises_length cs ds h.1)
lower_length (c ∷ cs) (d ∷ ds) (inr h) = ap (λ (n : ℕ). suc n) (lower_length cs ds h.1)

-- small rises together stay below one of what stands before them
rises_below : (cs ds : List ℕ) → RisesLittle cs ds → weight ds < weight cs + 600 ^ length cs
rises_below [] [] h = omega arith
rises_below [] (d ∷ ds) h = absurd h
rises_below (c ∷ cs) [] h = absurd h
rises_below (c ∷ cs) (d ∷ ds) h =
    let same = rises_length cs ds h.1 in
    let p = 600 ^ length cs in
    let power : 600 ^ length ds ≡ p = ap (λ (n : ℕ). 600 ^ n) same in
    let rest : weight ds < weight cs + p = rises_below cs ds h.1 in
    let head : d * p ≤ (c + 599) * p = mul-le-mul_right p h.0 in
    let apart : (c + 599) * p ≡ c * p + 599 * p = add-mul c 599 p in
    let next : 600 ^ suc (length cs) ≡ 600 * p = pow-succ' 600 (length cs) in
    let first : d * 600 ^ length ds ≡ d * p = ap (λ (n : ℕ). d * n) power in
    omega arith

pub weight_falls : (cs ds : List ℕ) → Lower cs ds → weight ds < weight cs
weight_falls [] ds h = absurd h
weight_falls (c ∷ cs) [] h = absurd h
weight_falls (c ∷ cs) (d ∷ ds) (inl h) =
    let p = 600 ^ length cs in
    let power : 600 ^ length ds ≡ p = ap (λ (n : ℕ). 600 ^ n) (rises_length cs ds h.1) in
    let rest : weight ds < weight cs + p = rises_below cs ds h.1 in
    let head : (d + 1) * p ≤ c * p = mul-le-mul_right p (omega arith) in
    let apart : (d + 1) * p ≡ d * p + 1 * p = add-mul d 1 p in
    let first : d * 600 ^ length ds ≡ d * p = ap (λ (n : ℕ). d * n) power in
    omega arith
weight_falls (c ∷ cs) (d ∷ ds) (inr h) =
    let p = 600 ^ length cs in
    let power : 600 ^ length ds ≡ p = ap (λ (n : ℕ). 600 ^ n) (lower_length cs ds h.1) in
    let rest : weight ds < weight cs = weight_falls cs ds h.1 in
    let head : d * p ≤ c * p = mul-le-mul_right p h.0 in
    let first : d * 600 ^ length ds ≡ d * p = ap (λ (n : ℕ). d * n) power in
    omega arith
