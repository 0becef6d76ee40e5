-- The set bit of a rank, by how many set bits stand before it.
use Rattle.std.proofs.Common.{◌≡◌, ℕ, zero, suc, ◌+◌, ◌≤◌, Bool, true, false, List, [], ◌∷◌, take, Option, Some, None, refl, ap, ◌∙◌, arith}
use Rattle.std.specs.Prelude.{option_map, slice_get}
use Rattle.tp_bits.specs.Bits.{next, ones, select}

pub select_here : (bits : List Bool) (i : ℕ) → slice_get bits i ≡ Some true → select bits (ones (take i bits)) ≡ Some i
select_here [] i at = absurd cc
select_here (true ∷ bits) zero at = refl
select_here (false ∷ bits) zero at = absurd cc
select_here (true ∷ bits) (suc i) at =
    let more : 1 + ones (take i bits) ≡ suc (ones (take i bits)) = omega arith in
    ap (select (true ∷ bits)) more ∙ ap (option_map next) (select_here bits i at)
select_here (false ∷ bits) (suc i) at =
    let same : 0 + ones (take i bits) ≡ ones (take i bits) = omega arith in
    ap (select (false ∷ bits)) same ∙ ap (option_map next) (select_here bits i at)

pub select_none : (bits : List Bool) (rank : ℕ) → ones bits ≤ rank → select bits rank ≡ None
select_none [] rank le = refl
select_none (true ∷ bits) zero le = absurd (omega arith)
select_none (true ∷ bits) (suc rank) le = ap (option_map next) (select_none bits rank (omega arith))
select_none (false ∷ bits) rank le = ap (option_map next) (select_none bits rank (omega arith))

mapped_some : (o : Option ℕ) (i : ℕ) → option_map next o ≡ Some i → (j : ℕ) × (o ≡ Some j) × (i ≡ suc j)
mapped_some None i is = absurd cc
mapped_some (Some j) i is = (j, refl, cc)

mapped_none : (o : Option ℕ) → option_map next o ≡ None → o ≡ None
mapped_none None is = refl
mapped_none (Some j) is = absurd cc

-- what is found of a rank is a set bit with as many before it
pub selected : (bits : List Bool) (rank i : ℕ) → select bits rank ≡ Some i → (slice_get bits i ≡ Some true) × (ones (take i bits) ≡ rank)
selected [] rank i is = absurd cc
selected (true ∷ bits) zero i is = let same : i ≡ 0 = cc in rw same (refl, refl)
selected (true ∷ bits) (suc rank) i is =
    let m : (j : ℕ) × (select bits rank ≡ Some j) × (i ≡ suc j) = mapped_some (select bits rank) i is in
    let there : (slice_get bits m.0 ≡ Some true) × (ones (take m.0 bits) ≡ rank) = selected bits rank m.0 m.1 in
    rw m.2 (there.0, omega (arith, there.1))
selected (false ∷ bits) rank i is =
    let m : (j : ℕ) × (select bits rank ≡ Some j) × (i ≡ suc j) = mapped_some (select bits rank) i is in
    let there : (slice_get bits m.0 ≡ Some true) × (ones (take m.0 bits) ≡ rank) = selected bits rank m.0 m.1 in
    rw m.2 (there.0, omega (arith, there.1))

pub select_few : (bits : List Bool) (rank : ℕ) → select bits rank ≡ None → ones bits ≤ rank
select_few [] rank is = omega arith
select_few (true ∷ bits) zero is = absurd cc
select_few (true ∷ bits) (suc rank) is = omega (arith, select_few bits rank (mapped_none (select bits rank) is))
select_few (false ∷ bits) rank is = omega (arith, select_few bits rank (mapped_none (select bits rank) is))
