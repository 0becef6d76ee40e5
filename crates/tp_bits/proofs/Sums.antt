-- Sums over the front parts of lists.
use Rattle.std.proofs.Common.{◌≡◌, ℕ, zero, suc, ◌+◌, ◌<◌, ◌≤◌, Bool, true, false, List, [], ◌∷◌, ◌++◌, length, set, take, Some, refl, sym, ap, ◌∙◌, arith}
use Rattle.std.proofs.Math.Seq.{take-append_seam}
use Rattle.std.proofs.lemmas.List.{length-set}
use Rattle.std.proofs.lemmas.Option.{slice_get_within}
use Rattle.std.specs.Prelude.{slice_get}
use Rattle.tp_bits.specs.Bits.{one, ones, sum_of}

module _ {X : Type 0} (f : X → ℕ) where
  pub sum_all : (xs : List X) (i : ℕ) → length xs ≤ i → sum_of f (take i xs) ≡ sum_of f xs
  sum_all [] zero le = refl
  sum_all [] (suc i) le = refl
  sum_all (x ∷ xs) zero le = absurd (omega arith)
  sum_all (x ∷ xs) (suc i) le = ap (λ (n : ℕ). f x + n) (sum_all xs i (omega arith))

  pub sum_front : (xs : List X) (i : ℕ) → sum_of f (take i xs) ≤ sum_of f xs
  sum_front [] zero = omega arith
  sum_front [] (suc i) = omega arith
  sum_front (x ∷ xs) zero = omega arith
  sum_front (x ∷ xs) (suc i) = omega (arith, sum_front xs i)

  pub sum_fronts : (xs : List X) (i j : ℕ) → i ≤ j → sum_of f (take i xs) ≤ sum_of f (take j xs)
  sum_fronts [] zero zero le = omega arith
  sum_fronts [] zero (suc j) le = omega arith
  sum_fronts [] (suc i) zero le = omega arith
  sum_fronts [] (suc i) (suc j) le = omega arith
  sum_fronts (x ∷ xs) zero j le = omega arith
  sum_fronts (x ∷ xs) (suc i) zero le = absurd (omega arith)
  sum_fronts (x ∷ xs) (suc i) (suc j) le = omega (arith, sum_fronts xs i j (omega arith))

  pub sum_next : (xs : List X) (i : ℕ) (x : X) → slice_get xs i ≡ Some x → sum_of f (take (suc i) xs) ≡ sum_of f (take i xs) + f x
  sum_next [] i x at = absurd cc
  sum_next (y ∷ ys) zero x at = let same : y ≡ x = cc in let e : f y ≡ f x = ap f same in omega (arith, e)
  sum_next (y ∷ ys) (suc i) x at = omega (arith, sum_next ys i x at)

  pub sum_more : (xs : List X) (i : ℕ) (x : X) → slice_get xs i ≡ Some x → sum_of f (take (i + 1) xs) ≡ sum_of f (take i xs) + f x
  sum_more xs i x at = let same : i + 1 ≡ suc i = omega arith in ap (λ (n : ℕ). sum_of f (take n xs)) same ∙ sum_next xs i x at

  pub sum_set_before : (xs : List X) (i k : ℕ) (x : X) → i ≤ k → sum_of f (take i (set xs k x)) ≡ sum_of f (take i xs)
  sum_set_before [] i k x le = refl
  sum_set_before (y ∷ ys) zero zero x le = refl
  sum_set_before (y ∷ ys) zero (suc k) x le = refl
  sum_set_before (y ∷ ys) (suc i) zero x le = absurd (omega arith)
  sum_set_before (y ∷ ys) (suc i) (suc k) x le = ap (λ (n : ℕ). f y + n) (sum_set_before ys i k x (omega arith))

  pub sum_set_after : (xs : List X) (i k : ℕ) (x y : X) → slice_get xs k ≡ Some y → k < i → sum_of f (take i (set xs k x)) + f y ≡ sum_of f (take i xs) + f x
  sum_set_after [] i k x y at lt = absurd cc
  sum_set_after (z ∷ zs) zero k x y at lt = absurd (omega arith)
  sum_set_after (z ∷ zs) (suc i) zero x y at lt = let same : z ≡ y = cc in let e : f z ≡ f y = ap f same in omega (arith, e)
  sum_set_after (z ∷ zs) (suc i) (suc k) x y at lt = omega (arith, sum_set_after zs i k x y at (omega arith))

  pub sum_push_before : (xs : List X) (i : ℕ) (x : X) → i ≤ length xs → sum_of f (take i (xs ++ x ∷ [])) ≡ sum_of f (take i xs)
  sum_push_before [] zero x le = refl
  sum_push_before [] (suc i) x le = absurd (omega arith)
  sum_push_before (y ∷ ys) zero x le = refl
  sum_push_before (y ∷ ys) (suc i) x le = ap (λ (n : ℕ). f y + n) (sum_push_before ys i x (omega arith))

  pub sum_push_after : (xs : List X) (i : ℕ) (x : X) → length xs < i → sum_of f (take i (xs ++ x ∷ [])) ≡ sum_of f (take i xs) + f x
  sum_push_after [] zero x lt = absurd (omega arith)
  sum_push_after [] (suc zero) x lt = omega arith
  sum_push_after [] (suc (suc i)) x lt = omega arith
  sum_push_after (y ∷ ys) zero x lt = absurd (omega arith)
  sum_push_after (y ∷ ys) (suc i) x lt = omega (arith, sum_push_after ys i x (omega arith))

-- a list is written back over another that is as long
pub written_back : {X : Type 0} (xs ys : List X) (n : ℕ) → n ≡ length xs → take n (xs ++ ys) ≡ xs
written_back {X} xs ys n long = ap (λ (k : ℕ). take k (xs ++ ys)) long ∙ take-append_seam xs ys

pub one_small : (bit : Bool) → one bit ≤ 1
one_small true = omega arith
one_small false = omega arith

-- what is less than a bit's unit
pub one_only : (bit : Bool) (n : ℕ) → n < one bit → (bit ≡ true) × (n ≡ 0)
one_only true n lt = (refl, omega arith)
one_only false n lt = absurd (omega arith)

pub ones_few : (bits : List Bool) → ones bits ≤ length bits
ones_few [] = omega arith
ones_few (true ∷ bits) = omega (arith, ones_few bits)
ones_few (false ∷ bits) = omega (arith, ones_few bits)

-- a list without the item that is written, or with it already
pub set_past : {X : Type 0} (xs : List X) (k : ℕ) (x : X) → length xs ≤ k → set xs k x ≡ xs
set_past [] k x le = refl
set_past (y ∷ ys) zero x le = absurd (omega arith)
set_past (y ∷ ys) (suc k) x le = ap (λ zs. y ∷ zs) (set_past ys k x (omega arith))

pub set_same : {X : Type 0} (xs : List X) (k : ℕ) (x : X) → slice_get xs k ≡ Some x → set xs k x ≡ xs
set_same [] k x at = refl
set_same (y ∷ ys) zero x at = let same : y ≡ x = cc in ap (λ z. z ∷ ys) (sym same)
set_same (y ∷ ys) (suc k) x at = ap (λ zs. y ∷ zs) (set_same ys k x at)

pub ones_set : (bits : List Bool) (place : ℕ) (bit old : Bool) → slice_get bits place ≡ Some old → ones (set bits place bit) + one old ≡ ones bits + one bit
ones_set bits place bit old at =
    let lt : place < length bits = slice_get_within bits place old at in
    let all : ones (take (length bits) (set bits place bit)) ≡ ones (set bits place bit) = sum_all one (set bits place bit) (length bits) (omega (arith, length-set bits place bit)) in
    omega (arith, sum_set_after one bits (length bits) place bit old at lt, all, sum_all one bits (length bits) (omega arith))

pub ones_push : (bits : List Bool) (bit : Bool) → ones (bits ++ bit ∷ []) ≡ ones bits + one bit
ones_push [] bit = omega arith
ones_push (b ∷ bits) bit = omega (arith, ones_push bits bit)
