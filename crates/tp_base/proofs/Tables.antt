-- Tables with a place for each rank or partition, from 1: after a write, at the start, and their front part, as a
-- contract sees a table of a fixed length of which only so many places count.
use Rattle.std.proofs.Common.{◌≡◌, ◌≢◌, ℕ, zero, suc, ◌-◌, ◌<◌, ◌≤◌, ◌⊎◌, inl, inr, true, false, List, [], ◌∷◌, length, length-set, replicate, set, take, Option, Some, None, is_some, refl, ap, ◌∙◌, arith}
use Rattle.std.proofs.lemmas.Option.{slice_get_past}
use Rattle.std.specs.Prelude.{slice_get, nat_le, ◌&&◌}
use Rattle.tp_base.proofs.Ends.{get_set_cases, get_set_here, get_set_other}
use Rattle.tp_base.specs.Tables.{flat, kept_at, nth, with_nth}

-- a place is written

-- what stands in a table after a write: what was written, or what stood there
pub nth_with : {X : Type 0} (xs : List X) (i j : ℕ) (x y : X) → nth (with_nth xs i x) j ≡ Some y
    → ((j ≡ i) × (x ≡ y)) ⊎ (nth xs j ≡ Some y)
nth_with xs zero j x y e = inr e
nth_with xs (suc i) zero x y e = absurd cc
nth_with xs (suc i) (suc j) x y e = elim (get_set_cases xs i j x y e) [
  | inl new ↦ inl (ap (λ (n : ℕ). suc n) new.0, new.1)
  | inr old ↦ inr old
]

flat_some : {X : Type 0} (o : Option (Option X)) (x : X) → flat o ≡ Some x → o ≡ Some (Some x)
flat_some None x e = absurd cc
flat_some (Some o) x e = ap (λ (p : Option _). Some p) e

pub kept_with : {X : Type 0} (xs : List (Option X)) (i j : ℕ) (x y : X) → kept_at (with_nth xs i (Some x)) j ≡ Some y
    → ((j ≡ i) × (x ≡ y)) ⊎ (kept_at xs j ≡ Some y)
kept_with xs i j x y e = elim (nth_with xs i j (Some x) (Some y) (flat_some (nth (with_nth xs i (Some x)) j) y e)) [
  | inl new ↦ inl (new.0, cc)
  | inr old ↦ inr (ap (λ (o : Option _). flat o) old)
]

stays : {X : Type 0} (xs : List (Option X)) (i j : ℕ) (x y : X) → flat (slice_get xs i) ≡ None
    → flat (slice_get xs j) ≡ Some y
    → flat (slice_get (set xs i (Some x)) j) ≡ Some y
stays [] i j x y free e = e
stays (z ∷ zs) zero zero x y free e = absurd cc
stays (z ∷ zs) zero (suc j) x y free e = e
stays (z ∷ zs) (suc i) zero x y free e = e
stays (z ∷ zs) (suc i) (suc j) x y free e = stays zs i j x y free e

-- where the place was free, what stood elsewhere stays
pub kept_stays : {X : Type 0} (xs : List (Option X)) (i j : ℕ) (x y : X) → kept_at xs i ≡ None → kept_at xs j ≡ Some y
    → kept_at (with_nth xs i (Some x)) j ≡ Some y
kept_stays xs zero j x y free e = e
kept_stays xs (suc i) zero x y free e = absurd cc
kept_stays xs (suc i) (suc j) x y free e = stays xs i j x y free e

-- so something that stood there still does
pub some_stays : {X : Type 0} (xs : List (Option X)) (i j : ℕ) (x : X) → kept_at xs i ≡ None
    → is_some (kept_at xs j) ≡ true
    → is_some (kept_at (with_nth xs i (Some x)) j) ≡ true
some_stays {X} xs i j x free some = go (kept_at xs j) refl some
  where
    go : (o : Option X) → kept_at xs j ≡ o → is_some o ≡ true → is_some (kept_at (with_nth xs i (Some x)) j) ≡ true
    go None e some = absurd cc
    go (Some y) e some = ap (λ (o : Option _). is_some o) (kept_stays xs i j x y free e)

pub nth_here : {X : Type 0} (xs : List X) (i : ℕ) (x : X) → 1 ≤ i → i ≤ length xs → nth (with_nth xs i x) i ≡ Some x
nth_here xs zero x low high = absurd (omega arith)
nth_here xs (suc i) x low high = get_set_here xs i x (omega arith)

pub kept_here : {X : Type 0} (xs : List (Option X)) (i : ℕ) (x : X) → 1 ≤ i → i ≤ length xs
    → kept_at (with_nth xs i (Some x)) i ≡ Some x
kept_here xs i x low high = ap (λ (o : Option _). flat o) (nth_here xs i (Some x) low high)

-- another place keeps what it kept
pub nth_other : {X : Type 0} (xs : List X) (i j : ℕ) (x : X) → j ≢ i → nth (with_nth xs i x) j ≡ nth xs j
nth_other xs zero j x apart = refl
nth_other xs (suc i) zero x apart = refl
nth_other xs (suc i) (suc j) x apart = get_set_other xs i j x (λ e. apart (ap (λ (n : ℕ). suc n) e))

pub length_with : {X : Type 0} (xs : List X) (i : ℕ) (x : X) → length (with_nth xs i x) ≡ length xs
length_with xs zero x = refl
length_with xs (suc i) x = length-set xs i x

-- a write at a place that is there
pub set_nth : {X : Type 0} (xs : List X) (k : ℕ) (x : X) → 1 ≤ k → set xs (k - 1) x ≡ with_nth xs k x
set_nth xs zero x some = absurd (omega arith)
set_nth xs (suc i) x some = let same : suc i - 1 ≡ i = omega arith in ap (λ (j : ℕ). set xs j x) same

-- a table at the start

pub got_replicate : {X : Type 0} (n i : ℕ) (x y : X) → slice_get (replicate n x) i ≡ Some y → x ≡ y
got_replicate zero i x y e = absurd cc
got_replicate (suc n) zero x y e = cc
got_replicate (suc n) (suc i) x y e = got_replicate n i x y e

pub nth_replicate : {X : Type 0} (n i : ℕ) (x y : X) → nth (replicate n x) i ≡ Some y → x ≡ y
nth_replicate n zero x y e = absurd cc
nth_replicate n (suc i) x y e = got_replicate n i x y e

pub kept_replicate : {X : Type 0} (n i : ℕ) (y : X) → kept_at (replicate n None) i ≡ Some y → ⊥
kept_replicate n i y e =
    let same = nth_replicate n i None (Some y) (flat_some (nth (replicate n None) i) y e) in absurd cc

-- places further on

-- what a place has stands one place further on where something is put before the table
pub nth_further : {X : Type 0} (y : X) (xs : List X) (j : ℕ) (x : X) → nth xs j ≡ Some x
    → nth (y ∷ xs) (suc j) ≡ Some x
nth_further y xs zero x e = absurd cc
nth_further y xs (suc i) x e = e

pub kept_further : {X : Type 0} (o : Option X) (table : List (Option X)) (j : ℕ) (x : X) → kept_at table j ≡ Some x
    → kept_at (o ∷ table) (suc j) ≡ Some x
kept_further o table zero x e = absurd cc
kept_further o table (suc i) x e = e

-- behind the last place there is nothing
pub nth_past : {X : Type 0} (xs : List X) (n : ℕ) → length xs < n → nth xs n ≡ None
nth_past xs zero past = refl
nth_past xs (suc n) past = slice_get_past xs n (omega arith)

-- the front part

slice_get-take : {X : Type 0} (n i : ℕ) (xs : List X) → i < n → slice_get (take n xs) i ≡ slice_get xs i
slice_get-take zero i xs lt = absurd (omega arith)
slice_get-take (suc n) i [] lt = refl
slice_get-take (suc n) zero (x ∷ xs) lt = refl
slice_get-take (suc n) (suc i) (x ∷ xs) lt = slice_get-take n i xs (omega arith)

-- what is kept at a place of the front part
pub kept_at-take : {X : Type 0} (n : ℕ) (table : List (Option X)) (k : ℕ) → k ≤ n
    → kept_at (take n table) k ≡ kept_at table k
kept_at-take n table zero few = refl
kept_at-take n table (suc i) few = ap (λ (o : Option _). flat o) (slice_get-take n i table (omega arith))

take-set : {X : Type 0} (n : ℕ) (xs : List X) (i : ℕ) (x : X) → take n (set xs i x) ≡ set (take n xs) i x
take-set zero xs i x = refl
take-set (suc n) [] i x = refl
take-set (suc n) (y ∷ ys) zero x = refl
take-set (suc n) (y ∷ ys) (suc i) x = ap (λ (zs : List _). y ∷ zs) (take-set n ys i x)

-- a write is one in the front part, or past it
pub take-with_nth : {X : Type 0} (n : ℕ) (xs : List X) (k : ℕ) (x : X)
    → take n (with_nth xs k x) ≡ with_nth (take n xs) k x
take-with_nth n xs zero x = refl
take-with_nth n xs (suc i) x = take-set n xs i x

pub take-set_nth : {X : Type 0} (n : ℕ) (xs : List X) (k : ℕ) (x : X) → 1 ≤ k
    → take n (set xs (k - 1) x) ≡ with_nth (take n xs) k x
take-set_nth n xs k x some = ap (λ (ys : List _). take n ys) (set_nth xs k x some) ∙ take-with_nth n xs k x

past_get : {X : Type 0} (n : ℕ) (xs : List X) (i : ℕ) → n ≤ i → slice_get (take n xs) i ≡ None
past_get zero xs i le = refl
past_get (suc n) [] i le = refl
past_get (suc n) (x ∷ xs) zero le = absurd (omega arith)
past_get (suc n) (x ∷ xs) (suc i) le = past_get n xs i (omega arith)

past_set : {X : Type 0} (n : ℕ) (xs : List X) (i : ℕ) (x : X) → n ≤ i → set (take n xs) i x ≡ take n xs
past_set zero xs i x le = refl
past_set (suc n) [] i x le = refl
past_set (suc n) (y ∷ ys) zero x le = absurd (omega arith)
past_set (suc n) (y ∷ ys) (suc i) x le = ap (λ (zs : List _). y ∷ zs) (past_set n ys i x (omega arith))

not_before : (n i : ℕ) → (nat_le 1 (suc i) && nat_le (suc i) n) ≡ false → n ≤ i
not_before n i outside = grind arith

-- past the front part nothing is kept, and no write changes it
pub past-kept : {X : Type 0} (n : ℕ) (table : List (Option X)) (k : ℕ) → (nat_le 1 k && nat_le k n) ≡ false
    → kept_at (take n table) k ≡ None
past-kept n table zero outside = refl
past-kept n table (suc i) outside = ap (λ (o : Option _). flat o) (past_get n table i (not_before n i outside))

pub past-written : {X : Type 0} (n : ℕ) (xs : List X) (k : ℕ) (x : X) → (nat_le 1 k && nat_le k n) ≡ false
    → with_nth (take n xs) k x ≡ take n xs
past-written n xs zero x outside = refl
past-written n xs (suc i) x outside = past_set n xs i x (not_before n i outside)
