-- The numbers from 1 to n, and how long lists are that are made of others. Used where messages, sites or commands are counted.
use Rattle.std.proofs.Common.{◌≡◌, ℕ, zero, suc, ◌*◌, ◌<◌, ◌≤◌, List, [], ◌∷◌, Some, length, map, refl, ap, arith}
use Rattle.std.specs.Prelude.{slice_get}
use Rattle.std.specs.List.{flat_map}
use Rattle.std.proofs.lemmas.List.{length-append}
use Rattle.tp_base.specs.Lists.{IsIn}
use Rattle.tp_base.proofs.Members.{in_get}
use Rattle.tp_base.specs.Tables.{nth}
pub use Rattle.tp_topology.proofs.UpTo.{get_up_to, in_up_to, length-up_to}

pub flat_length : {X Y : Type 0} (f : X → List Y) (n : ℕ) (xs : List X) → ((x : X) → length (f x) ≤ n) → length (flat_map f xs) ≤ length xs * n
flat_length f n [] h = omega arith
flat_length f n (x ∷ xs) h = omega (arith, length-append (f x) (flat_map f xs), h x, flat_length f n xs h)

pub map_length : {X Y : Type 0} (f : X → Y) (xs : List X) → length (map f xs) ≡ length xs
map_length f [] = refl
map_length f (x ∷ xs) = ap (λ (n : ℕ). suc n) (map_length f xs)

pub get_there : {X : Type 0} (xs : List X) (i : ℕ) → i < length xs → (x : X) × (slice_get xs i ≡ Some x)
get_there [] i less = absurd (omega arith)
get_there (x ∷ xs) zero less = (x, refl)
get_there (x ∷ xs) (suc i) less = get_there xs i (omega arith)

pub get_map : {X Y : Type 0} (f : X → Y) (xs : List X) (i : ℕ) (x : X) → slice_get xs i ≡ Some x → slice_get (map f xs) i ≡ Some (f x)
get_map f [] i x e = absurd cc
get_map f (y ∷ ys) zero x e = let same : y ≡ x = cc in ap (λ (z : _). Some (f z)) same
get_map f (y ∷ ys) (suc i) x e = get_map f ys i x e

pub nth_in : {X : Type 0} (xs : List X) (n : ℕ) (x : X) → nth xs n ≡ Some x → IsIn x xs
nth_in xs zero x e = absurd cc
nth_in xs (suc i) x e = in_get xs i x e
