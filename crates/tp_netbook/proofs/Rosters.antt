-- Lists of sites and actors that grow at their end.
use Rattle.std.proofs.Common.{◌≡◌, ℕ, zero, suc, ◌+◌, ◌-◌, ◌≤◌, List, [], ◌∷◌, ◌++◌, map, take, Some, sym, ap, ◌∙◌, append_assoc, arith}
use Rattle.std.proofs.lemmas.Grind.{flat_map-append}
use Rattle.std.proofs.lemmas.List.{append-nil, map-append}
use Rattle.std.specs.List.{flat_map}
use Rattle.std.specs.Prelude.{slice_get}
use Rattle.tp_base.specs.declared.names.Site.{Site}
use Rattle.tp_rules.specs.Journal.{ranks_of}
use Rattle.tp_script.specs.declared.script.Script.{Script}
use Rattle.tp_topology.specs.Counting.{up_to}

up_to-next : (k : ℕ) → 1 ≤ k → up_to (k + 1 - 1) ≡ up_to (k - 1) ++ k ∷ []
up_to-next zero some = absurd (omega arith)
up_to-next (suc k) some =
    let here : suc k + 1 - 1 ≡ suc k = omega arith in
    let before : k ≡ suc k - 1 = omega arith in
    ap (λ (m : ℕ). up_to m) here ∙ ap (λ (m : ℕ). up_to m ++ suc k ∷ []) before

-- one more of the images of the numbers from 1 on
pub next_of : {X : Type 0} (f : ℕ → X) (base xs ys : List X) (k : ℕ) → 1 ≤ k → xs ≡ base ++ map f (up_to (k - 1)) → ys ≡ xs ++ f k ∷ [] → ys ≡ base ++ map f (up_to (k + 1 - 1))
next_of {X} f base xs ys k some before more =
    more ∙ ap (λ (l : List X). l ++ f k ∷ []) before ∙ append_assoc base (map f (up_to (k - 1))) (f k ∷ [])
    ∙ ap (λ (l : List X). base ++ l) (sym (map-append f (up_to (k - 1)) (k ∷ [])) ∙ ap (λ (l : List ℕ). map f l) (sym (up_to-next k some)))

-- one more partition
pub next_row : (script : Script) (xs ys : List Site) (p : ℕ) → 1 ≤ p → xs ≡ flat_map (ranks_of script) (up_to (p - 1)) → ys ≡ xs ++ ranks_of script p
    → ys ≡ flat_map (ranks_of script) (up_to (p + 1 - 1))
next_row script xs ys p some before more =
    more ∙ ap (λ (l : List Site). l ++ ranks_of script p) before
    ∙ ap (λ (l : List Site). flat_map (ranks_of script) (up_to (p - 1)) ++ l) (sym (append-nil (ranks_of script p)))
    ∙ sym (flat_map-append (ranks_of script) (up_to (p - 1)) (p ∷ []))
    ∙ ap (λ (l : List ℕ). flat_map (ranks_of script) l) (sym (up_to-next p some))

pub take_next : {X : Type 0} (xs : List X) (i : ℕ) (x : X) → slice_get xs i ≡ Some x → take (i + 1) xs ≡ take i xs ++ x ∷ []
take_next [] i x at = absurd cc
take_next (y ∷ ys) zero x at = let same : y ≡ x = cc in ap (λ z. z ∷ []) same
take_next {X} (y ∷ ys) (suc i) x at =
    let one : suc i + 1 ≡ suc (i + 1) = omega arith in
    ap (λ (n : ℕ). take n (y ∷ ys)) one ∙ ap (λ (l : List X). y ∷ l) (take_next ys i x at)

-- one more of the images of a list
pub next_image : {X Y : Type 0} (f : X → Y) (base : List Y) (xs : List X) (i : ℕ) (x : X) (before after : List Y) → slice_get xs i ≡ Some x
    → before ≡ base ++ map f (take i xs) → after ≡ before ++ f x ∷ [] → after ≡ base ++ map f (take (i + 1) xs)
next_image {X} {Y} f base xs i x before after at is more =
    more ∙ ap (λ (l : List Y). l ++ f x ∷ []) is ∙ append_assoc base (map f (take i xs)) (f x ∷ [])
    ∙ ap (λ (l : List Y). base ++ l) (sym (map-append f (take i xs) (x ∷ [])) ∙ ap (λ (l : List X). map f l) (sym (take_next xs i x at)))
