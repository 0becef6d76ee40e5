-- Lists that go on number by number. Used where rows and shapes are put.
use Rattle.std.proofs.Common.{◌≡◌, ℕ, suc, ◌+◌, List, [], ◌∷◌, ◌++◌, map, refl, sym, ap, ◌∙◌, append_assoc, arith}
use Rattle.std.specs.List.{flat_map}
use Rattle.std.proofs.lemmas.List.{append-nil}
use Rattle.std.proofs.lemmas.Grind.{flat_map-append}
use Rattle.tp_topology.specs.Counting.{up_to}

flat_map_end : {X A : Type 0} (f : X → List A) (xs : List X) (x : X) → flat_map f (xs ++ x ∷ []) ≡ flat_map f xs ++ f x
flat_map_end f xs x = flat_map-append f xs (x ∷ []) ∙ ap (λ ys. flat_map f xs ++ ys) (append-nil (f x))

-- what is put of one number more
pub number_more : {A : Type 0} (f : ℕ → List A) (old now new : List A) (i : ℕ) → now ≡ old ++ flat_map f (up_to i)
    → new ≡ now ++ f (i + 1) → new ≡ old ++ flat_map f (up_to (i + 1))
number_more {A} f old now new i before here =
    let next : i + 1 ≡ suc i = omega arith in
    here ∙ ap (λ (l : List A). l ++ f (i + 1)) before ∙ append_assoc old (flat_map f (up_to i)) (f (i + 1))
    ∙ ap (λ (l : List A). old ++ l) (sym (flat_map_end f (up_to i) (i + 1)))
    ∙ ap (λ (n : ℕ). old ++ flat_map f (up_to i ++ n ∷ [])) next
    ∙ ap (λ (n : ℕ). old ++ flat_map f (up_to n)) (sym next)

-- the values of one number more
pub values_more : {A : Type 0} (f : ℕ → A) (now new : List A) (i : ℕ) (x : A) → now ≡ map f (up_to i) → new ≡ now ++ x ∷ [] → x ≡ f (i + 1)
    → new ≡ map f (up_to (i + 1))
values_more {A} f now new i x before here is =
    let next : i + 1 ≡ suc i = omega arith in
    here ∙ ap (λ (l : List A). l ++ x ∷ []) before ∙ ap (λ (y : A). map f (up_to i) ++ y ∷ []) is
    ∙ ap (λ (n : ℕ). map f (up_to i) ++ f n ∷ []) next
    ∙ sym (map_end (up_to i) (suc i)) ∙ ap (λ (n : ℕ). map f (up_to n)) (sym next)
  where
    map_end : (ns : List ℕ) (n : ℕ) → map f (ns ++ n ∷ []) ≡ map f ns ++ f n ∷ []
    map_end [] n = refl
    map_end (m ∷ ns) n = ap (λ (l : List A). f m ∷ l) (map_end ns n)
