-- Lists over the numbers from 1 up, one number after another.
use Rattle.std.proofs.Common.{◌≡◌, ℕ, zero, suc, ◌+◌, ◌-◌, ◌≤◌, Bool, true, false, List, [], ◌∷◌, ◌++◌, map, take, sym, ap, ◌∙◌, append_assoc, arith}
use Rattle.std.specs.Prelude.{filter}
use Rattle.std.specs.List.{flat_map}
use Rattle.std.proofs.lemmas.Grind.{flat_map-append}
use Rattle.std.proofs.lemmas.List.{append-nil, map-append}
use Rattle.std.proofs.lemmas.List.Elements.{filter-append}
use Rattle.tp_topology.specs.Counting.{up_to}

pub up_to-next : (n : ℕ) → 1 ≤ n → up_to (n + 1 - 1) ≡ up_to (n - 1) ++ n ∷ []
up_to-next zero some = absurd (omega arith)
up_to-next (suc k) some =
    let here : suc k + 1 - 1 ≡ suc k = omega arith in
    let before : k ≡ suc k - 1 = omega arith in
    ap (λ (m : ℕ). up_to m) here ∙ ap (λ (m : ℕ). up_to m ++ suc k ∷ []) before

pub filter-one : {X : Type 0} (test : X → Bool) (x : X) → test x ≡ true → filter test (x ∷ []) ≡ x ∷ []
filter-one test x passes = grind (arith, passes)

pub filter-out : {X : Type 0} (test : X → Bool) (x : X) → test x ≡ false → filter test (x ∷ []) ≡ []
filter-out test x fails = grind (arith, fails)

-- of those up to n that pass the test
passing-in : (test : ℕ → Bool) (n : ℕ) → 1 ≤ n → test n ≡ true → filter test (up_to (n + 1 - 1)) ≡ filter test (up_to (n - 1)) ++ n ∷ []
passing-in test n some passes =
    ap (λ (ns : List ℕ). filter test ns) (up_to-next n some) ∙ filter-append test (up_to (n - 1)) (n ∷ [])
    ∙ ap (λ (ns : List ℕ). filter test (up_to (n - 1)) ++ ns) (filter-one test n passes)

passing-out : (test : ℕ → Bool) (n : ℕ) → 1 ≤ n → test n ≡ false → filter test (up_to (n + 1 - 1)) ≡ filter test (up_to (n - 1))
passing-out test n some fails =
    ap (λ (ns : List ℕ). filter test ns) (up_to-next n some) ∙ filter-append test (up_to (n - 1)) (n ∷ [])
    ∙ ap (λ (ns : List ℕ). filter test (up_to (n - 1)) ++ ns) (filter-out test n fails)
    ∙ append-nil (filter test (up_to (n - 1)))

map-next : {X : Type 0} (f : ℕ → X) (ns : List ℕ) (n : ℕ) → map f (ns ++ n ∷ []) ≡ map f ns ++ f n ∷ []
map-next f ns n = map-append f ns (n ∷ [])

longer : {X : Type 0} (base xs ys zs added : List X) → xs ≡ base ++ zs → ys ≡ xs ++ added → ys ≡ base ++ (zs ++ added)
longer base xs ys zs added e more = more ∙ ap (λ (l : List _). l ++ added) e ∙ append_assoc base zs added

-- a list of what f makes of each number, one number further
pub each-next : {X : Type 0} (f : ℕ → X) (n : ℕ) (xs ys : List X) → 1 ≤ n
    → xs ≡ map f (up_to (n - 1)) → ys ≡ xs ++ f n ∷ [] → ys ≡ map f (up_to (n + 1 - 1))
each-next f n xs ys some e more =
    more ∙ ap (λ (l : List _). l ++ f n ∷ []) e ∙ sym (map-next f (up_to (n - 1)) n) ∙ ap (λ (ns : List ℕ). map f ns) (sym (up_to-next n some))

-- of the numbers that pass a test, after what was there before
module _ {X : Type 0} (f : ℕ → X) (test : ℕ → Bool) (base : List X) (n : ℕ) (xs ys : List X) (some : 1 ≤ n) where
  pub passing-more : test n ≡ true → xs ≡ base ++ map f (filter test (up_to (n - 1))) → ys ≡ xs ++ f n ∷ [] → ys ≡ base ++ map f (filter test (up_to (n + 1 - 1)))
  passing-more passes e more =
      longer base xs ys (map f (filter test (up_to (n - 1)))) (f n ∷ []) e more
      ∙ ap (λ (l : List X). base ++ l) (sym (map-next f (filter test (up_to (n - 1))) n) ∙ ap (λ (ns : List ℕ). map f ns) (sym (passing-in test n some passes)))

  pub passing-same : test n ≡ false → xs ≡ base ++ map f (filter test (up_to (n - 1))) → ys ≡ xs → ys ≡ base ++ map f (filter test (up_to (n + 1 - 1)))
  passing-same fails e same = same ∙ e ∙ ap (λ (ns : List ℕ). base ++ map f ns) (sym (passing-out test n some fails))

-- of the numbers that pass two tests
module _ {X : Type 0} (f : ℕ → X) (first second : ℕ → Bool) (n : ℕ) (xs ys : List X) (some : 1 ≤ n) where
  both-in : first n ≡ true → filter second (filter first (up_to (n + 1 - 1))) ≡ filter second (filter first (up_to (n - 1))) ++ filter second (n ∷ [])
  both-in passes = ap (λ (ns : List ℕ). filter second ns) (passing-in first n some passes) ∙ filter-append second (filter first (up_to (n - 1))) (n ∷ [])

  pub both-more : first n ≡ true → second n ≡ true → xs ≡ map f (filter second (filter first (up_to (n - 1)))) → ys ≡ xs ++ f n ∷ []
      → ys ≡ map f (filter second (filter first (up_to (n + 1 - 1))))
  both-more one two e more =
      more ∙ ap (λ (l : List X). l ++ f n ∷ []) e ∙ sym (map-next f (filter second (filter first (up_to (n - 1)))) n)
      ∙ ap (λ (ns : List ℕ). map f ns) (sym (both-in one ∙ ap (λ (ns : List ℕ). filter second (filter first (up_to (n - 1))) ++ ns) (filter-one second n two)))

  pub both-same : first n ≡ true → second n ≡ false → xs ≡ map f (filter second (filter first (up_to (n - 1)))) → ys ≡ xs
      → ys ≡ map f (filter second (filter first (up_to (n + 1 - 1))))
  both-same one two e same =
      same ∙ e ∙ ap (λ (ns : List ℕ). map f ns)
      (sym (both-in one ∙ ap (λ (ns : List ℕ). filter second (filter first (up_to (n - 1))) ++ ns) (filter-out second n two)
      ∙ append-nil (filter second (filter first (up_to (n - 1))))))

  pub first-same : first n ≡ false → xs ≡ map f (filter second (filter first (up_to (n - 1)))) → ys ≡ xs
      → ys ≡ map f (filter second (filter first (up_to (n + 1 - 1))))
  first-same one e same = same ∙ e ∙ ap (λ (ns : List ℕ). map f (filter second ns)) (sym (passing-out first n some one))

-- of those kept of a list for each number that passes a test
module _ {X : Type 0} (f : ℕ → List X) (keep : X → Bool) (test : ℕ → Bool) (n : ℕ) (xs ys : List X) (some : 1 ≤ n) where
  pub flat-more : test n ≡ true → xs ≡ filter keep (flat_map f (filter test (up_to (n - 1)))) → ys ≡ xs ++ filter keep (f n)
      → ys ≡ filter keep (flat_map f (filter test (up_to (n + 1 - 1))))
  flat-more passes e more =
      more ∙ ap (λ (l : List X). l ++ filter keep (f n)) e
      ∙ sym (filter-append keep (flat_map f (filter test (up_to (n - 1)))) (f n))
      ∙ ap (λ (l : List X). filter keep (flat_map f (filter test (up_to (n - 1))) ++ l)) (sym (append-nil (f n)))
      ∙ ap (λ (l : List X). filter keep l) (sym (flat_map-append f (filter test (up_to (n - 1))) (n ∷ [])))
      ∙ ap (λ (ns : List ℕ). filter keep (flat_map f ns)) (sym (passing-in test n some passes))

  pub flat-same : test n ≡ false → xs ≡ filter keep (flat_map f (filter test (up_to (n - 1)))) → ys ≡ xs
      → ys ≡ filter keep (flat_map f (filter test (up_to (n + 1 - 1))))
  flat-same fails e same = same ∙ e ∙ ap (λ (ns : List ℕ). filter keep (flat_map f ns)) (sym (passing-out test n some fails))

-- of those kept among what f makes of each number, after what was there before
module _ {X : Type 0} (f : ℕ → X) (keep : X → Bool) (base : List X) (n : ℕ) (xs ys : List X) (some : 1 ≤ n) where
  kept-next : filter keep (map f (up_to (n + 1 - 1))) ≡ filter keep (map f (up_to (n - 1))) ++ filter keep (f n ∷ [])
  kept-next =
      ap (λ (ns : List ℕ). filter keep (map f ns)) (up_to-next n some)
      ∙ ap (λ (l : List X). filter keep l) (map-next f (up_to (n - 1)) n)
      ∙ filter-append keep (map f (up_to (n - 1))) (f n ∷ [])

  pub kept-more : keep (f n) ≡ true → xs ≡ base ++ filter keep (map f (up_to (n - 1))) → ys ≡ xs ++ f n ∷ [] → ys ≡ base ++ filter keep (map f (up_to (n + 1 - 1)))
  kept-more passes e more =
      longer base xs ys (filter keep (map f (up_to (n - 1)))) (f n ∷ []) e more
      ∙ ap (λ (l : List X). base ++ l) (sym (kept-next ∙ ap (λ (l : List X). filter keep (map f (up_to (n - 1))) ++ l) (filter-one keep (f n) passes)))

  pub kept-same : keep (f n) ≡ false → xs ≡ base ++ filter keep (map f (up_to (n - 1))) → ys ≡ xs → ys ≡ base ++ filter keep (map f (up_to (n + 1 - 1)))
  kept-same fails e same =
      same ∙ e ∙ ap (λ (l : List X). base ++ l)
      (sym (kept-next ∙ ap (λ (l : List X). filter keep (map f (up_to (n - 1))) ++ l) (filter-out keep (f n) fails) ∙ append-nil (filter keep (map f (up_to (n - 1))))))

-- one item more of a list that f is applied to
pub taken-next : {X Y : Type 0} (f : X → Y) (base : List Y) (items : List X) (i : ℕ) (x : X) (ys zs : List Y)
    → take (i + 1) items ≡ take i items ++ x ∷ [] → ys ≡ base ++ map f (take i items) → zs ≡ ys ++ f x ∷ [] → zs ≡ base ++ map f (take (i + 1) items)
taken-next f base items i x ys zs next e more =
    longer base ys zs (map f (take i items)) (f x ∷ []) e more
    ∙ ap (λ (l : List _). base ++ l) (sym (map-append f (take i items) (x ∷ [])) ∙ ap (λ (l : List _). map f l) (sym next))
