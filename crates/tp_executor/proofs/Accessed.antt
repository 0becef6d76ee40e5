-- Which numbers from 1 up pass two tests, the first of them that passes a third, and messages for each of them.
use Rattle.std.proofs.Common.{◌≡◌, ℕ, zero, suc, ◌+◌, ◌≤◌, inl, inr, Bool, true, false, ◌&&◌, cond, List, [], ◌∷◌, ◌++◌, map, Some, None, refl, sym, ap, subst, ◌∙◌, append_assoc, arith}
use Rattle.std.specs.List.{flat_map}
use Rattle.std.specs.Prelude.{filter, find}
use Rattle.std.proofs.lemmas.Bool.{and_parts, cases_Bool, cases_eq}
use Rattle.std.proofs.lemmas.Grind.{flat_map-append}
use Rattle.std.proofs.lemmas.List.{append-nil, map-append}
use Rattle.std.proofs.lemmas.List.Elements.{filter-append}
use Rattle.tp_base.specs.declared.names.ActorName.{ActorName}
use Rattle.tp_rules.specs.Addresses.{message, to_each}
use Rattle.tp_topology.specs.Counting.{up_to}
use Rattle.tp_wire.specs.declared.message.Body.{Body}
use Rattle.tp_wire.specs.declared.message.Message.{Message}

-- the numbers from 1 to n that pass both
abbrev pub passing : (ℕ → Bool) → (ℕ → Bool) → ℕ → List ℕ
passing f g n = filter f (filter g (up_to n))

passing_more : (f g : ℕ → Bool) (n : ℕ) → passing f g (suc n) ≡ passing f g n ++ filter f (filter g (suc n ∷ []))
passing_more f g n = ap (filter f) (filter-append g (up_to n) (suc n ∷ [])) ∙ filter-append f (filter g (up_to n)) (filter g (suc n ∷ []))

first_empty : (xs ys : List ℕ) → xs ++ ys ≡ [] → xs ≡ []
first_empty [] ys e = refl
first_empty (x ∷ xs) ys e = absurd cc

second_empty : (xs ys : List ℕ) → xs ++ ys ≡ [] → ys ≡ []
second_empty [] ys e = e
second_empty (x ∷ xs) ys e = absurd cc

one_passes : (f g : ℕ → Bool) (k : ℕ) → f k ≡ true → g k ≡ true → filter f (filter g (k ∷ [])) ≡ k ∷ []
one_passes f g k p q =
    ap (λ (b : Bool). filter f (cond b (k ∷ []) [])) q ∙ ap (λ (b : Bool). cond b (k ∷ []) []) p

-- one that passes is there
pub not_empty : (f g : ℕ → Bool) (n k : ℕ) → 1 ≤ k → k ≤ n → f k ≡ true → g k ≡ true → passing f g n ≡ [] → ⊥
not_empty f g zero k low high p q e = absurd (omega arith)
not_empty f g (suc n) k low high p q e = elim (cases_eq k (suc n)) [
  | inl same ↦
      let last : filter f (filter g (suc n ∷ [])) ≡ suc n ∷ [] = one_passes f g (suc n) (subst (λ (j : ℕ). f j ≡ true) same p) (subst (λ (j : ℕ). g j ≡ true) same q) in
      let none : suc n ∷ [] ≡ [] = sym last ∙ second_empty (passing f g n) (filter f (filter g (suc n ∷ []))) (sym (passing_more f g n) ∙ e) in
      absurd cc
  | inr apart ↦ not_empty f g n k low (omega arith) p q (first_empty (passing f g n) (filter f (filter g (suc n ∷ []))) (sym (passing_more f g n) ∙ e))
]

-- one number further

none_passes : (f g : ℕ → Bool) (k : ℕ) (a b : Bool) → f k ≡ a → g k ≡ b → (a && b) ≡ false → filter f (filter g (k ∷ [])) ≡ []
none_passes f g k a false p q none = ap (λ (b : Bool). filter f (cond b (k ∷ []) [])) q
none_passes f g k false true p q none = ap (λ (b : Bool). filter f (cond b (k ∷ []) [])) q ∙ ap (λ (b : Bool). cond b (k ∷ []) []) p
none_passes f g k true true p q none = absurd cc

next_passes : (f g : ℕ → Bool) (n : ℕ) → f (n + 1) ≡ true → g (n + 1) ≡ true → passing f g (n + 1) ≡ passing f g n ++ (n + 1) ∷ []
next_passes f g n p q =
    let one : n + 1 ≡ suc n = omega arith in
    subst (λ (k : ℕ). f k ≡ true → g k ≡ true → passing f g k ≡ passing f g n ++ k ∷ []) (sym one)
    (λ p q. passing_more f g n ∙ ap (λ (ks : List ℕ). passing f g n ++ ks) (one_passes f g (suc n) p q)) p q

next_fails : (f g : ℕ → Bool) (n : ℕ) → (f (n + 1) && g (n + 1)) ≡ false → passing f g (n + 1) ≡ passing f g n
next_fails f g n h =
    let one : n + 1 ≡ suc n = omega arith in
    subst (λ (k : ℕ). (f k && g k) ≡ false → passing f g k ≡ passing f g n) (sym one)
    (λ h. passing_more f g n ∙ ap (λ (ks : List ℕ). passing f g n ++ ks) (none_passes f g (suc n) (f (suc n)) (g (suc n)) refl refl h) ∙ append-nil (passing f g n)) h

-- the first that passes a third test

found_left : (p : ℕ → Bool) (xs ys : List ℕ) (k : ℕ) → find p xs ≡ Some k → find p (xs ++ ys) ≡ Some k
found_left p [] ys k e = absurd cc
found_left p (x ∷ xs) ys k e = go (p x) e (found_left p xs ys k)
  where
    go : (b : Bool) → cond b (Some x) (find p xs) ≡ Some k → (find p xs ≡ Some k → find p (xs ++ ys) ≡ Some k) → cond b (Some x) (find p (xs ++ ys)) ≡ Some k
    go true e rest = e
    go false e rest = rest e

found_right : (p : ℕ → Bool) (xs ys : List ℕ) → find p xs ≡ None → find p (xs ++ ys) ≡ find p ys
found_right p [] ys e = refl
found_right p (x ∷ xs) ys e = go (p x) e (found_right p xs ys)
  where
    go : (b : Bool) → cond b (Some x) (find p xs) ≡ None → (find p xs ≡ None → find p (xs ++ ys) ≡ find p ys) → cond b (Some x) (find p (xs ++ ys)) ≡ find p ys
    go true e rest = absurd cc
    go false e rest = rest e

found_further : (p f g : ℕ → Bool) (n m k : ℕ) → m ≤ n → find p (passing f g m) ≡ Some k → find p (passing f g n) ≡ Some k
found_further p f g zero m k le e = let none : m ≡ 0 = omega arith in subst (λ (j : ℕ). find p (passing f g j) ≡ Some k) none e
found_further p f g (suc n) m k le e = elim (cases_eq m (suc n)) [
  | inl same ↦ subst (λ (j : ℕ). find p (passing f g j) ≡ Some k) same e
  | inr apart ↦
      ap (find p) (passing_more f g n)
      ∙ found_left p (passing f g n) (filter f (filter g (suc n ∷ []))) k (found_further p f g n m k (omega arith) e)
]

-- the next number, where none was found before
pub found : (p f g : ℕ → Bool) (n i : ℕ) → i + 1 ≤ n → (f (i + 1) && g (i + 1)) ≡ true → p (i + 1) ≡ true → find p (passing f g i) ≡ None
    → find p (passing f g n) ≡ Some (i + 1)
found p f g n i le passes here none =
    let parts = and_parts (f (i + 1)) (g (i + 1)) passes in
    found_further p f g n (i + 1) (i + 1) le
    (ap (find p) (next_passes f g i parts.0 parts.1) ∙ found_right p (passing f g i) ((i + 1) ∷ []) none ∙ ap (λ (b : Bool). cond b (Some (i + 1)) None) here)

pub not_found : (p f g : ℕ → Bool) (i : ℕ) → p (i + 1) ≡ false → find p (passing f g i) ≡ None → find p (passing f g (i + 1)) ≡ None
not_found p f g i here none = elim (cases_Bool (f (i + 1) && g (i + 1))) [
  | inl passes ↦
      let parts = and_parts (f (i + 1)) (g (i + 1)) passes in
      ap (find p) (next_passes f g i parts.0 parts.1) ∙ found_right p (passing f g i) ((i + 1) ∷ []) none ∙ ap (λ (b : Bool). cond b (Some (i + 1)) None) here
  | inr fails ↦ ap (find p) (next_fails f g i fails) ∙ none
]

pub none_found : (p f g : ℕ → Bool) (i : ℕ) → (f (i + 1) && g (i + 1)) ≡ false → find p (passing f g i) ≡ None → find p (passing f g (i + 1)) ≡ None
none_found p f g i fails none = ap (find p) (next_fails f g i fails) ∙ none

-- messages for each

pub sent_to_next : (from : ActorName) (name : ℕ → ActorName) (body : Body) (base xs ys : List Message) (n : ℕ)
    → xs ≡ base ++ to_each from (map name (up_to n)) body → ys ≡ xs ++ message from (name (n + 1)) body ∷ []
    → ys ≡ base ++ to_each from (map name (up_to (n + 1))) body
sent_to_next from name body base xs ys n e more =
    let one : n + 1 ≡ suc n = omega arith in
    let last : List Message = message from (name (n + 1)) body ∷ [] in
    let next : map name (up_to (n + 1)) ≡ map name (up_to n) ++ name (n + 1) ∷ [] =
    subst (λ (k : ℕ). map name (up_to k) ≡ map name (up_to n) ++ name k ∷ []) (sym one) (map-append name (up_to n) (suc n ∷ [])) in
    more ∙ ap (λ (ms : List Message). ms ++ last) e ∙ append_assoc base (to_each from (map name (up_to n)) body) last
    ∙ ap (λ (ms : List Message). base ++ ms)
    (sym (ap (λ (names : List ActorName). to_each from names body) next ∙ map-append (λ to. message from to body) (map name (up_to n)) (name (n + 1) ∷ [])))

module _ (from : ActorName) (names : ℕ → List ActorName) (body : Body) (f g : ℕ → Bool) where
  abbrev pub sent_to : ℕ → List Message
  sent_to n = to_each from (flat_map names (passing f g n)) body

  pub sent_more : (xs ys : List Message) (n : ℕ) → (f (n + 1) && g (n + 1)) ≡ true → xs ≡ sent_to n → ys ≡ xs ++ to_each from (names (n + 1)) body
      → ys ≡ sent_to (n + 1)
  sent_more xs ys n passes e more =
      let parts = and_parts (f (n + 1)) (g (n + 1)) passes in
      let next : flat_map names (passing f g (n + 1)) ≡ flat_map names (passing f g n) ++ names (n + 1) =
      ap (flat_map names) (next_passes f g n parts.0 parts.1) ∙ flat_map-append names (passing f g n) ((n + 1) ∷ [])
      ∙ ap (λ (l : List ActorName). flat_map names (passing f g n) ++ l) (append-nil (names (n + 1))) in
      more ∙ ap (λ (ms : List Message). ms ++ to_each from (names (n + 1)) body) e
      ∙ sym (ap (λ (l : List ActorName). to_each from l body) next ∙ map-append (λ to. message from to body) (flat_map names (passing f g n)) (names (n + 1)))
