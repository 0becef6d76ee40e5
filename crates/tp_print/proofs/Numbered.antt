-- Counts and lines over numbers from 1, and over the commands of all sessions.
use Rattle.std.proofs.Common.{◌≡◌, ◌≢◌, ℕ, zero, suc, ◌+◌, ◌<◌, ◌≤◌, inl, inr, Bool, true, false, cond, List, [], ◌∷◌, ◌++◌, length, refl, sym, ap, ◌∙◌, arith, length-append}
use Rattle.std.specs.List.{flat_map}
use Rattle.std.specs.Prelude.{◌==◌, filter, map}
use Rattle.std.proofs.lemmas.Bool.{cases_eq, eq-eqb, ne_eqb}
use Rattle.std.proofs.lemmas.Grind.{flat_map-append}
use Rattle.std.proofs.lemmas.List.Elements.{filter-append}
use Rattle.tp_base.specs.Limits.{IsFrom}
use Rattle.tp_base.specs.Lists.{Each}
use Rattle.tp_ops.specs.declared.command.Command.{Command}
use Rattle.tp_topology.specs.Counting.{up_to}

filter_one : (b : Bool) (x : ℕ) → length (cond b (x ∷ []) []) ≡ cond b 1 0
filter_one true x = refl
filter_one false x = refl

-- one number more is counted, or not
pub filter_more : (p : ℕ → Bool) (n : ℕ)
    → length (filter p (up_to (n + 1))) ≡ length (filter p (up_to n)) + cond (p (n + 1)) 1 0
filter_more p n =
    let next : n + 1 ≡ suc n = omega arith in
    ap (λ (k : ℕ). length (filter p (up_to k))) next
    ∙ ap length (filter-append p (up_to n) (suc n ∷ []))
    ∙ length-append (filter p (up_to n)) (filter p (suc n ∷ []))
    ∙ ap (λ (k : ℕ). length (filter p (up_to n)) + k) (filter_one (p (suc n)) (suc n))
    ∙ ap (λ (k : ℕ). length (filter p (up_to n)) + cond (p k) 1 0) (sym next)

pub length-flat_map-same : {X A B : Type 0} (f : X → List A) (g : X → List B) (xs : List X)
    → ((x : X) → length (f x) ≡ length (g x)) → length (flat_map f xs) ≡ length (flat_map g xs)
length-flat_map-same f g [] same = refl
length-flat_map-same f g (x ∷ xs) same =
    omega (
      arith,
      length-append (f x) (flat_map f xs),
      length-append (g x) (flat_map g xs),
      same x,
      length-flat_map-same f g xs same,
    )

pub flat_map_flat : {X Y A : Type 0} (f : Y → List A) (g : X → List Y) (xs : List X)
    → flat_map f (flat_map g xs) ≡ flat_map (λ x. flat_map f (g x)) xs
flat_map_flat f g [] = refl
flat_map_flat f g (x ∷ xs) = flat_map-append f (g x) (flat_map g xs)
    ∙ ap (λ ys. flat_map f (g x) ++ ys) (flat_map_flat f g xs)

pub filter_flat : {X Y : Type 0} (p : Y → Bool) (g : X → List Y) (xs : List X)
    → filter p (flat_map g xs) ≡ flat_map (λ x. filter p (g x)) xs
filter_flat p g [] = refl
filter_flat p g (x ∷ xs) = filter-append p (g x) (flat_map g xs) ∙ ap (λ ys. filter p (g x) ++ ys) (filter_flat p g xs)

pub length-filter_map : {X Y : Type 0} (p : Y → Bool) (h : X → Y) (xs : List X)
    → length (filter p (map h xs)) ≡ length (filter (λ x. p (h x)) xs)
length-filter_map p h [] = refl
length-filter_map p h (x ∷ xs) = by (p (h x)) (length-filter_map p h xs)
  where
    by : (b : Bool) → length (filter p (map h xs)) ≡ length (filter (λ y. p (h y)) xs)
        → length (cond b (h x ∷ filter p (map h xs)) (filter p (map h xs))) ≡ length
        (cond b (x ∷ filter (λ y. p (h y)) xs) (filter (λ y. p (h y)) xs))
    by true same = ap (λ (n : ℕ). suc n) same
    by false same = same

-- the commands of a session of a number

abbrev pub of_session : List Command → ℕ → List Command
of_session cs s = filter (λ c. c.id.session.0 == s) cs

-- the commands of the first sessions are counted once
abbrev counted : List Command → ℕ → ℕ
counted cs k = length (flat_map (of_session cs) (up_to k))

counted_more : (cs : List Command) (k : ℕ) → counted cs (suc k) ≡ counted cs k + length (of_session cs (suc k))
counted_more cs k =
    ap length (flat_map-append (of_session cs) (up_to k) (suc k ∷ []))
    ∙ length-append (flat_map (of_session cs) (up_to k)) (of_session cs (suc k) ++ [])
    ∙ ap (λ (n : ℕ). counted cs k + n) (length-append (of_session cs (suc k)) [] ∙ (omega arith))

of_this : (c : Command) (cs : List Command) (s : ℕ) → c.id.session.0 ≡ s
    → length (of_session (c ∷ cs) s) ≡ suc (length (of_session cs s))
of_this c cs s e = ap (λ (b : Bool). length (cond b (c ∷ of_session cs s) (of_session cs s)))
    (eq-eqb c.id.session.0 s e)

of_other : (c : Command) (cs : List Command) (s : ℕ) → c.id.session.0 ≢ s
    → length (of_session (c ∷ cs) s) ≡ length (of_session cs s)
of_other c cs s apart = ap (λ (b : Bool). length (cond b (c ∷ of_session cs s) (of_session cs s)))
    (ne_eqb c.id.session.0 s apart)

record Once (c : Command) (cs : List Command) (k : ℕ) : Type 0 where
  once : counted (c ∷ cs) k ≤ suc (counted cs k)
  before : k < c.id.session.0 → counted (c ∷ cs) k ≡ counted cs k

counted_once : (c : Command) (cs : List Command) (k : ℕ) → Once c cs k
counted_once c cs zero = record { once = omega arith; before = λ lt. refl }
counted_once c cs (suc k) =
    let h = counted_once c cs k in
    elim (cases_eq c.id.session.0 (suc k)) [
      | inl e ↦ record {
        once = omega (
          arith,
          counted_more (c ∷ cs) k,
          counted_more cs k,
          of_this c cs (suc k) e,
          h.before
              (omega arith),
        );
        before = λ lt. absurd (omega arith);
      }
      | inr apart ↦ record {
        once = omega (arith, counted_more (c ∷ cs) k, counted_more cs k, of_other c cs (suc k) apart, h.once);
        before = λ lt. omega (
          arith,
          counted_more (c ∷ cs) k,
          counted_more cs k,
          of_other c cs (suc k) apart,
          h.before
              (omega arith),
        );
      }
    ]

none_counted : (k : ℕ) → counted [] k ≡ 0
none_counted zero = refl
none_counted (suc k) = counted_more [] k ∙ (omega (arith, none_counted k))

pub counted_few : (cs : List Command) (k : ℕ) → length (flat_map (of_session cs) (up_to k)) ≤ length cs
counted_few [] k = omega (arith, none_counted k)
counted_few (c ∷ cs) k = omega (arith, (counted_once c cs k).once, counted_few cs k)

counted_here : (c : Command) (cs : List Command) (k : ℕ) → IsFrom 1 k c.id.session.0
    → counted (c ∷ cs) k ≡ suc (counted cs k)
counted_here c cs zero h = absurd (omega (arith, h.0, h.1))
counted_here c cs (suc k) h = elim (cases_eq c.id.session.0 (suc k)) [
  | inl e ↦ omega (arith, counted_more (c ∷ cs) k, counted_more cs k, of_this c cs (suc k) e, (counted_once c cs k).before (omega (arith, e)))
  | inr apart ↦ omega (
    arith,
    counted_more (c ∷ cs) k,
    counted_more cs k,
    of_other c cs (suc k) apart,
    counted_here c cs k (h.0, omega (arith, h.1, apart)),
  )
]

-- each command of the first sessions is counted
pub all_counted : (cs : List Command) (k : ℕ) → Each (λ c. IsFrom 1 k c.id.session.0) cs
    → length (flat_map (of_session cs) (up_to k)) ≡ length cs
all_counted [] k h = none_counted k
all_counted (c ∷ cs) k h = omega (arith, counted_here c cs k h.0, all_counted cs k h.1)

pub total_more : {A : Type 0} (f : ℕ → List A) (n : ℕ)
    → length (flat_map f (up_to (n + 1))) ≡ length (flat_map f (up_to n)) + length (f (n + 1))
total_more f n =
    let next : n + 1 ≡ suc n = omega arith in
    ap (λ (k : ℕ). length (flat_map f (up_to k))) next
    ∙ ap length (flat_map-append f (up_to n) (suc n ∷ []))
    ∙ length-append (flat_map f (up_to n)) (f (suc n) ++ [])
    ∙ ap (λ (k : ℕ). length (flat_map f (up_to n)) + k) (length-append (f (suc n)) [] ∙ (omega arith))
    ∙ ap (λ (k : ℕ). length (flat_map f (up_to n)) + length (f k)) (sym next)
