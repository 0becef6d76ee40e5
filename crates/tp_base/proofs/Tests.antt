-- Tests of the items of a list: whether some item passes, which is found first, and those that are left.
use Rattle.std.proofs.Common.{◌≡◌, ◌≤◌, inl, inr, Bool, true, false, List, [], ◌∷◌, length, Option, Some, None, refl, sym, ap, subst, ◌∙◌, arith}
use Rattle.std.proofs.lemmas.Bool.{and_parts, cases_Bool, or_cases, or_left, or_right}
use Rattle.std.specs.List.{list_all, list_any}
use Rattle.std.specs.Prelude.{filter, filter_map, find, ◌||◌}
use Rattle.tp_base.specs.Lists.{IsIn}

-- whether some item passes, or all do

pub any_in : {X : Type 0} (p : X → Bool) (xs : List X) (x : X) → IsIn x xs → p x ≡ true → list_any p xs ≡ true
any_in p [] x h does = absurd h
any_in p (y ∷ ys) x (inl same) does = or_left (p y) (list_any p ys) (ap p (sym same) ∙ does)
any_in p (y ∷ ys) x (inr later) does = or_right (p y) (list_any p ys) (any_in p ys x later does)

pub some_in : {X : Type 0} (p : X → Bool) (xs : List X) → list_any p xs ≡ true → (x : X) × IsIn x xs × (p x ≡ true)
some_in p [] h = absurd cc
some_in p (x ∷ xs) h = elim (or_cases (p x) (list_any p xs) h) [
  | inl here ↦ (x, inl refl, here)
  | inr later ↦ let rest = some_in p xs later in (rest.0, inr rest.1, rest.2)
]

pub none_in : {X : Type 0} (p : X → Bool) (xs : List X) (x : X) → list_any p xs ≡ false → IsIn x xs → p x ≡ false
none_in p xs x none h = elim (cases_Bool (p x)) [
  | inl does ↦ let some : list_any p xs ≡ true = any_in p xs x h does in absurd cc
  | inr not_so ↦ not_so
]

pub none_pass : {X : Type 0} (p : X → Bool) (xs : List X) → ((x : X) → IsIn x xs → p x ≡ false) → list_any p xs ≡ false
none_pass p [] h = refl
none_pass p (x ∷ xs) h = ap (λ (b : Bool). b || list_any p xs) (h x (inl refl)) ∙ none_pass p xs (λ y k. h y (inr k))

pub all_in : {X : Type 0} (p : X → Bool) (xs : List X) (x : X) → list_all p xs ≡ true → IsIn x xs → p x ≡ true
all_in p [] x h k = absurd k
all_in p (y ∷ ys) x h (inl same) = ap p same ∙ (and_parts (p y) (list_all p ys) h).0
all_in p (y ∷ ys) x h (inr later) = all_in p ys x (and_parts (p y) (list_all p ys) h).1 later

-- the first that passes
pub found_in : {X : Type 0} (p : X → Bool) (xs : List X) (x : X) → find p xs ≡ Some x → IsIn x xs × (p x ≡ true)
found_in p [] x e = absurd cc
found_in {X} p (y ∷ ys) x e = elim (cases_Bool (p y)) [
  | inl here ↦ let same : y ≡ x = some_is (sym (first y here) ∙ e) in (inl (sym same), ap p (sym same) ∙ here)
  | inr apart ↦ let rest = found_in p ys x (sym (later y apart) ∙ e) in (inr rest.0, rest.1)
]
  where
    some_is : {a b : X} → Some a ≡ Some b → a ≡ b
    some_is e = cc

    first : (z : X) → p z ≡ true → find p (z ∷ ys) ≡ Some z
    first z k = rw k refl

    later : (z : X) → p z ≡ false → find p (z ∷ ys) ≡ find p ys
    later z k = rw k refl

-- those that are left

pub filter_yes : {X : Type 0} (p : X → Bool) (x : X) (xs : List X) → p x ≡ true → filter p (x ∷ xs) ≡ x ∷ filter p xs
filter_yes p x xs e = rw e refl

pub filter_no : {X : Type 0} (p : X → Bool) (x : X) (xs : List X) → p x ≡ false → filter p (x ∷ xs) ≡ filter p xs
filter_no p x xs e = rw e refl

pub filter_in : {X : Type 0} (p : X → Bool) (xs : List X) (x : X) → IsIn x (filter p xs) → IsIn x xs × (p x ≡ true)
filter_in p [] x h = absurd h
filter_in p (y ∷ ys) x h = elim (cases_Bool (p y)) [
  | inl e ↦ let k : IsIn x (y ∷ filter p ys) = subst (IsIn x) (filter_yes p y ys e) h in elim k [
    | inl same ↦ (inl same, ap p same ∙ e)
    | inr later ↦ let rest = filter_in p ys x later in (inr rest.0, rest.1)
  ]
  | inr e ↦ let rest = filter_in p ys x (subst (IsIn x) (filter_no p y ys e) h) in (inr rest.0, rest.1)
]

pub in_filter : {X : Type 0} (p : X → Bool) (xs : List X) (x : X) → IsIn x xs → p x ≡ true → IsIn x (filter p xs)
in_filter p [] x h does = absurd h
in_filter p (y ∷ ys) x (inl same) does = subst (IsIn x) (sym (filter_yes p y ys (ap p (sym same) ∙ does))) (inl same)
in_filter p (y ∷ ys) x (inr later) does = elim (cases_Bool (p y)) [
  | inl e ↦ subst (IsIn x) (sym (filter_yes p y ys e)) (inr (in_filter p ys x later does))
  | inr e ↦ subst (IsIn x) (sym (filter_no p y ys e)) (in_filter p ys x later does)
]

pub filter_length : {X : Type 0} (p : X → Bool) (xs : List X) → length (filter p xs) ≤ length xs
filter_length p [] = omega arith
filter_length p (x ∷ xs) = let rest = filter_length p xs in elim (cases_Bool (p x)) [
  | inl e ↦ omega (arith, ap length (filter_yes p x xs e))
  | inr e ↦ omega (arith, ap length (filter_no p x xs e))
]

-- where no item passes
pub filter_none : {X : Type 0} (p : X → Bool) (xs : List X) → ((x : X) → IsIn x xs → p x ≡ false) → filter p xs ≡ []
filter_none p [] h = refl
filter_none p (x ∷ xs) h = filter_no p x xs (h x (inl refl)) ∙ filter_none p xs (λ y k. h y (inr k))

-- what is kept of a list comes from one of its items
pub kept_in : {X Y : Type 0} (f : X → Option Y) (xs : List X) (y : Y) → IsIn y (filter_map f xs)
    → (x : X) × IsIn x xs × (f x ≡ Some y)
kept_in f [] y h = absurd h
kept_in {X} {Y} f (x ∷ xs) y h = by (f x) refl (kept_in f xs y)
  where
    out : f x ≡ None → filter_map f (x ∷ xs) ≡ filter_map f xs
    out k = rw k refl

    here : (z : Y) → f x ≡ Some z → filter_map f (x ∷ xs) ≡ z ∷ filter_map f xs
    here z k = rw k refl

    by : (o : Option Y) → f x ≡ o → (IsIn y (filter_map f xs) → (z : X) × IsIn z xs × (f z ≡ Some y))
        → (z : X) × IsIn z (x ∷ xs) × (f z ≡ Some y)
    by None e rest = let found = rest (subst (IsIn y) (out e) h) in (found.0, inr found.1, found.2)
    by (Some z) e rest = elim (subst (IsIn y) (here z e) h) [
      | inl same ↦ (x, inl refl, e ∙ ap (λ (w : Y). Some w) (sym same))
      | inr later ↦ let found = rest later in (found.0, inr found.1, found.2)
    ]
