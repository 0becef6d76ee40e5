-- Small facts about lists and options.
use Rattle.std.proofs.Common.{◌≡◌, ℕ, zero, suc, ◌+◌, ◌-◌, ◌≤◌, inl, inr, Bool, true, false, cond, List, [], ◌∷◌, drop, length, map, Option, Some, None, refl, sym, ap, ◌∙◌, arith}
use Rattle.std.proofs.lemmas.Bool.{cases_Bool, ltb-false}
use Rattle.std.specs.List.{insert, position, position_or_len, zip}
use Rattle.std.specs.Prelude.{◌&&◌, filter_map, nat_le, slice_get}
use Rattle.tp_fates.proofs.FateTables.{drop_next}
use Rattle.tp_netbook.specs.Netbook.{planned_of}
use Rattle.tp_netbook.specs.declared.line.Line.{Line}
use Rattle.tp_rules.specs.Plan.{Planned, asked_of, by_time, put_in}
use Rattle.tp_base.specs.declared.names.Site.{Site}
use Rattle.tp_script.specs.declared.script.PlanLine.{PlanLine}

-- what is kept of a list from a place on

drop_at : {X : Type 0} (xs : List X) (i : ℕ) (x : X) → slice_get xs i ≡ Some x → drop i xs ≡ x ∷ drop (i + 1) xs
drop_at [] i x at = absurd cc
drop_at (y ∷ ys) zero x at = let same : y ≡ x = cc in ap (λ z. z ∷ ys) same
drop_at {X} (y ∷ ys) (suc i) x at = let one : suc (i + 1) ≡ suc i + 1 = omega arith in drop_at ys i x at ∙ ap (λ (n : ℕ). x ∷ drop n (y ∷ ys)) one

abbrev pub kept_from : {X Y : Type 0} → (X → Option Y) → List X → ℕ → List Y
kept_from f xs i = filter_map f (drop i xs)

pub kept_none : {X Y : Type 0} (f : X → Option Y) (xs : List X) (i n : ℕ) (x : X) → slice_get xs i ≡ Some x → f x ≡ None
    → slice_get (kept_from f xs i) n ≡ slice_get (kept_from f xs (i + 1)) n
kept_none {X} {Y} f xs i n x at gone = ap (λ (l : List X). slice_get (filter_map f l) n) (drop_at xs i x at) ∙ ap (λ (l : List Y). slice_get l n) first
  where
    first : filter_map f (x ∷ drop (i + 1) xs) ≡ filter_map f (drop (i + 1) xs)
    first = rw gone refl

kept_first : {X Y : Type 0} (f : X → Option Y) (xs : List X) (i : ℕ) (x : X) (y : Y) → slice_get xs i ≡ Some x → f x ≡ Some y
    → kept_from f xs i ≡ y ∷ kept_from f xs (i + 1)
kept_first {X} {Y} f xs i x y at some = ap (λ (l : List X). filter_map f l) (drop_at xs i x at) ∙ first
  where
    first : filter_map f (x ∷ drop (i + 1) xs) ≡ y ∷ filter_map f (drop (i + 1) xs)
    first = rw some refl

pub kept_here : {X Y : Type 0} (f : X → Option Y) (xs : List X) (i n : ℕ) (x : X) (y : Y) → slice_get xs i ≡ Some x → f x ≡ Some y → n ≡ 0
    → slice_get (kept_from f xs i) n ≡ Some y
kept_here {X} {Y} f xs i n x y at some none = ap (slice_get (kept_from f xs i)) none ∙ ap (λ (l : List Y). slice_get l 0) (kept_first f xs i x y at some)

pub kept_later : {X Y : Type 0} (f : X → Option Y) (xs : List X) (i n : ℕ) (x : X) (y : Y) → slice_get xs i ≡ Some x → f x ≡ Some y → ¬ (n ≡ 0)
    → slice_get (kept_from f xs i) n ≡ slice_get (kept_from f xs (i + 1)) (n - 1)
kept_later {X} {Y} f xs i n x y at some more =
    let one : n ≡ suc (n - 1) = omega (arith, more) in
    ap (λ (l : List Y). slice_get l n) (kept_first f xs i x y at some) ∙ ap (λ (k : ℕ). slice_get (y ∷ kept_from f xs (i + 1)) k) one

pub kept_end : {X Y : Type 0} (f : X → Option Y) (xs : List X) (i n : ℕ) → length xs ≤ i → slice_get (kept_from f xs i) n ≡ None
kept_end {X} {Y} f xs i n past = ap (λ (l : List X). slice_get (filter_map f l) n) (drop_past xs i past)
  where
    drop_past : (xs : List X) (i : ℕ) → length xs ≤ i → drop i xs ≡ []
    drop_past [] zero le = refl
    drop_past [] (suc i) le = refl
    drop_past (x ∷ xs) zero le = absurd (omega arith)
    drop_past (x ∷ xs) (suc i) le = drop_past xs i (omega arith)

pub zip_at : {X Y : Type 0} (xs : List X) (ys : List Y) (i : ℕ) (x : X) (y : Y) → slice_get xs i ≡ Some x → slice_get ys i ≡ Some y → slice_get (zip xs ys) i ≡ Some (x, y)
zip_at [] ys i x y at at' = absurd cc
zip_at (a ∷ xs) [] i x y at at' = absurd cc
zip_at (a ∷ xs) (b ∷ ys) zero x y at at' = let same : a ≡ x = cc in let same' : b ≡ y = cc in rw (same, same') refl
zip_at (a ∷ xs) (b ∷ ys) (suc i) x y at at' = zip_at xs ys i x y at at'

pub and_true : (b : Bool) → (b && true) ≡ b
and_true true = refl
and_true false = refl

-- where a line is put

abbrev planned : List Line → List Planned
planned ys = map planned_of ys

abbrev pub is_later : Line → Line → Bool
is_later x y = nat_le x.after y.after

put_there : (x : Line) (ys : List Line) → planned (insert ys (position_or_len (is_later x) ys) x) ≡ put_in (planned_of x) (planned ys)
put_there x [] = refl
put_there x (y ∷ ys) = elim (cases_Bool (nat_le x.after y.after)) [ inl t ↦ here t | inr f ↦ later f (put_there x ys) ]
  where
    here : nat_le x.after y.after ≡ true → planned (insert (y ∷ ys) (position_or_len (is_later x) (y ∷ ys)) x) ≡ put_in (planned_of x) (planned (y ∷ ys))
    here t = rw t refl

    later : nat_le x.after y.after ≡ false → planned (insert ys (position_or_len (is_later x) ys) x) ≡ put_in (planned_of x) (planned ys)
        → planned (insert (y ∷ ys) (position_or_len (is_later x) (y ∷ ys)) x) ≡ put_in (planned_of x) (planned (y ∷ ys))
    later f rest =
        let one : 1 + position_or_len (is_later x) ys ≡ suc (position_or_len (is_later x) ys) = omega arith in
        rw f (ap (λ (n : ℕ). planned (insert (y ∷ ys) n x)) one ∙ ap (λ (l : List Planned). planned_of y ∷ l) rest)

found_at : (b : Bool) (m n : ℕ) → cond b (Some m) None ≡ Some n → m ≡ n
found_at true m n e = cc
found_at false m n e = absurd cc

found_not : (b : Bool) (m : ℕ) → cond b (Some m) None ≡ None → b ≡ false
found_not true m e = absurd cc
found_not false m e = refl

pub put_before : (x : Line) (ys : List Line) (n : ℕ) → position (is_later x) ys ≡ Some n → planned (insert ys n x) ≡ put_in (planned_of x) (planned ys)
put_before x ys n e = ap (λ (k : ℕ). planned (insert ys k x)) (sym (found_at _ _ n e)) ∙ put_there x ys

pub put_last : (x : Line) (ys : List Line) (n : ℕ) → position (is_later x) ys ≡ None → n ≡ length ys → planned (insert ys n x) ≡ put_in (planned_of x) (planned ys)
put_last x ys n e at =
    let past : length ys ≤ position_or_len (is_later x) ys = ltb-false (position_or_len (is_later x) ys) (length ys) (found_not _ _ e) in
    let same : n ≡ position_or_len (is_later x) ys = omega (arith, past, within ys) in
    ap (λ (k : ℕ). planned (insert ys k x)) same ∙ put_there x ys
  where
    within : (zs : List Line) → position_or_len (is_later x) zs ≤ length zs
    within [] = omega arith
    within (z ∷ zs) = elim (cases_Bool (nat_le x.after z.after)) [ inl t ↦ none t | inr f ↦ one f (within zs) ]
      where
        none : nat_le x.after z.after ≡ true → position_or_len (is_later x) (z ∷ zs) ≤ suc (length zs)
        none t = rw t (omega arith)

        one : nat_le x.after z.after ≡ false → position_or_len (is_later x) zs ≤ length zs → position_or_len (is_later x) (z ∷ zs) ≤ suc (length zs)
        one f rest = rw f (omega (arith, rest))

-- the lines of a plan from its end on

abbrev pub lines_from : Site → List PlanLine → ℕ → List Planned
lines_from s plan i = by_time (filter_map (asked_of s) (drop i plan))

pub lines_asked : (s : Site) (plan : List PlanLine) (i : ℕ) (line : PlanLine) (x : Planned) → slice_get plan i ≡ Some line → asked_of s line ≡ Some x
    → lines_from s plan i ≡ put_in x (lines_from s plan (suc i))
lines_asked s plan i line x at asks = ap (λ (l : List PlanLine). by_time (filter_map (asked_of s) l)) (drop_next plan i line at) ∙ first
  where
    first : by_time (filter_map (asked_of s) (line ∷ drop (suc i) plan)) ≡ put_in x (lines_from s plan (suc i))
    first = rw asks refl

pub lines_passed : (s : Site) (plan : List PlanLine) (i : ℕ) (line : PlanLine) → slice_get plan i ≡ Some line → asked_of s line ≡ None
    → lines_from s plan i ≡ lines_from s plan (suc i)
lines_passed s plan i line at asks = ap (λ (l : List PlanLine). by_time (filter_map (asked_of s) l)) (drop_next plan i line at) ∙ first
  where
    first : by_time (filter_map (asked_of s) (line ∷ drop (suc i) plan)) ≡ lines_from s plan (suc i)
    first = rw asks refl
