-- The spots of a journal's entries: one more, one that is looked up, and that columns grow with the numbers of the entries shown.
use Rattle.std.proofs.Common.{◌≡◌, ℕ, zero, suc, ◌+◌, ◌-◌, ◌<◌, ◌≤◌, inl, inr, ◌⊎◌, Bool, true, false, cond, List, [], ◌∷◌, ◌++◌, length, map, get_or, take, Option, Some, None, IfSome, is_some, refl, sym, ap, subst, ◌∙◌, arith, length-append}
use Rattle.std.proofs.lemmas.Bool.{cases_eq, cases_lt}
use Rattle.std.proofs.lemmas.List.Elements.{filter-append}
use Rattle.std.proofs.lemmas.List.{take_more}
use Rattle.std.proofs.lemmas.Option.{slice_get-get_or, slice_get_past, slice_get_within}
use Rattle.std.specs.Prelude.{filter, option_map, reverse, slice_get}
use Rattle.tp_base.proofs.Ends.{reverse_push}
use Rattle.tp_base.specs.declared.names.CommandId.{CommandId}
use Rattle.tp_picture.specs.Laws.{GrowsFrom}
use Rattle.tp_picture.specs.Scenes.{Scene, column, is_shown, place, row, row_where, shown, spot}
use Rattle.tp_picture.specs.declared.scene.Spot.{Spot}
use Rattle.tp_rules.proofs.lists.UpTo.{get_map, get_up_to, length-up_to, map_length}
use Rattle.tp_rules.specs.Outcome.{executed_by, line, once_at_end}
use Rattle.tp_base.specs.Tables.{nth}
use Rattle.tp_rules.specs.declared.event.Entry.{Entry}
use Rattle.tp_topology.specs.Counting.{up_to}

one : (b : Bool) (n : ℕ) → length (cond b (n ∷ []) []) ≡ cond b 1 0
one true n = refl
one false n = refl

-- one entry more is shown, or not
shown_next : (scene : Scene) (n : ℕ) → shown scene (suc n) ≡ shown scene n + cond (is_shown scene (suc n)) 1 0
unfolding shown
shown_next scene n =
    ap length (filter-append (is_shown scene) (up_to n) (suc n ∷ []))
    ∙ length-append (filter (is_shown scene) (up_to n)) (filter (is_shown scene) (suc n ∷ []))
    ∙ ap (λ (k : ℕ). length (filter (is_shown scene) (up_to n)) + k) (one (is_shown scene (suc n)) (suc n))

pub shown_more : (scene : Scene) (n : ℕ) → shown scene (n + 1) ≡ shown scene n + cond (is_shown scene (n + 1)) 1 0
shown_more scene n = let next : n + 1 ≡ suc n = omega arith in rw next (shown_next scene n)

at_most_one : (b : Bool) → cond {A = ℕ} b 1 0 ≤ 1
at_most_one true = omega arith
at_most_one false = omega arith

-- no more are shown than there are
pub shown_few : (scene : Scene) (n k : ℕ) → k ≡ shown scene n → k ≤ n → shown scene (n + 1) ≤ n + 1
shown_few scene n k is few = omega (arith, is, few, shown_more scene n, at_most_one (is_shown scene (n + 1)))

-- the spot of the next entry
pub spot_next : (scene : Scene) (i k : ℕ) (r : Option ℕ) → k ≡ shown scene i → r ≡ row scene (i + 1) → record { column = k; row = r } ≡ spot scene (i + 1)
spot_next scene i k r is at =
    let back : i + 1 - 1 ≡ i = omega arith in
    let here : k ≡ column scene (i + 1) = is ∙ sym (ap (shown scene) back) in
    rw (here, at) refl

nth_next : {X : Type 0} (xs : List X) (i : ℕ) → nth xs (i + 1) ≡ slice_get xs i
nth_next xs i = let next : i + 1 ≡ suc i = omega arith in ap (nth xs) next

-- an item that is looked up, by its number
pub nth_found : {X : Type 0} (xs ys : List X) (i : ℕ) (x : X) → ys ≡ xs → slice_get ys i ≡ Some x → nth xs (i + 1) ≡ Some x
nth_found xs ys i x same here = nth_next xs i ∙ ap (λ (l : List _). slice_get l i) (sym same) ∙ here

-- the row of the next entry
pub row_at : (scene : Scene) (i : ℕ) (e : Entry) (r : Option ℕ) → slice_get scene.journal i ≡ Some e → r ≡ row_where scene (i + 1) (Some e) → r ≡ row scene (i + 1)
unfolding row
row_at scene i e r here is = is ∙ sym (ap (row_where scene (i + 1)) (nth_next scene.journal i ∙ here))

pub none_shown : (scene : Scene) → 0 ≡ shown scene 0
unfolding shown
none_shown scene = refl

-- how many are shown with the next entry
pub width_next : (scene : Scene) (i width next : ℕ) (r : Option ℕ) → width ≡ shown scene i → r ≡ row scene (i + 1)
    → next ≡ width + cond (is_some r) 1 0 → next ≡ shown scene (i + 1)
width_next scene i width next r is at more =
    more ∙ ap (λ (n : ℕ). n + cond (is_some r) 1 0) is ∙ ap (λ (o : Option ℕ). shown scene i + cond (is_some o) 1 0) at ∙ sym (shown_more scene i)

-- the spot that is kept of an entry's number
pub spot_found : (scene : Scene) (spots : List Spot) (n : ℕ) → spots ≡ map (spot scene) (up_to (length scene.journal)) → 1 ≤ n → n ≤ length scene.journal
    → slice_get spots (n - 1) ≡ Some (spot scene n)
spot_found scene spots n kept low high =
    let next : suc (n - 1) ≡ n = omega arith in
    ap (λ (l : List Spot). slice_get l (n - 1)) kept
    ∙ get_map (spot scene) (up_to (length scene.journal)) (n - 1) (suc (n - 1)) (get_up_to (length scene.journal) (n - 1) (omega arith))
    ∙ ap (λ (k : ℕ). Some (spot scene k)) next

pub spots_counted : (scene : Scene) (spots : List Spot) → spots ≡ map (spot scene) (up_to (length scene.journal)) → length spots ≡ length scene.journal
spots_counted scene spots kept = ap length kept ∙ map_length (spot scene) (up_to (length scene.journal)) ∙ length-up_to (length scene.journal)

-- what is looked up of a number: its spot, where there is such an entry
looked_up : (scene : Scene) (spots : List Spot) (n : ℕ) (o : Option Spot) → spots ≡ map (spot scene) (up_to (length scene.journal)) → 1 ≤ n
    → o ≡ slice_get spots (n - 1) → ((o ≡ Some (spot scene n)) × (n ≤ length scene.journal)) ⊎ ((o ≡ None) × (length scene.journal < n))
looked_up scene spots n o kept low is = elim (cases_lt (n - 1) (length scene.journal)) [
  | inl less ↦ let high : n ≤ length scene.journal = omega arith in inl (is ∙ spot_found scene spots n kept low high, high)
  | inr past ↦
      let all : length spots ≤ n - 1 = omega (arith, spots_counted scene spots kept) in
      inr (is ∙ slice_get_past spots (n - 1) all, omega arith)
]

pub spot_is : (scene : Scene) (spots : List Spot) (n : ℕ) (o : Option Spot) → spots ≡ map (spot scene) (up_to (length scene.journal)) → 1 ≤ n
    → o ≡ slice_get spots (n - 1) → IfSome o (λ s. s ≡ spot scene n)
spot_is scene spots n o kept low is = elim (looked_up scene spots n o kept low is) [
  | inl found ↦ subst (λ (r : Option Spot). IfSome r (λ s. s ≡ spot scene n)) (sym found.0) refl
  | inr past ↦ subst (λ (r : Option Spot). IfSome r (λ s. s ≡ spot scene n)) (sym past.0) tt
]

pub spot_past : (scene : Scene) (spots : List Spot) (n : ℕ) (o : Option Spot) → spots ≡ map (spot scene) (up_to (length scene.journal)) → 1 ≤ n
    → o ≡ slice_get spots (n - 1) → o ≡ None → length scene.journal < n
spot_past scene spots n o kept low is none = elim (looked_up scene spots n o kept low is) [
  | inl found ↦ let wrong : Some (spot scene n) ≡ None = sym found.0 ∙ none in absurd cc
  | inr past ↦ past.1
]

-- no entry has the number 0, or one above the journal's length
pub row_past : (scene : Scene) (n : ℕ) → length scene.journal < n → row scene n ≡ None
unfolding row
row_past scene zero past = absurd (omega arith)
row_past scene (suc i) past = ap (row_where scene (suc i)) (slice_get_past scene.journal i (omega arith))

pub row_zero : (scene : Scene) → row scene 0 ≡ None
unfolding row
row_zero scene = refl

-- so neither has a place
pub no_place : (scene : Scene) (n : ℕ) → (n ≡ 0) ⊎ (length scene.journal < n) → None ≡ place scene n
no_place scene n out = sym (ap (λ (o : Option ℕ). option_map (λ k. record { entry = n; column = column scene n; row = k }) o) none)
  where
    none : row scene n ≡ None
    none = elim out [ inl nought ↦ ap (row scene) nought ∙ row_zero scene | inr past ↦ row_past scene n past ]

-- ---- columns grow

shown_grows : (scene : Scene) (m n : ℕ) → m ≤ n → shown scene m ≤ shown scene n
shown_grows scene m zero less = let same : m ≡ 0 = omega arith in omega (arith, ap (shown scene) same)
shown_grows scene m (suc n) less = elim (cases_eq m (suc n)) [
  | inl same ↦ omega (arith, ap (shown scene) same)
  | inr apart ↦ omega (arith, shown_grows scene m n (omega arith), shown_next scene n)
]

-- an entry that is shown moves those behind it
pub columns_grow : (scene : Scene) → GrowsFrom scene
columns_grow scene m n there low less =
    let back : suc (m - 1) ≡ m = omega arith in
    let this : is_shown scene (suc (m - 1)) ≡ true = ap (is_shown scene) back ∙ there in
    let more : shown scene (suc (m - 1)) ≡ shown scene (m - 1) + 1 = shown_next scene (m - 1) ∙ ap (λ (b : Bool). shown scene (m - 1) + cond {A = ℕ} b 1 0) this in
    omega (arith, more, shown_grows scene (suc (m - 1)) (n - 1) (omega arith))

-- ---- the line of commands

-- the line with the next entry
pub line_next : (journal entries : List Entry) (i : ℕ) (e : Entry) (before now : List CommandId) → entries ≡ journal → slice_get entries i ≡ Some e
    → before ≡ line (reverse (take i journal)) → now ≡ once_at_end before (executed_by e.event) → now ≡ line (reverse (take (i + 1) journal))
line_next journal entries i e before now same here is more =
    let there : slice_get journal i ≡ Some e = ap (λ (l : List Entry). slice_get l i) (sym same) ∙ here in
    let within : i < length journal = slice_get_within journal i e there in
    let item : get_or journal i e ≡ e = some_is (sym (slice_get-get_or journal i e within) ∙ there) in
    let taken : take (i + 1) journal ≡ take i journal ++ e ∷ [] = take_more journal i e within ∙ ap (λ (x : Entry). take i journal ++ x ∷ []) item in
    more ∙ ap (λ (ids : List CommandId). once_at_end ids (executed_by e.event)) is
    ∙ sym (ap (λ (l : List Entry). line (reverse l)) taken ∙ ap line (reverse_push (take i journal) e))
  where
    some_is : {X : Type 0} {x y : X} → Some x ≡ Some y → x ≡ y
    some_is h = cc
