-- The steps that actors may make by themselves, where all are free: how many there are, and which one has so many before it.
use Rattle.std.proofs.Common.{◌≡◌, ℕ, suc, zero, Bool, true, false, cond, List, [], ◌∷◌, ◌++◌, ◌+◌, length, map, take, Option, Some, None, refl, sym, ap, ◌∙◌, arith}
use Rattle.std.proofs.lemmas.List.{map-append}
use Rattle.std.proofs.lemmas.Option.{slice_get-map}
use Rattle.std.specs.List.{zip}
use Rattle.std.specs.Prelude.{filter_map, is_some, option_map, slice_get, unwrap_or}
use Rattle.tp_base.specs.Lists.{Each}
use Rattle.tp_base.specs.declared.names.ActorName.{ActorName}
use Rattle.tp_bits.specs.Bits.{ones, select}
use Rattle.tp_netbook.proofs.Marks.{kept_at, kept_no_more, many_kept, one_later}
use Rattle.tp_netbook.proofs.Rosters.{take_next}
use Rattle.tp_netbook.specs.Netbook.{AreAllFree, is_free, own_item, own_items}
use Rattle.tp_netbook.specs.declared.netbook.Netbook.{Netbook}
use Rattle.tp_rules.specs.Pending.{inner_item, item}
use Rattle.tp_rules.specs.declared.event.Event.TheVariants.{Inner as OfItself}
use Rattle.tp_rules.specs.declared.event.Inner.{Inner}
use Rattle.tp_rules.specs.declared.event.Inner.TheVariants.{Announce}
use Rattle.tp_rules.specs.declared.event.Item.{Item}

-- which steps are there, of one more
pub bits_next : (next : List (Option Inner)) (i : ℕ) (bit : Bool) (o : Option Inner) → slice_get next i ≡ Some o → bit ≡ is_some o
    → map is_some (take i next) ++ bit ∷ [] ≡ map is_some (take (i + 1) next)
bits_next next i bit o at is =
    ap (λ (b : Bool). map is_some (take i next) ++ b ∷ []) is ∙ sym (map-append is_some (take i next) (o ∷ [])) ∙ ap (map is_some) (sym (take_next next i o at))

abbrev is_there : ActorName × Option Inner → Bool
is_there own = is_some own.1

abbrev step_of : ActorName × Option Inner → Item
step_of own = item own.0 (OfItself (unwrap_or own.1 Announce))

abbrev step_where : ActorName × Option Inner → Option Item
step_where own = cond (is_there own) (Some (step_of own)) None

there_is : (a : ActorName) (o : Option Inner) → cond (is_some o) (Some (item a (OfItself (unwrap_or o Announce)))) None ≡ inner_item a o
there_is a None = refl
there_is a (Some inner) = refl

tests : (actors : List ActorName) (next : List (Option Inner)) → length next ≡ length actors → map is_there (zip actors next) ≡ map is_some next
tests [] [] many = refl
tests [] (o ∷ next) many = absurd cc
tests (a ∷ actors) [] many = absurd cc
tests (a ∷ actors) (o ∷ next) many =
    let same : length next ≡ length actors = omega arith in
    ap (λ (l : List Bool). is_some o ∷ l) (tests actors next same)

unzipped : {X Y : Type 0} (xs : List X) (ys : List Y) (i : ℕ) (p : X × Y) → slice_get (zip xs ys) i ≡ Some p → (slice_get xs i ≡ Some p.0) × (slice_get ys i ≡ Some p.1)
unzipped [] ys i p at = absurd cc
unzipped (x ∷ xs) [] i p at = absurd cc
unzipped {X} {Y} (x ∷ xs) (y ∷ ys) zero p at =
    let same : (x, y) ≡ p = cc in
    (ap (λ (q : X × Y). Some q.0) same, ap (λ (q : X × Y). Some q.1) same)
unzipped (x ∷ xs) (y ∷ ys) (suc i) p at = unzipped xs ys i p at

-- a bit that is selected is set
set_there : (bits : List Bool) (k i : ℕ) → select bits k ≡ Some i → slice_get bits i ≡ Some true
set_there [] k i e = absurd cc
set_there (true ∷ bits) zero i e =
    let first : 0 ≡ i = cc in
    ap (slice_get (true ∷ bits)) (sym first)
set_there (true ∷ bits) (suc k) i e = let later = one_later (select bits k) i e in ap (slice_get (true ∷ bits)) (sym later.2) ∙ set_there bits k later.0 later.1
set_there (false ∷ bits) k i e = let later = one_later (select bits k) i e in ap (slice_get (false ∷ bits)) (sym later.2) ∙ set_there bits k later.0 later.1

module _ (b : Netbook) where
  free_at : (actors : List ActorName) (i : ℕ) (a : ActorName) → Each (λ a. is_free b a ≡ true) actors → slice_get actors i ≡ Some a → is_free b a ≡ true
  free_at [] i a free at = absurd cc
  free_at (x ∷ actors) zero a free at =
      let same : x ≡ a = cc in
      ap (is_free b) (sym same) ∙ free.0
  free_at (x ∷ actors) (suc i) a free at = free_at actors i a free.1 at

  steps_are : (actors : List ActorName) (next : List (Option Inner)) → Each (λ a. is_free b a ≡ true) actors
      → filter_map (own_item b) (zip actors next) ≡ filter_map step_where (zip actors next)
  steps_are [] next free = refl
  steps_are (a ∷ actors) [] free = refl
  steps_are (a ∷ actors) (o ∷ next) free =
      let here : own_item b (a, o) ≡ step_where (a, o) = ap (λ (c : Bool). cond c (inner_item a o) None) free.0 ∙ sym (there_is a o) in
      rw (here, steps_are actors next free.1) refl

  module _ (next : List (Option Inner)) (free : AreAllFree b) (many : length next ≡ length b.roster.items) where
    pub many_own : ones (map is_some next) ≡ length (own_items b next)
    many_own =
        ap ones (sym (tests b.roster.items next many)) ∙ many_kept is_there step_of (zip b.roster.items next)
        ∙ ap length (sym (steps_are b.roster.items next free))

    pub own_no_more : (k : ℕ) → select (map is_some next) k ≡ None → slice_get (own_items b next) k ≡ None
    own_no_more k none =
        ap (λ (l : List Item). slice_get l k) (steps_are b.roster.items next free)
        ∙ kept_no_more is_there step_of (zip b.roster.items next) k (ap (λ (l : List Bool). select l k) (tests b.roster.items next many) ∙ none)

    -- the actor and its step at a place
    pub own_there : (k i : ℕ) → select (map is_some next) k ≡ Some i
        → (a : ActorName) × (o : Option Inner) × (slice_get b.roster.items i ≡ Some a) × (slice_get next i ≡ Some o) × (slice_get (own_items b next) k ≡ own_item b (a, o))
    own_there k i at =
        let found = kept_at is_there step_of (zip b.roster.items next) k i (ap (λ (l : List Bool). select l k) (tests b.roster.items next many) ∙ at) in
        let parts = unzipped b.roster.items next i found.0 found.1 in
        let bit : Some (is_some found.0.1) ≡ Some true =
        ap (option_map is_some) (sym parts.1) ∙ sym (slice_get-map is_some next i) ∙ set_there (map is_some next) k i at in
        let there : is_some found.0.1 ≡ true = cc in
        let own : own_item b (found.0.0, found.0.1) ≡ Some (step_of found.0) =
        ap (λ (c : Bool). cond c (inner_item found.0.0 found.0.1) None) (free_at b.roster.items i found.0.0 free parts.0)
        ∙ sym (there_is found.0.0 found.0.1) ∙ ap (λ (c : Bool). cond c (Some (step_of found.0)) None) there in
        (found.0.0, found.0.1, parts.0, parts.1, ap (λ (l : List Item). slice_get l k) (steps_are b.roster.items next free) ∙ found.2 ∙ sym own)
