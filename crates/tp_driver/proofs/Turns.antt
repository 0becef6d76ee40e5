-- A turn of the driver: what the pick chooses, and what stands after it.
use Rattle.std.proofs.Common.{◌≡◌, ◌≢◌, ℕ, zero, suc, ◌<◌, ◌%◌, inl, inr, true, List, [], ◌∷◌, ◌++◌, length, map, set, Option, Some, None, refl, sym, ap, subst, ◌∙◌, arith}
use Rattle.std.proofs.Math.Nat.{mod-le, mod-lt}
use Rattle.std.proofs.lemmas.Bool.{cases_eq}
use Rattle.std.proofs.lemmas.List.{length-map, length-reverse, length-set}
use Rattle.std.proofs.lemmas.Option.{slice_get-map, slice_get_within}
use Rattle.std.specs.Prelude.{OnOk, Result, Ok, Err, option_map, reverse, slice_get, unwrap_or}
use Rattle.tp_base.proofs.Each.{each_in}
use Rattle.tp_base.proofs.Ends.{get_set_other, get_set_same}
use Rattle.tp_base.proofs.Members.{in_get}
use Rattle.tp_base.proofs.SameNames.{same_name_not}
use Rattle.tp_base.specs.declared.names.ActorName.{ActorName}
use Rattle.tp_driver.proofs.Pendings.{pending_legal, pending_may}
use Rattle.tp_driver.specs.Driving.{IsChosen, IsDriven, IsOneMore, IsPickOf, MayCome}
use Rattle.tp_netbook.proofs.Places.{get_place, place_get}
use Rattle.tp_netbook.specs.Netbook.{AreNext}
use Rattle.tp_netbook.specs.Places.{place_of}
use Rattle.tp_script.specs.Accepted.{IsAccepted}
use Rattle.tp_rules.proofs.Histories.{free_history}
use Rattle.tp_rules.proofs.fit.InRange.{sent_in_range}
use Rattle.tp_rules.proofs.Journals.{acts_other, picked_run_more, picked_run_none, run_more, run_none}
use Rattle.tp_rules.proofs.sent.Parcels.{output_sent, parcel}
use Rattle.tp_rules.proofs.ends.RunsEnd.{left_after}
use Rattle.tp_rules.specs.Acts.{Took}
use Rattle.tp_rules.specs.Journal.{act_of, acts, identity_in, is_known, output_at, sent}
use Rattle.tp_rules.specs.Left.{left}
use Rattle.tp_rules.specs.Pending.{IsQuiet, actors_of, index_next, item, pending}
use Rattle.tp_rules.specs.Rules.{enabled, outputs_of}
use Rattle.tp_rules.specs.Runs.{IsFor, IsFreeHistory, IsHistory, IsLegal, IsRun, outputs_by, outputs_in}
use Rattle.tp_rules.specs.declared.event.Entry.{Entry}
use Rattle.tp_rules.specs.declared.event.Event.{Event}
use Rattle.tp_rules.specs.declared.event.Event.TheVariants.{Deliver}
use Rattle.tp_rules.specs.declared.event.Inner.{Inner}
use Rattle.tp_rules.specs.declared.event.Item.{Item}
use Rattle.tp_rules.specs.declared.event.Parcel.{Parcel}
use Rattle.tp_script.specs.declared.script.Script.{Script}
use Rattle.tp_wire.specs.Ranges.{IsInRange}
use Rattle.tp_wire.specs.declared.message.Message.{Message}

-- lists

empty_at : {X : Type 0} (xs : List X) → None ≡ slice_get xs 0 → xs ≡ []
empty_at [] e = refl
empty_at (x ∷ xs) e = absurd cc

none_long : {X : Type 0} (xs : List X) → 0 ≡ length xs → xs ≡ []
none_long [] e = refl
none_long (x ∷ xs) e = absurd (omega arith)

alike : {X : Type 0} (xs ys : List X) → length xs ≡ length ys → ((k : ℕ) (x y : X) → slice_get xs k ≡ Some x → slice_get ys k ≡ Some y → x ≡ y) → xs ≡ ys
alike [] [] many each = refl
alike [] (y ∷ ys) many each = absurd cc
alike (x ∷ xs) [] many each = absurd cc
alike {X} (x ∷ xs) (y ∷ ys) many each =
    let same : length xs ≡ length ys = omega arith in
    ap (λ (z : X). z ∷ xs) (each zero x y refl refl) ∙ ap (λ (l : List X). y ∷ l) (alike xs ys same (λ k a b p q. each (suc k) a b p q))

-- the choice

module _ (script : Script) (journal : List Entry) where
  abbrev items : List Item
  items = pending script (reverse journal)

  abbrev IsPick : ℕ → Type 0
  IsPick pick = pick ≡ unwrap_or (slice_get script.picks (length journal)) 0

  index_is : (pick : ℕ) → IsPick pick → index_next script (reverse journal) ≡ pick % length items
  index_is pick is = ap (λ (n : ℕ). unwrap_or (slice_get script.picks n) 0 % length items) (length-reverse journal) ∙ ap (λ (n : ℕ). n % length items) (sym is)

  first_some : (pick : ℕ) (x : Item) → IsPick pick → pick ≡ 0 → Some x ≡ slice_get items 0 → IsPickOf script journal x
  first_some pick x is none at =
      let within : 0 < length items = slice_get_within items 0 x (sym at) in
      let index : index_next script (reverse journal) ≡ 0 = index_is pick is ∙ ap (λ (n : ℕ). n % length items) none ∙ zero_of (length items) within in
      ap (slice_get items) index ∙ sym at
    where
      zero_of : (n : ℕ) → 0 < n → 0 % n ≡ 0
      zero_of n some = omega (arith, mod-le 0 n)

  first_none : None ≡ slice_get items 0 → items ≡ []
  first_none at = empty_at items at

  pub none_of : (all : ℕ) → all ≡ length items → all ≡ 0 → items ≡ []
  none_of all is none = none_long items (sym none ∙ is)

  pick_some : (pick all : ℕ) (x : Item) → IsPick pick → all ≡ length items → Some x ≡ slice_get items (pick % all) → IsPickOf script journal x
  pick_some pick all x is many at = ap (slice_get items) (index_is pick is ∙ ap (λ (n : ℕ). pick % n) (sym many)) ∙ sym at

  pick_none : (pick all : ℕ) → all ≡ length items → all ≢ 0 → None ≡ slice_get items (pick % all) → ⊥
  pick_none pick all many some at =
      let low : pick % all < all = mod-lt pick (omega (arith, some)) in
      past items (pick % all) (omega (arith, low, many)) at
    where
      past : (xs : List Item) (k : ℕ) → k < length xs → None ≡ slice_get xs k → ⊥
      past [] k lt e = omega arith
      past (y ∷ ys) zero lt e = absurd cc
      past (y ∷ ys) (suc k) lt e = past ys k (omega arith) e

  pub first_chosen : (pick : ℕ) (o : Option Item) → IsPick pick → pick ≡ 0 → o ≡ slice_get items 0 → IsChosen script journal o
  first_chosen pick None is none at = first_none at
  first_chosen pick (Some x) is none at = first_some pick x is none at

  pub pick_chosen : (pick all : ℕ) (o : Option Item) → IsPick pick → all ≡ length items → all ≢ 0 → o ≡ slice_get items (pick % all) → IsChosen script journal o
  pick_chosen pick all None is many some at = absurd (pick_none pick all many some at)
  pick_chosen pick all (Some x) is many some at = pick_some pick all x is many at

-- the step that is chosen

module _ (script : Script) (accepted : IsAccepted script) (journal : List Entry) (run : IsRun script journal) where
  history : IsHistory script (reverse journal)
  unfolding IsRun
  history = run

  free : IsFreeHistory script (reverse journal)
  free = free_history script (reverse journal) history

  -- a message that was sent is in the wire's ranges
  pub in_range : (entry place : ℕ) (m : Message) → output_at (reverse journal) entry place ≡ Some m → IsInRange m
  in_range entry place m at =
      each_in (λ (q : Parcel). IsInRange q.message) (sent (reverse journal)) (parcel entry place m) (sent_in_range script accepted (reverse journal) free)
      (output_sent (reverse journal) entry place m at)

  module _ (it : Item) (pick : IsPickOf script journal it) where
    pub may_come : MayCome script journal it
    may_come =
        let may = pending_may script accepted (reverse journal) free it (in_get (pending script (reverse journal)) (index_next script (reverse journal)) it pick) in
        record { known = may.0; may = may.1 }

    module _ (e : Entry) (actor : e.actor ≡ it.actor) (event : e.event ≡ it.event) (outputs : e.outputs ≡ outputs_in script (reverse journal) it.actor it.event) where
      legal : IsLegal script (reverse journal) e
      legal = pending_legal script accepted (reverse journal) free it (in_get (pending script (reverse journal)) (index_next script (reverse journal)) it pick) e actor event outputs

      pub run_now : IsRun script (journal ++ e ∷ [])
      run_now = run_more script journal e run legal

      same_item : it ≡ item e.actor e.event
      same_item = ap (λ (a : ActorName). item a it.event) (sym actor) ∙ ap (item e.actor) (sym event)

      pub driven_more : IsDriven script journal → IsDriven script (journal ++ e ∷ [])
      driven_more driven = record {
        run = run_now;
        picked = picked_run_more script journal e driven.picked (record { item = pick ∙ ap (λ (x : Item). Some x) same_item; outputs = legal.rules.outputs });
      }

pub falls : (script : Script) → IsAccepted script → (journal after : List Entry) → IsRun script after → IsOneMore journal after → left script (reverse after) < left script (reverse journal)
falls script accepted journal after run more = subst (λ l. left script (reverse l) < left script (reverse journal)) (sym more.1)
    (left_after script accepted journal more.0 (subst (IsRun script) more.1 run))

-- the steps of their own that the actors may make, after one more entry

module _ (script : Script) (journal : List Entry) (e : Entry) (name : ActorName) (known : is_known script name ≡ true) (actor : e.actor ≡ name) where
  abbrev before : ActorName → Option Inner
  before a = enabled (identity_in script a) (acts (reverse journal) a)

  abbrev after : ActorName → Option Inner
  after a = enabled (identity_in script a) (acts (reverse (journal ++ e ∷ [])) a)

  kept : (a : ActorName) → a ≢ name → after a ≡ before a
  kept a apart = ap (enabled (identity_in script a)) (acts_other journal e a (same_name_not e.actor a (λ (q : e.actor ≡ a). apart (sym q ∙ actor))))

  pub next_after : (next : List (Option Inner)) (home : ℕ) (o : Option Inner) → AreNext script journal next → home ≡ place_of script name → o ≡ after name
      → AreNext script (journal ++ e ∷ []) (set next home o)
  next_after next home o are is now = alike (set next home o) (map after (actors_of script)) many each
    where
      as_many : length next ≡ length (actors_of script)
      as_many = ap length are ∙ length-map (actors_of script) before

      many : length (set next home o) ≡ length (map after (actors_of script))
      many = length-set next home o ∙ as_many ∙ sym (length-map (actors_of script) after)

      here : slice_get (actors_of script) home ≡ Some name
      here = ap (slice_get (actors_of script)) is ∙ get_place script name known

      old : slice_get next home ≡ Some (before name)
      old = ap (λ (l : List (Option Inner)). slice_get l home) are ∙ slice_get-map before (actors_of script) home ∙ ap (option_map before) here

      made : (f : ActorName → Option Inner) (k : ℕ) (y : Option Inner) → slice_get (map f (actors_of script)) k ≡ Some y → (a : ActorName) × (slice_get (actors_of script) k ≡ Some a) × (f a ≡ y)
      made f k y at = of (slice_get (actors_of script) k) refl (sym (slice_get-map f (actors_of script) k) ∙ at)
        where
          of : (a : Option ActorName) → slice_get (actors_of script) k ≡ a → option_map f a ≡ Some y → (b : ActorName) × (slice_get (actors_of script) k ≡ Some b) × (f b ≡ y)
          of None p q = absurd cc
          of (Some b) p q = (b, p, let same : f b ≡ y = cc in same)

      each : (k : ℕ) (x y : Option Inner) → slice_get (set next home o) k ≡ Some x → slice_get (map after (actors_of script)) k ≡ Some y → x ≡ y
      each k x y at there =
          let found = made after k y there in
          elim (cases_eq k home) [
            | inl same ↦
                let new : Some x ≡ Some o = sym at ∙ ap (slice_get (set next home o)) same ∙ get_set_same next home o (before name) old in
                let new' : x ≡ o = cc in
                let who : Some found.0 ≡ Some name = sym found.1 ∙ ap (slice_get (actors_of script)) same ∙ here in
                let who' : name ≡ found.0 = cc in
                new' ∙ now ∙ ap after who' ∙ found.2
            | inr apart ↦
                let was : slice_get next k ≡ Some x = sym (get_set_other next home k o apart) ∙ at in
                let earlier = made before k x (sym (ap (λ (l : List (Option Inner)). slice_get l k) are) ∙ was) in
                let who : Some earlier.0 ≡ Some found.0 = sym earlier.1 ∙ found.1 in
                let who' : earlier.0 ≡ found.0 = cc in
                let other : found.0 ≢ name = (λ (q : found.0 ≡ name). apart ((place_get script k found.0 found.1).0 ∙ ap (place_of script) q ∙ sym is)) in
                sym earlier.2 ∙ ap before who' ∙ sym (kept found.0 other) ∙ found.2
          ]

-- before the first entry, and where nothing is pending

pub none_driven : (script : Script) (journal : List Entry) → journal ≡ [] → IsDriven script journal
none_driven script journal e = subst (IsDriven script) (sym e) (record { run = run_none script; picked = picked_run_none script })

pub quiet_where : (script : Script) (journal : List Entry) → pending script (reverse journal) ≡ [] → IsQuiet script journal
unfolding IsQuiet
quiet_where script journal none = none

-- what a delivery is

pub nothing_for : (a : ActorName) (o : Option Message) → IsFor a o → o ≡ None → ⊥
nothing_for a None h e = h
nothing_for a (Some m) h e = absurd cc

pub act_is : (journal : List Entry) (event : Event) (entry place : ℕ) (m : Message) → event ≡ Deliver entry place → output_at (reverse journal) entry place ≡ Some m
    → act_of (reverse journal) event ≡ Some (Took m)
act_is journal event entry place m is at = ap (act_of (reverse journal)) is ∙ ap (option_map Took) at

pub takes : (script : Script) (journal : List Entry) (to : ActorName) (entry place : ℕ) (m : Message) → output_at (reverse journal) entry place ≡ Some m → (outputs : List Message)
    → outputs ≡ outputs_of (identity_in script to) (acts (reverse journal) to) (Took m) → outputs ≡ outputs_in script (reverse journal) to (Deliver entry place)
takes script journal to entry place m at outputs is = is ∙ ap (outputs_by script (reverse journal) to) (sym (act_is journal (Deliver entry place) entry place m refl at))

pub on_ok : {T E P Q : Type 0} (r : Result T E) → (P → Q) → OnOk r P → OnOk r Q
on_ok (Ok x) f h = f h
on_ok (Err e) f h = h
