-- The cells as they are made, from the last actor of the script to the first.
use Rattle.std.proofs.Common.{◌≡◌, ◌≢◌, ◌⊎◌, ℕ, zero, suc, ◌+◌, ◌<◌, ◌≤◌, inl, inr, Bool, true, false, List, [], ◌∷◌, ◌++◌, length, Option, Some, None, refl, sym, ap, subst, ◌∙◌, arith}
use Rattle.std.proofs.lemmas.Bool.{cases_Bool, cases_lt}
use Rattle.std.proofs.lemmas.List.{append-nil, length-append}
use Rattle.std.proofs.lemmas.Option.{slice_get_within}
use Rattle.std.specs.Prelude.{slice_get}
use Rattle.atomic_table.specs.Seated.{TableId}
use Rattle.tp_base.proofs.Each.{each_push}
use Rattle.tp_base.proofs.Ends.{slice_get_left, slice_get_push}
use Rattle.tp_base.proofs.Members.{has_cases, in_left, in_push}
use Rattle.tp_base.proofs.Prefixes.{prefix_self}
use Rattle.tp_base.proofs.SameNames.{same_name_is}
use Rattle.tp_base.specs.Lists.{Each, IsIn, IsPrefixOf, has}
use Rattle.tp_base.specs.Names.{same_name}
use Rattle.tp_base.specs.declared.names.ActorName.{ActorName}
use Rattle.tp_driver.proofs.Stands.{name_of_identity}
use Rattle.tp_driver.specs.Cast.{AllStand}
use Rattle.tp_netbook.proofs.Places.{get_place, place_get}
use Rattle.tp_netbook.specs.Places.{place_of}
use Rattle.tp_rules.specs.Acts.{Act, Identity, name_in}
use Rattle.tp_rules.specs.Journal.{identity_in, is_known}
use Rattle.tp_rules.specs.Pending.{actors_of}
use Rattle.tp_script.specs.declared.script.Script.{Script}
use Rattle.tp_shared.specs.Known.{Known, listed_too, new_desk}
use Rattle.tp_threads.specs.Threads.{HasCells, IsCellAt, IsFirst, IsNew}
use Rattle.tp_worker.specs.Cells.{Worker}

pub some_at : {X : Type 0} (xs : List X) (i : ℕ) → i < length xs → (x : X) × (slice_get xs i ≡ Some x)
some_at [] i lt = absurd (omega arith)
some_at (x ∷ xs) zero lt = (x, refl)
some_at (x ∷ xs) (suc i) lt = some_at xs i (omega arith)

-- the last item of the front of a list
last_at : {X : Type 0} (all left xs : List X) (x : X) → IsPrefixOf left all → left ≡ xs ++ x ∷ [] → slice_get all (length xs) ≡ Some x
last_at all left xs x front is =
    let long : length left ≡ length xs + 1 = ap length is ∙ length-append xs (x ∷ []) in
    ap (λ l. slice_get l (length xs)) (sym front.1)
    ∙ slice_get_left left front.0 (length xs) (omega arith)
    ∙ ap (λ l. slice_get l (length xs)) is ∙ slice_get_push xs x

-- the same front without its last item
pub front_of_left : {X : Type 0} (all left xs : List X) (x : X) → IsPrefixOf left all → left ≡ xs ++ x ∷ [] → IsPrefixOf xs all
front_of_left all left xs x front is =
    (x ∷ front.0, sym (append_one xs x front.0) ∙ ap (λ l. l ++ front.0) (sym is) ∙ front.1)
  where
    append_one : {X : Type 0} (xs : List X) (x : X) (ys : List X) → (xs ++ x ∷ []) ++ ys ≡ xs ++ x ∷ ys
    append_one [] x ys = refl
    append_one (z ∷ xs) x ys = ap (λ l. z ∷ l) (append_one xs x ys)

module _ {A : Type 0} (identity_of : A → Identity) (is_spent : A → Bool) (stands : A → List Act → Type 0) (script : Script) (table : TableId) (all : List A) where
  -- what is so once the actors that are left have no cells yet
  pub record IsUnderWay (left : List A) (first : Known) (cells : List (Worker A)) : Type 0 where
    pub cast : AllStand identity_of is_spent stands script all []
    pub front : IsPrefixOf left all
    pub is_first : IsFirst script table first
    pub none_seen : first.seen ≡ []
    pub at : Each (IsCellAt script table) cells
    pub has_cells : HasCells script (length left) first cells

  pub none_yet : (first : Known) (cells : List (Worker A)) → AllStand identity_of is_spent stands script all [] → IsFirst script table first
      → (first.seen ≡ []) × (first.listed ≡ []) → cells ≡ [] → IsUnderWay all first cells
  none_yet first cells cast is empty none = subst (IsUnderWay all first) (sym none) (record {
    cast = cast;
    front = prefix_self all;
    is_first = is;
    none_seen = empty.0;
    at = tt;
    has_cells = record { listed = λ a l. absurd (nobody a l); found = λ a known from. absurd (beyond a known from) };
  })
    where
      nobody : (a : ActorName) → has same_name a first.listed ≡ true → ⊥
      nobody a l = let none : has same_name a [] ≡ true = subst (λ (xs : List ActorName). has same_name a xs ≡ true) empty.1 l in absurd cc

      beyond : (a : ActorName) → is_known script a ≡ true → length all ≤ place_of script a → ⊥
      beyond a known from =
          let within : place_of script a < length (actors_of script) = slice_get_within (actors_of script) (place_of script a) a (get_place script a known) in
          omega (arith, cast.many)

  module _ (left xs : List A) (a : A) (first : Known) (cells : List (Worker A)) (way : IsUnderWay left first cells) (is : left ≡ xs ++ a ∷ []) where
    long : length left ≡ length xs + 1
    long = ap length is ∙ length-append xs (a ∷ [])

    within : length xs < length (actors_of script)
    within = let at : length xs < length all = slice_get_within all (length xs) a (last_at all left xs a way.front is) in omega (arith, way.cast.many)

    at : (name : ActorName) × (slice_get (actors_of script) (length xs) ≡ Some name)
    at = some_at (actors_of script) (length xs) within

    is_at : (length xs ≡ place_of script at.0) × (is_known script at.0 ≡ true)
    is_at = place_get script (length xs) at.0 at.1

    stands_there : (identity_of a ≡ identity_in script at.0) × (is_spent a ≡ false) × stands a []
    stands_there = way.cast.each (length xs) a at.0 (last_at all left xs a way.front is) at.1

    name_is : name_in (identity_of a) ≡ at.0
    name_is = ap name_in stands_there.0 ∙ name_of_identity script at.0

    -- the next actor is a new one of the script's
    pub is_new : IsNew identity_of is_spent stands script (name_in (identity_of a)) a
    is_new = subst (λ (n : ActorName). IsNew identity_of is_spent stands script n a) (sym name_is)
        (record { known = is_at.1; identity = stands_there.0; unspent = stands_there.1; start = stands_there.2 })

    -- without a desk
    pub is_fresh : has same_name (name_in (identity_of a)) first.listed ≡ false
    is_fresh = elim (cases_Bool (has same_name (name_in (identity_of a)) first.listed)) [
      | inl there ↦
          let named : has same_name at.0 first.listed ≡ true = subst (λ (n : ActorName). has same_name n first.listed ≡ true) name_is there in
          let far = (way.has_cells.listed at.0 named).1 in
          absurd (omega (arith, is_at.0, long, far))
      | inr not ↦ not
    ]

    -- with its cell
    pub one_more : (first' : Known) (cells' : List (Worker A)) (w : Worker A) → first' ≡ listed_too first (name_in (identity_of a))
        → w.desk ≡ new_desk first (name_in (identity_of a)) → cells' ≡ cells ++ w ∷ [] → IsUnderWay xs first' cells'
    one_more first' cells' w now desk more = subst (λ (p : Known × List (Worker A)). IsUnderWay xs p.0 p.1) (λ i. (sym now i, sym more i)) (record {
      cast = way.cast;
      front = front_of_left all left xs a way.front is;
      is_first = record { table = way.is_first.table; script = way.is_first.script; opening = way.is_first.opening; actor = way.is_first.actor; free = way.is_first.free };
      none_seen = way.none_seen;
      at = each_push (IsCellAt script table) cells w way.at here;
      has_cells = record { listed = listed; found = there };
    })
      where
        here : IsCellAt script table w
        here = record {
          table = ap (λ (k : Known). k.table) desk ∙ way.is_first.table;
          script = ap (λ (k : Known). k.opening.script) desk ∙ way.is_first.script;
          opening = ap (λ (k : Known). k.opening.journal) desk ∙ way.is_first.opening;
        }

        listed : (b : ActorName) → has same_name b (name_in (identity_of a) ∷ first.listed) ≡ true → (is_known script b ≡ true) × (length xs ≤ place_of script b)
        listed b h = elim (has_cases same_name b (name_in (identity_of a) ∷ []) first.listed h) [
          | inl now ↦ subst (λ (n : ActorName). (is_known script n ≡ true) × (length xs ≤ place_of script n)) (sym (name_is_one b now)) (is_at.1, omega (arith, is_at.0))
          | inr before ↦ let old = way.has_cells.listed b before in (old.0, omega (arith, old.1, long))
        ]
          where
            name_is_one : (b : ActorName) → has same_name b (name_in (identity_of a) ∷ []) ≡ true → b ≡ at.0
            name_is_one b now = by (same_name b (name_in (identity_of a))) refl now
              where
                by : (c : Bool) → same_name b (name_in (identity_of a)) ≡ c → has same_name b (name_in (identity_of a) ∷ []) ≡ true → b ≡ at.0
                by true e f = same_name_is b (name_in (identity_of a)) e ∙ name_is
                by false e f = absurd (let no : has same_name b (name_in (identity_of a) ∷ []) ≡ false = rw e refl in cc)

        there : (b : ActorName) → is_known script b ≡ true → length xs ≤ place_of script b → (v : Worker A) × IsIn v (cells ++ w ∷ []) × (v.desk.actor ≡ Some b)
        there b known from = elim (cases_lt (length xs) (place_of script b)) [
          | inl later ↦ let old = way.has_cells.found b known (omega (arith, later, long)) in (old.0, in_left cells (w ∷ []) old.0 old.1, old.2)
          | inr most ↦
              let now : place_of script b ≡ length xs = omega (arith, from, most) in
              let same : Some at.0 ≡ Some b = sym at.1 ∙ ap (slice_get (actors_of script)) (sym now) ∙ get_place script b known in
              (w, in_push cells w, ap (λ (k : Known). k.actor) desk ∙ ap (λ (n : ActorName). Some n) name_is ∙ same)
        ]
