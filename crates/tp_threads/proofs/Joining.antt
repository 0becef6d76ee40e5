-- The first desk as the others are joined to it.
use Rattle.std.proofs.Common.{◌≡◌, ◌≢◌, ◌⊎◌, ℕ, ◌≤◌, inl, inr, Bool, true, false, cond, List, [], ◌∷◌, ◌++◌, length, Option, Some, None, refl, sym, ap, subst, ◌∙◌, arith}
use Rattle.std.proofs.lemmas.List.{append-nil}
use Rattle.std.specs.Prelude.{nat_le, reverse}
use Rattle.atomic_table.specs.Seated.{TableId}
use Rattle.tp_base.proofs.Each.{each_in, each_left}
use Rattle.tp_base.proofs.Members.{in_left, in_push, in_push_cases}
use Rattle.tp_base.proofs.Prefixes.{prefix_self, prefix_then}
use Rattle.tp_base.specs.Lists.{Each, IsIn, IsPrefixOf, has}
use Rattle.tp_base.specs.Names.{same_name}
use Rattle.tp_base.specs.declared.names.ActorName.{ActorName}
use Rattle.tp_rules.specs.Acts.{Act, Identity}
use Rattle.tp_rules.specs.declared.event.Entry.{Entry}
use Rattle.tp_script.specs.declared.script.Script.{Script}
use Rattle.tp_shared.specs.Histories.{after, entries_by}
use Rattle.tp_shared.specs.Known.{AllJoined, Known, Whole, joined}
use Rattle.tp_shared.specs.Rule.{KeepsListOf, Made}
use Rattle.tp_shared.specs.Steps.{keeping, longer}
use Rattle.tp_threads.specs.Threads.{HasCells, IsCellAt, IsFirst, IsJoined, IsOneSeen, IsPartOf, JoinsTo}
use Rattle.tp_worker.specs.Cells.{IsCell, NoneSpent, Worker}
use Rattle.tp_worker.specs.declared.cell.CellState.TheVariants.{Spent}

-- one of two lists
longer_one : (xs ys : List Entry) → (longer xs ys ≡ xs) ⊎ (longer xs ys ≡ ys)
longer_one xs ys = by (nat_le (length xs) (length ys))
  where
    by : (b : Bool) → (cond b ys xs ≡ xs) ⊎ (cond b ys xs ≡ ys)
    by true = inr refl
    by false = inl refl

kept_still : (kept : List Made) (actor : Option ActorName) (own : List Entry) (p : Made) → IsIn p kept → IsIn p (keeping kept actor own)
kept_still kept None own p h = h
kept_still kept (Some a) own p h = in_left kept ((a, own) ∷ []) p h

kept_now : (kept : List Made) (actor : Option ActorName) (own : List Entry) (a : ActorName) → actor ≡ Some a → IsIn (a, own) (keeping kept actor own)
kept_now kept actor own a e = subst (λ (o : Option ActorName). IsIn (a, own) (keeping kept o own)) (sym e) (in_push kept (a, own))

module _ {A : Type 0} (identity_of : A → Identity) (is_spent : A → Bool) (stands : A → List Act → Type 0) where
  abbrev Joined : Worker A → Known → Type 0
  Joined w k = IsJoined identity_of is_spent stands w k

  -- the cell whose desk is joined
  pub joined_now : (w : Worker A) (old new : Known) → new ≡ joined old w.desk → IsPrefixOf w.desk.seen new.seen
      → (name : ActorName) × IsCell identity_of is_spent stands name w → Joined w new
  joined_now w old new is seen cell = record {
    name = cell.0;
    cell = cell.1;
    seen = seen;
    own = subst (λ (k : Known). IsIn (cell.0, w.desk.own) k.kept) (sym is) (kept_now old.kept w.desk.actor w.desk.own cell.0 cell.1.desk.actor);
  }

  -- those that were joined before
  joined_still : (v w : Worker A) (old new : Known) → new ≡ joined old w.desk → IsPrefixOf old.seen new.seen → Joined v old → Joined v new
  joined_still v w old new is grows was = record {
    name = was.name;
    cell = was.cell;
    seen = prefix_then v.desk.seen old.seen new.seen was.seen grows;
    own = subst (λ (k : Known). IsIn (was.name, v.desk.own) k.kept) (sym is) (kept_still old.kept w.desk.actor w.desk.own (was.name, v.desk.own) was.own);
  }

  module _ (script : Script) (table : TableId) (all : List (Worker A)) (first : Known) where
    -- what is so while some cells are left
    pub record IsUnderWay (left : List (Worker A)) (now : Known) (spent : Bool) : Type 0 where
      pub is_first : IsFirst script table now
      pub at : Each (IsCellAt script table) left
      pub joins : JoinsTo first now
      pub members : (w : Worker A) → IsIn w left → IsIn w all
      pub joined : (w : Worker A) → IsIn w all → IsIn w left ⊎ Joined w now
      pub one : IsOneSeen first.seen all now.seen
      pub unspent : (w : Worker A) → IsIn w all → spent ≡ false → IsIn w left ⊎ (w.state ≢ Spent)

    pub none_yet : IsFirst script table first → Each (IsCellAt script table) all → IsUnderWay all first false
    none_yet is at = record {
      is_first = is;
      at = at;
      joins = record { table = refl; opening = refl; actor = refl; holds = refl; listed = refl };
      members = λ w h. h;
      joined = λ w h. inl h;
      one = inl refl;
      unspent = λ w h e. inl h;
    }

    module _ (left xs : List (Worker A)) (w : Worker A) (now : Known) (spent : Bool) (way : IsUnderWay left now spent) (is : left ≡ xs ++ w ∷ []) where
      in_old : (v : Worker A) → IsIn v xs → IsIn v left
      in_old v h = subst (λ l. IsIn v l) (sym is) (in_left xs (w ∷ []) v h)

      last_in : IsIn w left
      last_in = subst (λ l. IsIn w l) (sym is) (in_push xs w)

      pub its_table : w.desk.table ≡ table
      its_table = (each_in (IsCellAt script table) left w way.at last_in).table

      pub one_more : (now' : Known) (spent' its : Bool) → now' ≡ joined now w.desk → IsPrefixOf now.seen now'.seen → Joined w now' → (its ≡ false → w.state ≢ Spent)
          → (spent' ≡ false → (spent ≡ false) × (its ≡ false)) → IsUnderWay xs now' spent'
      one_more now' spent' its after grows its_joined unspent both = record {
        is_first = subst (IsFirst script table) (sym after) (record { table = way.is_first.table; script = way.is_first.script; opening = way.is_first.opening; actor = way.is_first.actor; free = way.is_first.free });
        at = each_left (IsCellAt script table) xs (w ∷ []) (subst (Each (IsCellAt script table)) is way.at);
        joins = subst (JoinsTo first) (sym after) (record { table = way.joins.table; opening = way.joins.opening; actor = way.joins.actor; holds = way.joins.holds; listed = way.joins.listed });
        members = λ v h. way.members v (in_old v h);
        joined = joined_all;
        one = one;
        unspent = unspent_all;
      }
        where
          among : (v : Worker A) → IsIn v left → IsIn v xs ⊎ (v ≡ w)
          among v h = in_push_cases xs w v (subst (λ l. IsIn v l) is h)

          joined_all : (v : Worker A) → IsIn v all → IsIn v xs ⊎ Joined v now'
          joined_all v h = elim (way.joined v h) [
            | inl there ↦ elim (among v there) [
              | inl still ↦ inl still
              | inr same ↦ inr (subst (λ (u : Worker A). Joined u now') (sym same) its_joined)
            ]
            | inr was ↦ inr (joined_still v w now now' after grows was)
          ]

          unspent_all : (v : Worker A) → IsIn v all → spent' ≡ false → IsIn v xs ⊎ (v.state ≢ Spent)
          unspent_all v h e = elim (way.unspent v h (both e).0) [
            | inl there ↦ elim (among v there) [
              | inl still ↦ inl still
              | inr same ↦ inr (subst (λ (u : Worker A). u.state ≢ Spent) (sym same) (unspent (both e).1))
            ]
            | inr was ↦ inr was
          ]

          one : IsOneSeen first.seen all now'.seen
          one = elim (longer_one now.seen w.desk.seen) [
            | inl old ↦ subst (IsOneSeen first.seen all) (sym (ap (λ (k : Known). k.seen) after ∙ old)) way.one
            | inr new ↦ inr (w, way.members w last_in, ap (λ (k : Known). k.seen) after ∙ new)
          ]

    -- once no cell is left

    module _ (left : List (Worker A)) (now : Known) (spent : Bool) (way : IsUnderWay left now spent) (empty : left ≡ []) where
      none_left : (w : Worker A) → IsIn w left → ⊥
      none_left w h = subst (λ l. IsIn w l) empty h

      pub each_joined : (w : Worker A) → IsIn w all → Joined w now
      each_joined w h = elim (way.joined w h) [
        | inl there ↦ absurd (none_left w there)
        | inr was ↦ was
      ]

      pub all_joined : HasCells script 0 first all → AllJoined now
      all_joined has_cells a listed =
          let before : has same_name a first.listed ≡ true = subst (λ l. has same_name a l ≡ true) way.joins.listed listed in
          let of = has_cells.found a (has_cells.listed a before).0 (omega arith) in
          let was = each_joined of.0 of.1 in
          let same : Some was.name ≡ Some a = sym was.cell.desk.actor ∙ of.2 in
          (of.0.desk.own, subst (λ (n : ActorName). IsIn (n, of.0.desk.own) now.kept) (some_is same) was.own)
        where
          some_is : {a b : ActorName} → Some a ≡ Some b → a ≡ b
          some_is e = cc

      pub none_spent : spent ≡ false → NoneSpent all
      none_spent e w h = elim (way.unspent w h e) [
        | inl there ↦ absurd (none_left w there)
        | inr not ↦ not
      ]

  -- in the closed journal
  pub is_part : (w : Worker A) (k held : Known) (journal : List Entry) → Joined w k → held.kept ≡ k.kept → held.opening.journal ≡ [] → k.seen ≡ journal
      → Whole held journal → (name : ActorName) × IsCell identity_of is_spent stands name w × IsPartOf w name journal
  is_part w k held journal was kept opening seen whole = (
    was.name,
    was.cell,
    record {
      seen = subst (IsPrefixOf w.desk.seen) seen was.seen;
      own = whole.own (was.name, w.desk.own) (subst (λ l. IsIn (was.name, w.desk.own) l) (sym kept) was.own) ∙ all_behind;
    },
  )
    where
      all_behind : entries_by was.name (after held.opening.journal journal) ≡ entries_by was.name journal
      all_behind = rw opening refl
