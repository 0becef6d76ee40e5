-- The desks' views as one of them changes, and what the rule tells of one desk. Used by each step on the turn word.
use Rattle.std.proofs.Common.{◌≡◌, ◌≢◌, ℕ, zero, suc, inl, inr, true, false, List, [], ◌∷◌, set, refl, sym, subst, ◌∙◌}
use mathlib.Core.Option.{some, some-injective}
use native.Mathlib.Decide.{ℕ_discrete}
use mathlib.Core.Logic.{dite}
use lib.ListN.{get_elem?}
use Rattle.atomic_table.proofs.Lists.{at_set, set_else}
use Rattle.tp_base.specs.Lists.{has}
use Rattle.tp_base.specs.Names.{same_name}
use Rattle.tp_base.specs.declared.names.ActorName.{ActorName}
use Rattle.tp_rules.specs.declared.event.Entry.{Entry}
use Rattle.tp_shared.specs.Rule.{Crowd, Fits, KeepsListOf, Made, StandsFor}
use Rattle.tp_shared.specs.declared.view.Start.{Start}
use Rattle.tp_shared.specs.declared.view.View.{View}

-- both are of one actor, and know of the same others
pub record Alike (v w : View) : Type 0 where
  pub lives : w.spent ≡ false
  pub actor : w.actor ≡ v.actor
  pub kept : w.kept ≡ v.kept
  pub listed : w.listed ≡ v.listed

pub alike_self : (v : View) → v.spent ≡ false → Alike v v
alike_self v lives = record { lives = lives; actor = refl; kept = refl; listed = refl }

pub stands_back : (v w : View) (a : ActorName) → Alike v w → StandsFor w a → StandsFor v a
stands_back v w a alike (inl e) = inl (sym alike.actor ∙ e)
stands_back v w a alike (inr h) = inr (subst (λ (l : List Made). KeepsListOf l a) alike.kept h)

pub stands_still : (v w : View) (a : ActorName) → Alike v w → StandsFor v a → StandsFor w a
stands_still v w a alike (inl e) = inl (alike.actor ∙ e)
stands_still v w a alike (inr h) = inr (subst (λ (l : List Made). KeepsListOf l a) (sym alike.kept) h)

-- there is something at a place that was set
pub set_at : {X : Type 0} (l : List X) (i : ℕ) (x y : X) → get_elem? l i ≡ some x → get_elem? (set l i y) i ≡ some y
set_at [] i x y e = absurd cc
set_at (z ∷ l) zero x y e = refl
set_at (z ∷ l) (suc i) x y e = set_at l i x y e

module _ (views : List View) (id : ℕ) (v w : View) (there : get_elem? views id ≡ some v) (lives : v.spent ≡ false) (alike : Alike v w) where
  -- each view was there before, or one like it
  pub was : (j : ℕ) (u : View) → get_elem? (set views id w) j ≡ some u → u.spent ≡ false →
      (x : View) × (get_elem? views j ≡ some x) × (x.spent ≡ false) × Alike x u
  was j u e live = elim (at_set views id j w u e) [
    | inl here ↦ (v, subst (λ (k : ℕ). get_elem? views k ≡ some v) (sym here.0) there, lives, subst (Alike v) here.1 alike)
    | inr other ↦ (u, other.1, live, alike_self u live)
  ]

  -- and each that was there before is there, or one like it
  pub is_there : (j : ℕ) (u : View) → get_elem? views j ≡ some u → u.spent ≡ false →
      (x : View) × (get_elem? (set views id w) j ≡ some x) × (x.spent ≡ false) × Alike u x
  is_there j u e live = dite (ℕ_discrete j id)
      (λ (here : j ≡ id).
      let same : v ≡ u = some-injective v u (sym there ∙ subst (λ (k : ℕ). get_elem? views k ≡ some u) here e) in
      (w, subst (λ (k : ℕ). get_elem? (set views id w) k ≡ some w) (sym here) (set_at views id v w there), alike.lives, subst (λ (x : View). Alike x w) same alike))
      (λ (apart : j ≢ id). (u, set_else views id j w apart ∙ e, live, alike_self u live))

  -- one desk's view changes, and the journal may grow
  pub crowd_set : (opening : Start) (before journal : List Entry) → Crowd opening before views → Fits opening journal w
      → ((j : ℕ) (u : View) → j ≢ id → get_elem? views j ≡ some u → u.spent ≡ false → Fits opening journal u) → Crowd opening journal (set views id w)
  crowd_set opening before journal crowd fits others =
      let first = is_there 0 crowd.first crowd.first_there crowd.first_lives in
      let lists : first.0.listed ≡ crowd.first.listed = first.3.listed in
      record {
        each = λ j u e live. elim (at_set views id j w u e) [
          | inl here ↦ subst (Fits opening journal) here.1 fits
          | inr other ↦ others j u other.0 other.1 live
        ];
        first = first.0;
        first_there = first.1;
        first_lives = first.2;
        first_free = first.3.actor ∙ crowd.first_free;
        only = λ j u e live free. let old = was j u e live in crowd.only j old.0 old.1 old.2 (sym old.3.actor ∙ free);
        apart = λ i j u x a e f live liveʹ h k.
            let one = was i u e live in
            let two = was j x f liveʹ in
            crowd.apart i j one.0 two.0 a one.1 two.1 one.2 two.2 (stands_back one.0 u a one.3 h) (stands_back two.0 x a two.3 k);
        listed = λ j u a e live h.
            let old = was j u e live in
            subst (λ (l : List ActorName). has same_name a l ≡ true) (sym lists) (crowd.listed j old.0 a old.1 old.2 (stands_back old.0 u a old.3 h));
        covers = λ a h.
            let old = crowd.covers a (subst (λ (l : List ActorName). has same_name a l ≡ true) lists h) in
            let new = is_there old.0 old.1 old.2 old.3 in
            (old.0, new.0, new.1, new.2, stands_still old.1 new.0 a new.3 old.4);
      }
