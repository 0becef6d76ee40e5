-- A desk is joined to the first. Used by the step of that name, and by the call.
use Rattle.std.proofs.Common.{◌≡◌, ◌≢◌, ◌⊎◌, ◌≤◌, ℕ, inl, inr, true, false, not, List, [], ◌∷◌, ◌++◌, Option, Some, None, length, set, nat_le, refl, sym, ap, subst, ◌∙◌, arith}
use Rattle.std.proofs.lemmas.Bool.{cond_both, leb-true, leb-false}
use native.Mathlib.Decide.{ℕ_discrete}
use mathlib.Core.Logic.{dite}
use mathlib.Core.Option.{some, some-injective}
use lib.ListN.{get_elem?}
use Rattle.atomic_table.specs.Table.{State, Joins}
use Rattle.atomic_table.proofs.Lists.{at_set, set_else}
use Rattle.tp_base.proofs.Each.{each_of}
use Rattle.tp_base.proofs.Members.{in_left, in_push, in_push_cases}
use Rattle.tp_base.proofs.Orders.{ascends_push}
use Rattle.tp_base.proofs.Prefixes.{prefix_self}
use Rattle.tp_base.proofs.SameNames.{same_name_not}
use Rattle.tp_base.specs.Lists.{IsIn, IsPrefixOf, has}
use Rattle.tp_base.specs.Names.{same_name}
use Rattle.tp_base.specs.declared.names.ActorName.{ActorName}
use Rattle.tp_rules.specs.Runs.{IsRun}
use Rattle.tp_rules.specs.declared.event.Entry.{Entry}
use Rattle.tp_shared.specs.Histories.{after, entries_by}
use Rattle.tp_shared.specs.Rule.{Crowd, Fits, Holds, Made, Slot, StandsFor}
use Rattle.tp_shared.specs.Steps.{both, gone, keeping, longer}
use Rattle.tp_shared.specs.declared.view.Start.{Start}
use Rattle.tp_shared.specs.declared.view.View.{View}
use Rattle.tp_shared.proofs.Crowds.{set_at}
use Rattle.tp_shared.proofs.Shown.{by_between, by_nothing, shorter_begins}

-- the longer of two lists is one of them
pub longer_is : (P : List Entry → Type 0) (xs ys : List Entry) → (length xs ≤ length ys → P ys) → (length ys ≤ length xs → P xs) → P (longer xs ys)
longer_is P xs ys second first =
    cond_both (nat_le (length xs) (length ys)) ys xs P
    (λ t. second (leb-true (length xs) (length ys) t))
    (λ f. let lt = leb-false (length xs) (length ys) f in first (omega arith))

module _ (opening : Start) (v w : View) (lives : v.spent ≡ false) (livesʹ : w.spent ≡ false) (waits : v.holds ≡ false) (waitsʹ : w.holds ≡ false)
    (free : v.actor ≡ None) (b : ActorName) (named : w.actor ≡ Some b) where
  abbrev kept_too : List Made
  kept_too = v.kept ++ (b, w.own) ∷ []

  kept_is_both : keeping v.kept w.actor w.own ≡ kept_too
  kept_is_both = ap (λ (o : Option ActorName). keeping v.kept o w.own) named

  -- the first desk, with what the other knew
  abbrev one : View
  one = record { actor = v.actor; own = v.own; seen = longer v.seen w.seen; holds = v.holds; spent = v.spent; listed = v.listed; kept = kept_too; heard = v.seen ∷ w.seen ∷ v.heard; opening = v.opening }

  one_is : one ≡ both v w
  one_is = ap (λ (l : List Made). record { actor = v.actor; own = v.own; seen = longer v.seen w.seen; holds = v.holds; spent = v.spent; listed = v.listed; kept = l; heard = v.seen ∷ w.seen ∷ v.heard; opening = v.opening }) (sym kept_is_both)

  record Between (journal xs : List Entry) : Type 0 where
    below : IsPrefixOf xs journal
    first : IsPrefixOf v.seen xs
    second : IsPrefixOf w.seen xs
    begins : IsPrefixOf opening.journal xs
    run : IsRun opening.script xs

  between : (journal : List Entry) → Fits opening journal v → Fits opening journal w → Between journal (longer v.seen w.seen)
  between journal fits fitsʹ = longer_is (Between journal) v.seen w.seen
      (λ le. record { below = fitsʹ.prefix; first = shorter_begins v.seen w.seen journal fits.prefix fitsʹ.prefix le; second = prefix_self w.seen; begins = fitsʹ.known.begins; run = fitsʹ.known.run })
      (λ le. record { below = fits.prefix; first = prefix_self v.seen; second = shorter_begins w.seen v.seen journal fitsʹ.prefix fits.prefix le; begins = fits.known.begins; run = fits.known.run })

  fits_one : (journal : List Entry) → Fits opening journal v → Fits opening journal w → ((p : Made) → IsIn p v.kept → p.0 ≢ b) → Fits opening journal one
  fits_one journal fits fitsʹ new =
      let mid = between journal fits fitsʹ in
      record {
        same = fits.same;
        prefix = mid.below;
        now = record {
          begins = fits.now.begins;
          run = fits.now.run;
          own_is = fits.now.own_is;
          kept_is = λ p h. elim (in_push_cases v.kept (b, w.own) p h) [
            | inl old ↦ fits.now.kept_is p old
            | inr is ↦ subst (λ (q : Made). q.1 ≡ entries_by q.0 (after opening.journal journal)) (sym is) (fitsʹ.now.own_is b named)
          ];
          kept_none = λ a e. absurd (let wrong : None ≡ Some a = sym free ∙ e in cc);
          strangers = fits.now.strangers;
        };
        known = record {
          begins = mid.begins;
          run = mid.run;
          own_is = λ a e. absurd (let wrong : None ≡ Some a = sym free ∙ e in cc);
          kept_is = λ p h. elim (in_push_cases v.kept (b, w.own) p h) [
            | inl old ↦
                fits.now.kept_is p old ∙ sym (by_between p.0 opening.journal v.seen (longer v.seen w.seen) journal fits.known.begins mid.first mid.below
                (sym (fits.known.kept_is p old) ∙ fits.now.kept_is p old))
            | inr is ↦
                subst (λ (q : Made). q.1 ≡ entries_by q.0 (after opening.journal (longer v.seen w.seen))) (sym is)
                (fitsʹ.now.own_is b named ∙ sym (by_between b opening.journal w.seen (longer v.seen w.seen) journal fitsʹ.known.begins mid.second mid.below
                (sym (fitsʹ.known.own_is b named) ∙ fitsʹ.now.own_is b named)))
          ];
          kept_none = λ a e. absurd (let wrong : None ≡ Some a = sym free ∙ e in cc);
          strangers = λ e a h. by_nothing a opening.journal (longer v.seen w.seen) journal mid.begins mid.below (fits.now.strangers e a h);
        };
        heard = λ xs h. elim h [
          | inl is ↦ subst (λ (l : List Entry). IsPrefixOf l journal) (sym is) fits.prefix
          | inr rest ↦ elim rest [
            | inl is ↦ subst (λ (l : List Entry). IsPrefixOf l journal) (sym is) fitsʹ.prefix
            | inr old ↦ fits.heard xs old
          ]
        ];
        apart = ascends_push (λ (p q : Made). not (same_name p.0 q.0)) v.kept (b, w.own) fits.apart
            (each_of (λ (p : Made). not (same_name p.0 b) ≡ true) v.kept (λ p h. ap not (same_name_not p.0 b (new p h))));
      }

  module _ (other : ℕ) (apart : other ≢ 0) (journal : List Entry) (views : List View) (crowd : Crowd opening journal views) (there : get_elem? views 0 ≡ some v)
      (thereʹ : get_elem? views other ≡ some w) where
    abbrev joined_views : List View
    joined_views = set (set views 0 one) other gone

    is_first : v ≡ crowd.first
    is_first = some-injective v crowd.first (sym there ∙ crowd.first_there)

    abbrev Old : ℕ → View → Type 0
    Old j u = (j ≢ 0) × (j ≢ other) × (get_elem? views j ≡ some u)

    came : (j : ℕ) (u : View) → get_elem? joined_views j ≡ some u → u.spent ≡ false → ((j ≡ 0) × (one ≡ u)) ⊎ Old j u
    came j u e live = elim (at_set (set views 0 one) other j gone u e) [
      | inl here ↦ let wrong : true ≡ false = ap (λ (x : View). x.spent) here.1 ∙ live in absurd cc
      | inr far ↦ elim (at_set views 0 j one u far.1) [
        | inl here ↦ inl here
        | inr old ↦ inr (old.0, far.0, old.1)
      ]
    ]

    stay : (j : ℕ) (u : View) → j ≢ 0 → j ≢ other → get_elem? views j ≡ some u → get_elem? joined_views j ≡ some u
    stay j u far away e = set_else (set views 0 one) other j gone away ∙ set_else views 0 j one far ∙ e

    first_stays : get_elem? joined_views 0 ≡ some one
    first_stays = set_else (set views 0 one) other 0 gone (λ e. apart (sym e)) ∙ set_at views 0 v one there

    -- for whom the joined desk stands
    stood : (a : ActorName) → StandsFor one a → StandsFor v a ⊎ StandsFor w a
    stood a (inl e) = inl (inl e)
    stood a (inr h) = elim (in_push_cases v.kept (b, w.own) (a, h.0) h.1) [
      | inl old ↦ inl (inr (h.0, old))
      | inr is ↦ inr (inl (named ∙ (λ i. Some (sym is i).0)))
    ]

    stands_first : (a : ActorName) → StandsFor v a → StandsFor one a
    stands_first a (inl e) = inl e
    stands_first a (inr h) = inr (h.0, in_left v.kept ((b, w.own) ∷ []) (a, h.0) h.1)

    stands_other : (a : ActorName) → StandsFor w a → StandsFor one a
    stands_other a (inl e) =
        let same : b ≡ a = cc in
        subst (λ (c : ActorName). StandsFor one c) same (inr (w.own, in_push v.kept (b, w.own)))
    stands_other a (inr h) =
        let nobody : w.kept ≡ [] = (crowd.each other w thereʹ livesʹ).now.kept_none b named in
        absurd (subst (λ (l : List Made). IsIn (a, h.0) l) nobody h.1)

    alone : (j : ℕ) (u : View) (a : ActorName) → Old j u → u.spent ≡ false → StandsFor one a → StandsFor u a → ⊥
    alone j u a old live h k = elim (stood a h) [
      | inl mine ↦ old.0 (sym (crowd.apart 0 j v u a there old.2 lives live mine k))
      | inr its ↦ old.1 (sym (crowd.apart other j w u a thereʹ old.2 livesʹ live its k))
    ]

    new_kept : (p : Made) → IsIn p v.kept → p.0 ≢ b
    new_kept p h same = apart (sym (crowd.apart 0 other v w b there thereʹ lives livesʹ (inr (subst (λ (c : ActorName). (own : List Entry) × IsIn (c, own) v.kept) same (p.1, h))) (inl named)))

    covered : (a : ActorName) → has same_name a v.listed ≡ true
        → (i : ℕ) × (u : View) × (get_elem? joined_views i ≡ some u) × (u.spent ≡ false) × StandsFor u a
    covered a h =
        let found = crowd.covers a (subst (λ (u : View). has same_name a u.listed ≡ true) is_first h) in
        dite (ℕ_discrete found.0 0)
        (λ (zeroth : found.0 ≡ 0).
        let same : found.1 ≡ v = some-injective found.1 v (sym found.2 ∙ ap (get_elem? views) zeroth ∙ there) in
        (0, one, first_stays, lives, stands_first a (subst (λ (u : View). StandsFor u a) same found.4)))
        (λ (far : found.0 ≢ 0). dite (ℕ_discrete found.0 other)
        (λ (here : found.0 ≡ other).
        let same : found.1 ≡ w = some-injective found.1 w (sym found.2 ∙ ap (get_elem? views) here ∙ thereʹ) in
        (0, one, first_stays, lives, stands_other a (subst (λ (u : View). StandsFor u a) same found.4)))
        (λ (away : found.0 ≢ other). (found.0, found.1, stay found.0 found.1 far away found.2, found.3, found.4)))

    crowd_joined : Crowd opening journal joined_views
    crowd_joined = record {
      each = λ j u e live. elim (came j u e live) [
        | inl here ↦ subst (Fits opening journal) here.1 (fits_one journal (crowd.each 0 v there lives) (crowd.each other w thereʹ livesʹ) new_kept)
        | inr old ↦ crowd.each j u old.2 live
      ];
      first = one;
      first_there = first_stays;
      first_lives = lives;
      first_free = free;
      only = λ j u e live none. elim (came j u e live) [ inl here ↦ here.0 | inr old ↦ crowd.only j u old.2 live none ];
      apart = λ i j u x a e f live liveʹ h k. elim (came i u e live) [
        | inl here ↦ elim (came j x f liveʹ) [
          | inl hereʹ ↦ here.0 ∙ sym hereʹ.0
          | inr oldʹ ↦ absurd (alone j x a oldʹ liveʹ (subst (λ (y : View). StandsFor y a) (sym here.1) h) k)
        ]
        | inr old ↦ elim (came j x f liveʹ) [
          | inl hereʹ ↦ absurd (alone i u a old live (subst (λ (y : View). StandsFor y a) (sym hereʹ.1) k) h)
          | inr oldʹ ↦ crowd.apart i j u x a old.2 oldʹ.2 live liveʹ h k
        ]
      ];
      listed = λ j u a e live h. subst (λ (x : View). has same_name a x.listed ≡ true) (sym is_first) (elim (came j u e live) [
        | inl here ↦ elim (stood a (subst (λ (y : View). StandsFor y a) (sym here.1) h)) [
          | inl mine ↦ crowd.listed 0 v a there lives mine
          | inr its ↦ crowd.listed other w a thereʹ livesʹ its
        ]
        | inr old ↦ crowd.listed j u a old.2 live h
      ]);
      covers = covered;
    }

  joins_first : (other : ℕ) → other ≢ 0 → (s : State Slot View) → Holds opening s → get_elem? s.views 0 ≡ some v → get_elem? s.views other ≡ some w
      → Holds opening (record { words = s.words; homes = s.homes; views = set (set s.views 0 one) other gone })
  joins_first other apart s (journal, kept) there thereʹ = (
    journal,
    record {
      turn = elim kept.turn [
        | inl still ↦ inl (record {
          words = still.words;
          homes = still.homes;
          nobody = λ j u e live. elim (came other apart journal s.views kept.crowd there thereʹ j u e live) [
            | inl here ↦ ap (λ (x : View). x.holds) (sym here.1) ∙ waits
            | inr old ↦ still.nobody j u old.2 live
          ];
        })
        | inr taken ↦
            let not_at : (i : ℕ) (x : View) → get_elem? s.views i ≡ some x → x.holds ≡ false → taken.place ≢ i = (λ i x e waiting at.
            let same : taken.holder ≡ x = some-injective taken.holder x (sym taken.there ∙ ap (get_elem? s.views) at ∙ e) in
            let no : taken.holder.holds ≡ false = ap (λ (y : View). y.holds) same ∙ waiting in
            let has_it : taken.holder.holds ≡ true = taken.holds in
            absurd cc) in
            inr (record {
              words = taken.words;
              homes = taken.homes;
              place = taken.place;
              holder = taken.holder;
              there = stay other apart journal s.views kept.crowd there thereʹ taken.place taken.holder (not_at 0 v there waits) (not_at other w thereʹ waitsʹ) taken.there;
              lives = taken.lives;
              holds = taken.holds;
              seen = taken.seen;
              alone = λ j u e live has_it. elim (came other apart journal s.views kept.crowd there thereʹ j u e live) [
                | inl here ↦ let no : u.holds ≡ false = ap (λ (x : View). x.holds) (sym here.1) ∙ waits in absurd cc
                | inr old ↦ taken.alone j u old.2 live has_it
              ];
            })
      ];
      crowd = crowd_joined other apart journal s.views kept.crowd there thereʹ;
    },
  )

-- a desk that isn't the first has an actor
named_by : (o : Option ActorName) → (o ≡ None → ⊥) → (b : ActorName) × (o ≡ Some b)
named_by None h = absurd (h refl)
named_by (Some b) h = (b, refl)

pub glues : (opening : Start) (id other : ℕ) (v w : View) → v.spent ≡ false → w.spent ≡ false → v.holds ≡ false → w.holds ≡ false → v.actor ≡ None
    → Joins (Holds opening) id v other w (both v w) gone
glues opening id other v w lives livesʹ waits waitsʹ free s holds there apart thereʹ =
    let first : id ≡ 0 = holds.1.crowd.only id v there lives free in
    let old : get_elem? s.views other ≡ some w = elim (at_set s.views id other (both v w) w thereʹ) [
      | inl here ↦ absurd (apart here.0)
      | inr far ↦ far.1
    ] in
    let name = named_by w.actor (λ none. apart (holds.1.crowd.only other w old livesʹ none ∙ sym first)) in
    let away : other ≢ 0 = (λ e. apart (e ∙ sym first)) in
    subst (λ (p : ℕ × View). Holds opening (record { words = s.words; homes = s.homes; views = set (set s.views p.0 p.1) other gone }))
    (λ i. (sym first i, one_is opening v w lives livesʹ waits waitsʹ free name.0 name.1 i))
    (joins_first opening v w lives livesʹ waits waitsʹ free name.0 name.1 other away s holds (subst (λ (k : ℕ). get_elem? s.views k ≡ some v) first there) old)
