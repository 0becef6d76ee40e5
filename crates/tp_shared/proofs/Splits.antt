-- A desk is split off the first. Used by the step of that name.
use Rattle.std.proofs.Common.{◌≡◌, ◌≢◌, ◌⊎◌, ℕ, zero, suc, inl, inr, true, false, List, [], ◌∷◌, ◌++◌, Some, None, length, set, refl, sym, ap, subst, ◌∙◌}
use Rattle.std.proofs.lemmas.Bool.{cases_Bool}
use native.Mathlib.Decide.{ℕ_discrete}
use mathlib.Core.Logic.{dite}
use mathlib.Core.Option.{some, some-injective, some-ne-none}
use lib.ListN.{get_elem?}
use Rattle.atomic_table.specs.Table.{State, Splits}
use Rattle.atomic_table.proofs.Lists.{at_last, at_longer, at_set, set_else}
use Rattle.tp_base.proofs.Members.{has_cases, has_head, has_in, has_right, in_one}
use Rattle.tp_base.proofs.SameNames.{same_name_is, same_name_refl}
use Rattle.tp_base.specs.Lists.{has}
use Rattle.tp_base.specs.Names.{same_name}
use Rattle.tp_base.specs.declared.names.ActorName.{ActorName}
use Rattle.tp_rules.specs.declared.event.Entry.{Entry}
use Rattle.tp_shared.specs.Histories.{after, entries_by}
use Rattle.tp_shared.specs.Rule.{Crowd, Fits, Holds, Slot, StandsFor, Tells}
use Rattle.tp_shared.specs.Steps.{listing, newcomer}
use Rattle.tp_shared.specs.declared.view.Start.{Start}
use Rattle.tp_shared.specs.declared.view.View.{View}
use Rattle.tp_shared.proofs.Crowds.{set_at}

-- what stands in a list with one more at its end
at_snoc_place : {X : Type 0} (l : List X) (x y : X) (j : ℕ) → get_elem? (l ++ x ∷ []) j ≡ some y → (get_elem? l j ≡ some y) ⊎ ((j ≡ length l) × (x ≡ y))
at_snoc_place [] x y zero e = inr (refl, some-injective x y e)
at_snoc_place [] x y (suc j) e = absurd (some-ne-none y (sym e))
at_snoc_place (z ∷ l) x y zero e = inl e
at_snoc_place (z ∷ l) x y (suc j) e = elim (at_snoc_place l x y j e) [ inl h ↦ inl h | inr h ↦ inr ((λ i. suc (h.0 i)), h.1) ]

has_back : (a b : ActorName) (l : List ActorName) → has same_name b (a ∷ l) ≡ false → has same_name b l ≡ false
has_back a b l h = elim (cases_Bool (has same_name b l)) [
  | inl t ↦ let yes : has same_name b (a ∷ l) ≡ true = has_right same_name b (a ∷ []) l t in absurd cc
  | inr f ↦ f
]

module _ (opening : Start) (v : View) (a : ActorName) (lives : v.spent ≡ false) (waits : v.holds ≡ false) (free : v.actor ≡ None)
    (fresh : has same_name a v.listed ≡ false) where
  abbrev left : View
  left = listing a v

  abbrev right : View
  right = newcomer a v

  fits_left : (journal : List Entry) → Fits opening journal v → Fits opening journal left
  fits_left journal fits = record {
    same = fits.same;
    prefix = fits.prefix;
    now = longer_list journal fits.now;
    known = longer_list v.seen fits.known;
    heard = fits.heard;
    apart = fits.apart;
  }
    where
      longer_list : (xs : List Entry) → Tells opening xs v.actor v.own v.listed v.kept → Tells opening xs v.actor v.own (a ∷ v.listed) v.kept
      longer_list xs t = record {
        begins = t.begins;
        run = t.run;
        own_is = t.own_is;
        kept_is = t.kept_is;
        kept_none = t.kept_none;
        strangers = λ e b h. t.strangers e b (has_back a b v.listed h);
      }

  fits_right : (journal : List Entry) → Fits opening journal v → Fits opening journal right
  fits_right journal fits = record {
    same = fits.same;
    prefix = fits.prefix;
    now = nothing_yet journal fits.now;
    known = nothing_yet v.seen fits.known;
    heard = λ xs h. absurd h;
    apart = tt;
  }
    where
      nothing_yet : (xs : List Entry) → Tells opening xs v.actor v.own v.listed v.kept → Tells opening xs (Some a) [] [] []
      nothing_yet xs t = record {
        begins = t.begins;
        run = t.run;
        own_is = λ b e.
            let same : a ≡ b = cc in
            sym (subst (λ (c : ActorName). entries_by c (after opening.journal xs) ≡ []) same (t.strangers free a fresh));
        kept_is = λ p h. absurd h;
        kept_none = λ b e. refl;
        strangers = λ e b h. absurd cc;
      }

  module _ (journal : List Entry) (views : List View) (crowd : Crowd opening journal views) (there : get_elem? views 0 ≡ some v) where
    abbrev split_views : List View
    split_views = set views 0 left ++ right ∷ []

    is_first : v ≡ crowd.first
    is_first = some-injective v crowd.first (sym there ∙ crowd.first_there)

    -- where a view comes from
    abbrev Old : ℕ → View → Type 0
    Old j u = (x : View) × (get_elem? views j ≡ some x) × (x.spent ≡ false) × (u.holds ≡ x.holds) × (u.actor ≡ x.actor) × ((b : ActorName) → StandsFor u b → StandsFor x b)

    abbrev New : ℕ → View → Type 0
    New j u = (j ≡ length (set views 0 left)) × (right ≡ u)

    came : (j : ℕ) (u : View) → get_elem? split_views j ≡ some u → u.spent ≡ false → Old j u ⊎ New j u
    came j u e live = elim (at_snoc_place (set views 0 left) right u j e) [
      | inr new ↦ inr new
      | inl old ↦ elim (at_set views 0 j left u old) [
        | inr other ↦ inl (u, other.1, live, refl, refl, (λ b h. h))
        | inl here ↦
            inl (
              v,
              subst (λ (k : ℕ). get_elem? views k ≡ some v) (sym here.0) there,
              lives,
              ap (λ (x : View). x.holds) (sym here.1),
              ap (λ (x : View). x.actor) (sym here.1),
              (λ b h. subst (λ (x : View). StandsFor x b) (sym here.1) h),
            )
      ]
    ]

    new_name : (b : ActorName) → StandsFor right b → a ≡ b
    new_name b (inl e) = cc
    new_name b (inr h) = absurd h.1

    -- no desk stood for the new actor
    unknown : (j : ℕ) (x : View) → get_elem? views j ≡ some x → x.spent ≡ false → StandsFor x a → ⊥
    unknown j x e live h =
        let listed : has same_name a crowd.first.listed ≡ true = crowd.listed j x a e live h in
        let not : has same_name a crowd.first.listed ≡ false = ap (λ (u : View). has same_name a u.listed) (sym is_first) ∙ fresh in
        absurd cc

    strange : (i j : ℕ) (u x : View) (b : ActorName) → Old i u → New j x → StandsFor u b → StandsFor x b → ⊥
    strange i j u x b old new h k =
        let same : a ≡ b = new_name b (subst (λ (y : View). StandsFor y b) (sym new.1) k) in
        unknown i old.0 old.1 old.2 (old.5 a (subst (λ (c : ActorName). StandsFor u c) (sym same) h))

    stay : (j : ℕ) (u : View) → j ≢ 0 → get_elem? views j ≡ some u → get_elem? split_views j ≡ some u
    stay j u apart e = at_longer (set views 0 left) (right ∷ []) j u (set_else views 0 j left apart ∙ e)

    first_stays : get_elem? split_views 0 ≡ some left
    first_stays = at_longer (set views 0 left) (right ∷ []) 0 left (set_at views 0 v left there)

    covered : (b : ActorName) → has same_name b (a ∷ v.listed) ≡ true
        → (i : ℕ) × (u : View) × (get_elem? split_views i ≡ some u) × (u.spent ≡ false) × StandsFor u b
    covered b h = elim (has_cases same_name b (a ∷ []) v.listed h) [
      | inl here ↦
          let same : b ≡ a = in_one b a (has_in same_name same_name_is b (a ∷ []) here) in
          (length (set views 0 left), right, at_last (set views 0 left) right (length (set views 0 left)) refl, refl, inl (λ i. Some (sym same i)))
      | inr old ↦
          let found = crowd.covers b (subst (λ (u : View). has same_name b u.listed ≡ true) is_first old) in
          dite (ℕ_discrete found.0 0)
          (λ (zeroth : found.0 ≡ 0).
          let same : found.1 ≡ v = some-injective found.1 v (sym found.2 ∙ ap (get_elem? views) zeroth ∙ there) in
          (0, left, first_stays, lives, subst (λ (u : View). StandsFor u b) same found.4))
          (λ (apart : found.0 ≢ 0). (found.0, found.1, stay found.0 found.1 apart found.2, found.3, found.4))
    ]

    crowd_split : Crowd opening journal split_views
    crowd_split = record {
      each = λ j u e live. elim (at_snoc_place (set views 0 left) right u j e) [
        | inr new ↦ subst (Fits opening journal) new.1 (fits_right journal (crowd.each 0 v there lives))
        | inl old ↦ elim (at_set views 0 j left u old) [
          | inl here ↦ subst (Fits opening journal) here.1 (fits_left journal (crowd.each 0 v there lives))
          | inr other ↦ crowd.each j u other.1 live
        ]
      ];
      first = left;
      first_there = first_stays;
      first_lives = lives;
      first_free = free;
      only = λ j u e live none. elim (came j u e live) [
        | inl old ↦ crowd.only j old.0 old.1 old.2 (sym old.4 ∙ none)
        | inr new ↦ let named : Some a ≡ None = ap (λ (x : View). x.actor) new.1 ∙ none in absurd cc
      ];
      apart = λ i j u x b e f live liveʹ h k. elim (came i u e live) [
        | inl old ↦ elim (came j x f liveʹ) [
          | inl oldʹ ↦ crowd.apart i j old.0 oldʹ.0 b old.1 oldʹ.1 old.2 oldʹ.2 (old.5 b h) (oldʹ.5 b k)
          | inr newʹ ↦ absurd (strange i j u x b old newʹ h k)
        ]
        | inr new ↦ elim (came j x f liveʹ) [
          | inl oldʹ ↦ absurd (strange j i x u b oldʹ new k h)
          | inr newʹ ↦ new.0 ∙ sym newʹ.0
        ]
      ];
      listed = λ j u b e live h. elim (came j u e live) [
        | inl old ↦
            has_right same_name b (a ∷ []) v.listed (subst (λ (x : View). has same_name b x.listed ≡ true) (sym is_first) (crowd.listed j old.0 b old.1 old.2 (old.5 b h)))
        | inr new ↦
            let same : a ≡ b = new_name b (subst (λ (y : View). StandsFor y b) (sym new.1) h) in
            subst (λ (c : ActorName). has same_name c (a ∷ v.listed) ≡ true) same (has_head same_name a v.listed (same_name_refl a))
      ];
      covers = covered;
    }

  cuts_first : (s : State Slot View) → Holds opening s → get_elem? s.views 0 ≡ some v
      → Holds opening (record { words = s.words; homes = s.homes; views = set s.views 0 left ++ right ∷ [] })
  cuts_first s (journal, kept) there = (
    journal,
    record {
      turn = elim kept.turn [
        | inl still ↦ inl (record {
          words = still.words;
          homes = still.homes;
          nobody = λ j u e live. elim (came journal s.views kept.crowd there j u e live) [
            | inl old ↦ old.3 ∙ still.nobody j old.0 old.1 old.2
            | inr new ↦ ap (λ (x : View). x.holds) (sym new.1)
          ];
        })
        | inr taken ↦
            let away : taken.place ≢ 0 = (λ zeroth.
            let same : taken.holder ≡ v = some-injective taken.holder v (sym taken.there ∙ ap (get_elem? s.views) zeroth ∙ there) in
            let not : taken.holder.holds ≡ false = ap (λ (x : View). x.holds) same ∙ waits in
            let has_it : taken.holder.holds ≡ true = taken.holds in
            absurd cc) in
            inr (record {
              words = taken.words;
              homes = taken.homes;
              place = taken.place;
              holder = taken.holder;
              there = stay journal s.views kept.crowd there taken.place taken.holder away taken.there;
              lives = taken.lives;
              holds = taken.holds;
              seen = taken.seen;
              alone = λ j u e live has_it. elim (came journal s.views kept.crowd there j u e live) [
                | inl old ↦ taken.alone j old.0 old.1 old.2 (sym old.3 ∙ has_it)
                | inr new ↦ let not : false ≡ true = ap (λ (x : View). x.holds) new.1 ∙ has_it in absurd cc
              ];
            })
      ];
      crowd = crowd_split journal s.views kept.crowd there;
    },
  )

  pub cuts : (id : ℕ) → Splits (Holds opening) id v (listing a v) (newcomer a v)
  cuts id s holds there =
      let first : id ≡ 0 = holds.1.crowd.only id v there lives free in
      subst (λ (k : ℕ). Holds opening (record { words = s.words; homes = s.homes; views = set s.views k left ++ right ∷ [] })) (sym first)
      (cuts_first s holds (subst (λ (k : ℕ). get_elem? s.views k ≡ some v) first there))
