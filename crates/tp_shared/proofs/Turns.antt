-- The turn is taken, given back, or looked at. Used by the steps on the turn word.
use Rattle.std.proofs.Common.{◌≡◌, ◌≢◌, ℕ, zero, suc, inl, inr, true, false, List, [], ◌∷◌, ◌++◌, Some, None, ◌==◌, length, drop, refl, sym, ap, subst, ◌∙◌}
use Rattle.std.specs.Prelude.{slice_index, slice_set}
use Rattle.std.proofs.Math.Seq.{drop-length}
use Rattle.std.proofs.lemmas.Bool.{cases_Bool, leb-true}
use mathlib.Core.Option.{some, none, some-injective, some-ne-none}
use mathlib.Core.Option as maybe
use prog.Atomic.{either}
use lib.ListN.{get_elem?}
use Rattle.atomic_table.specs.Table.{State, Me, Step, Act, step, keeps, takes, gives, carried_after, Valid, stepped, Allows}
use Rattle.atomic_table.specs.Table.{opening as table_opening}
use Rattle.atomic_table.proofs.Lists.{set_again, at_set}
use Rattle.tp_base.proofs.Prefixes.{prefix_self, prefix_more, prefix_then}
use Rattle.tp_base.specs.Lists.{IsPrefixOf, has}
use Rattle.tp_base.specs.Names.{same_name}
use Rattle.tp_base.specs.declared.names.ActorName.{ActorName}
use Rattle.tp_rules.specs.Runs.{IsRun}
use Rattle.tp_rules.specs.declared.event.Entry.{Entry}
use Rattle.tp_shared.specs.Histories.{entries_by}
use Rattle.tp_shared.specs.Known.{AreBy}
use Rattle.tp_shared.specs.Rule.{Crowd, Fits, Holds, IsFree, IsTaken, Slot, StandsFor, Tells, first_view}
use Rattle.tp_shared.specs.Steps.{Acquires, Looked, Releases, putting, taking}
use Rattle.tp_shared.specs.declared.view.Start.{Start}
use Rattle.tp_shared.specs.declared.view.View.{View}
use Rattle.tp_shared.proofs.Crowds.{Alike, crowd_set, set_at}
use Rattle.tp_shared.proofs.Shown.{others_none, rest_is, shorter_begins, tells_more}

-- what the plays here ignore
abbrev pub mute : Step Slot
mute = step 0 0 0 0 none

-- a step on the turn word, of one state
abbrev Allowed : (State Slot View → Type 0) → ℕ → Me Slot View → (ℕ → ℕ) → (ℕ → Me Slot View → Type 0) → State Slot View → Type 0
Allowed holds id me f then s = (w : View) × (a : Act Slot) × Valid s.homes me.1 a
    × holds (stepped s 0 (f (slice_index s.words 0)) id me.1 w a) × then (slice_index s.words 0) (w, carried_after me.1 a)

-- it is enough to show it of the state with these words and homes
by_parts : (P : State Slot View → Type 0) (s : State Slot View) (words : List ℕ) (homes : List (maybe.Option Slot)) → s.words ≡ words → s.homes ≡ homes
    → P (record { words = words; homes = homes; views = s.views }) → P s
by_parts P s words homes e f h =
    subst (λ (p : List ℕ × List (maybe.Option Slot)). P (record { words = p.0; homes = p.1; views = s.views })) (λ i. (sym e i, sym f i)) h

-- the turn

module _ (opening : Start) (slots id : ℕ) (v : View) (lives : v.spent ≡ false) (waits : v.holds ≡ false) where
  wins : (journal : List Entry) (s : State Slot View) → IsFree journal s → Crowd opening journal s.views → get_elem? s.views id ≡ some v
      → Allowed (Holds opening) id (v, []) (λ n. either (n == 0) 1 n) (Acquires mute (v, [])) s
  wins journal s free crowd there =
      let fits : Fits opening journal v = crowd.each id v there lives in
      let w : View = taking v journal in
      let alike : Alike v w = record { lives = lives; actor = refl; kept = refl; listed = refl } in
      let fitted : Fits opening journal w = record {
        same = fits.same;
        prefix = prefix_self journal;
        now = fits.now;
        known = fits.now;
        heard = fits.heard;
        apart = fits.apart;
      } in
      let shows : Tells v.opening journal v.actor v.own v.listed v.kept = subst (λ (o : Start). Tells o journal v.actor v.own v.listed v.kept) (sym fits.same) fits.now in
      by_parts (Allowed (Holds opening) id (v, []) (λ n. either (n == 0) 1 n) (Acquires mute (v, []))) s (0 ∷ []) (some (Some journal) ∷ []) free.words free.homes (
        w,
        takes 0 (Some journal),
        refl,
        (
          journal,
          record {
            turn = inr (record {
              words = refl;
              homes = refl;
              place = id;
              holder = w;
              there = set_at s.views id v w there;
              lives = lives;
              holds = refl;
              seen = refl;
              alone = λ j u e live has. elim (at_set s.views id j w u e) [
                | inl here ↦ here.0
                | inr other ↦ let not : u.holds ≡ false = free.nobody j u other.1 live in absurd cc
              ];
            });
            crowd = crowd_set s.views id v w there lives alike opening journal journal crowd fitted (λ j u apart e live. crowd.each j u e live);
          },
        ),
        (refl, record { grows = fits.prefix; shows = shows }),
      )

  waits_on : (journal : List Entry) (s : State Slot View) → IsTaken journal s → Crowd opening journal s.views → get_elem? s.views id ≡ some v
      → Allowed (Holds opening) id (v, []) (λ n. either (n == 0) 1 n) (Acquires mute (v, [])) s
  waits_on journal s taken crowd there =
      let keeps_on : Holds opening (record { words = 1 ∷ []; homes = none ∷ []; views = s.views }) = (
        journal,
        record {
          turn = inr (record {
            words = refl;
            homes = refl;
            place = taken.place;
            holder = taken.holder;
            there = taken.there;
            lives = taken.lives;
            holds = taken.holds;
            seen = taken.seen;
            alone = taken.alone;
          });
          crowd = crowd;
        },
      ) in
      by_parts (Allowed (Holds opening) id (v, []) (λ n. either (n == 0) 1 n) (Acquires mute (v, []))) s (1 ∷ []) (none ∷ []) taken.words taken.homes (
        v,
        keeps,
        tt,
        subst (λ (l : List View). Holds opening (record { words = 1 ∷ []; homes = none ∷ []; views = l })) (sym (set_again s.views id v there)) keeps_on,
        refl,
      )

  acquires_here : Allows (Holds opening) slots id (v, []) 0 (λ n. either (n == 0) 1 n) (Acquires mute (v, []))
  acquires_here s (journal, kept) long there small = elim kept.turn [
    | inl free ↦ wins journal s free kept.crowd there
    | inr taken ↦ waits_on journal s taken kept.crowd there
  ]

pub acquires : (opening : Start) (slots id : ℕ) (me : Me Slot View) → me.0.spent ≡ false → me.0.holds ≡ false → me.1 ≡ []
    → Allows (Holds opening) slots id me 0 (λ n. either (n == 0) 1 n) (Acquires mute me)
acquires opening slots id me lives waits nothing =
    subst (λ (l : List (ℕ × Slot)). Allows (Holds opening) slots id (me.0, l) 0 (λ n. either (n == 0) 1 n) (Acquires mute (me.0, l))) (sym nothing)
    (acquires_here opening slots id me.0 lives waits)

-- a desk sees entries of others

fits_more : (opening : Start) (xs more : List Entry) (u : View) → Fits opening xs u → IsRun opening.script (xs ++ more)
    → ((a : ActorName) → StandsFor u a → entries_by a more ≡ [])
    → (u.actor ≡ None → (a : ActorName) → has same_name a u.listed ≡ false → entries_by a more ≡ [])
    → Fits opening (xs ++ more) u
fits_more opening xs more u fits run mine strange = record {
  same = fits.same;
  prefix = prefix_more u.seen xs more fits.prefix;
  now = tells_more opening xs more u.actor u.own u.listed u.kept fits.now run (λ a e. mine a (inl e)) (λ p h. mine p.0 (inr (p.1, h))) strange;
  known = fits.known;
  heard = λ ys h. prefix_more ys xs more (fits.heard ys h);
  apart = fits.apart;
}

-- the turn is given back

module _ (opening : Start) (slots id : ℕ) (v : View) (journal : List Entry) (lives : v.spent ≡ false) (has_it : v.holds ≡ true)
    (grows : IsPrefixOf v.seen journal) (own : AreBy v.actor (drop (length v.seen) journal))
    (shows : Tells v.opening journal v.actor (v.own ++ drop (length v.seen) journal) v.listed v.kept) where
  more : List Entry
  more = drop (length v.seen) journal

  whole : v.seen ++ drop (length v.seen) journal ≡ journal
  whole = rest_is v.seen journal grows

  abbrev put_back : List (ℕ × Slot)
  put_back = (0, Some journal) ∷ []

  gives_back : (before : List Entry) (s : State Slot View) → IsTaken before s → Crowd opening before s.views → get_elem? s.views id ≡ some v
      → Allowed (Holds opening) id (v, put_back) (λ _. 0) (λ _. Releases mute (v, put_back) 0) s
  gives_back before s taken crowd there =
      let mine : id ≡ taken.place = taken.alone id v there lives has_it in
      let same : taken.holder ≡ v =
      some-injective taken.holder v (sym taken.there ∙ subst (λ (k : ℕ). get_elem? s.views k ≡ some v) mine there) in
      let seen : v.seen ≡ before = ap (λ (u : View). u.seen) (sym same) ∙ taken.seen in
      let fits : Fits opening before v = crowd.each id v there lives in
      let shown : Tells opening journal v.actor (v.own ++ drop (length v.seen) journal) v.listed v.kept =
      subst (λ (o : Start). Tells o journal v.actor (v.own ++ drop (length v.seen) journal) v.listed v.kept) fits.same shows in
      let run : IsRun opening.script (v.seen ++ drop (length v.seen) journal) = subst (IsRun opening.script) (sym whole) shown.run in
      let longer : IsPrefixOf before journal = subst (λ (l : List Entry). IsPrefixOf l journal) seen grows in
      let w : View = putting v journal in
      let alike : Alike v w = record { lives = lives; actor = refl; kept = refl; listed = refl } in
      let fitted : Fits opening journal w = record {
        same = fits.same;
        prefix = prefix_self journal;
        now = shown;
        known = shown;
        heard = λ xs h. prefix_then xs before journal (fits.heard xs h) longer;
        apart = fits.apart;
      } in
      let others : (j : ℕ) (u : View) → j ≢ id → get_elem? s.views j ≡ some u → u.spent ≡ false → Fits opening journal u = λ j u apart e live.
      let none : (a : ActorName) → StandsFor u a → entries_by a (drop (length v.seen) journal) ≡ [] = λ a stands.
      others_none v.actor a (drop (length v.seen) journal) own (λ is. apart (sym (crowd.apart id j v u a there e lives live (inl is) stands))) in
      let strange : u.actor ≡ None → (a : ActorName) → has same_name a u.listed ≡ false → entries_by a (drop (length v.seen) journal) ≡ [] = λ free a unlisted.
      let zeroth : j ≡ 0 = crowd.only j u e live free in
      let first : u ≡ crowd.first = some-injective u crowd.first (sym e ∙ ap (get_elem? s.views) zeroth ∙ crowd.first_there) in
      others_none v.actor a (drop (length v.seen) journal) own (λ is.
      let listed : has same_name a crowd.first.listed ≡ true = crowd.listed id v a there lives (inl is) in
      let again : has same_name a crowd.first.listed ≡ false = ap (λ (x : View). has same_name a x.listed) (sym first) ∙ unlisted in
      absurd cc) in
      let old : Fits opening v.seen u = subst (λ (l : List Entry). Fits opening l u) (sym seen) (crowd.each j u e live) in
      subst (λ (l : List Entry). Fits opening l u) whole (fits_more opening v.seen (drop (length v.seen) journal) u old run none strange) in
      by_parts (Allowed (Holds opening) id (v, put_back) (λ _. 0) (λ _. Releases mute (v, put_back) 0)) s (1 ∷ []) (none ∷ []) taken.words taken.homes (
        w,
        gives,
        tt,
        (
          journal,
          record {
            turn = inl (record {
              words = refl;
              homes = refl;
              nobody = λ j u e live. elim (at_set s.views id j w u e) [
                | inl here ↦ ap (λ (x : View). x.holds) (sym here.1)
                | inr other ↦ elim (cases_Bool u.holds) [
                  | inl t ↦ absurd (other.0 (taken.alone j u other.1 live t ∙ sym mine))
                  | inr f ↦ f
                ]
              ];
            });
            crowd = crowd_set s.views id v w there lives alike opening before journal crowd fitted others;
          },
        ),
        refl,
      )

  releases_here : Allows (Holds opening) slots id (v, put_back) 0 (λ _. 0) (λ _. Releases mute (v, put_back) 0)
  releases_here s (before, kept) long there small = elim kept.turn [
    | inl free ↦ let not : v.holds ≡ false = free.nobody id v there lives in absurd cc
    | inr taken ↦ gives_back before s taken kept.crowd there
  ]

pub releases : (opening : Start) (slots id : ℕ) (me : Me Slot View) (journal : List Entry) → me.1 ≡ (0, Some journal) ∷ []
    → me.0.spent ≡ false → me.0.holds ≡ true → IsPrefixOf me.0.seen journal → AreBy me.0.actor (drop (length me.0.seen) journal)
    → Tells me.0.opening journal me.0.actor (me.0.own ++ drop (length me.0.seen) journal) me.0.listed me.0.kept
    → Allows (Holds opening) slots id me 0 (λ _. 0) (λ _. Releases mute me 0)
releases opening slots id me journal slot lives has_it grows own shows =
    subst (λ (l : List (ℕ × Slot)). Allows (Holds opening) slots id (me.0, l) 0 (λ _. 0) (λ _. Releases mute (me.0, l) 0)) (sym slot)
    (releases_here opening slots id me.0 journal lives has_it grows own shows)

-- a look

set_first : (ns : List ℕ) → slice_set ns 0 (slice_index ns 0) ≡ ns
set_first [] = refl
set_first (n ∷ ns) = refl

pub looks : (opening : Start) (slots id : ℕ) (me : Me Slot View) → me.0.spent ≡ false → Allows (Holds opening) slots id me 0 (λ n. n) (Looked mute me)
looks opening slots id me lives s (journal, kept) long there small =
    let v : View = me.0 in
    let fits : Fits opening journal v = kept.crowd.each id v there lives in (
      v,
      keeps,
      tt,
      subst (λ (p : List ℕ × List View). Holds opening (record { words = p.0; homes = s.homes; views = p.1 }))
          (λ i. (sym (set_first s.words) i, sym (set_again s.views id v there) i)) (journal, kept),
      (
        refl,
        record {
          shows = subst (λ (o : Start). Tells o v.seen v.actor v.own v.listed v.kept) (sym fits.same) fits.known;
          heard = λ xs h le. shorter_begins xs v.seen journal (fits.heard xs h) fits.prefix (leb-true (length xs) (length v.seen) le);
        },
      ),
    )

-- the journal is opened

only_one : {X : Type 0} (x y : X) (i : ℕ) → get_elem? (x ∷ []) i ≡ some y → (i ≡ 0) × (x ≡ y)
only_one x y zero e = (refl, some-injective x y e)
only_one x y (suc i) e = absurd (some-ne-none y (sym e))

pub opens : (opening : Start) → IsRun opening.script opening.journal → Holds opening (table_opening (0 ∷ []) (Some opening.journal ∷ []) (first_view opening))
opens opening run =
    let v : View = first_view opening in
    let told : Tells opening opening.journal None [] [] [] = record {
      begins = prefix_self opening.journal;
      run = run;
      own_is = λ a e. absurd cc;
      kept_is = λ p h. absurd h;
      kept_none = λ a e. refl;
      strangers = λ e a h. ap (entries_by a) (drop-length opening.journal);
    } in
    let fits : Fits opening opening.journal v = record {
      same = refl;
      prefix = prefix_self opening.journal;
      now = told;
      known = told;
      heard = λ xs h. absurd h;
      apart = tt;
    } in
    let nobody : (u : View) (a : ActorName) → v ≡ u → StandsFor u a → ⊥ = λ u a same stands.
    elim (subst (λ (x : View). StandsFor x a) (sym same) stands) [ inl e ↦ absurd cc | inr h ↦ h.1 ] in (
      opening.journal,
      record {
        turn = inl (record {
          words = refl;
          homes = refl;
          nobody = λ i u e live. ap (λ (x : View). x.holds) (sym (only_one v u i e).1);
        });
        crowd = record {
          each = λ i u e live. subst (Fits opening opening.journal) (only_one v u i e).1 fits;
          first = v;
          first_there = refl;
          first_lives = refl;
          first_free = refl;
          only = λ i u e live free. (only_one v u i e).0;
          apart = λ i j u x a e f live liveʹ h k. (only_one v u i e).0 ∙ sym (only_one v x j f).0;
          listed = λ i u a e live h. absurd (nobody u a (only_one v u i e).1 h);
          covers = λ a h. absurd cc;
        };
      },
    )

pub acquires_as : (opening : Start) (slots id : ℕ) (me was : Me Slot View) → me ≡ was → was.0.spent ≡ false → was.0.holds ≡ false → was.1 ≡ []
    → Allows (Holds opening) slots id me 0 (λ n. either (n == 0) 1 n) (Acquires mute me)
acquires_as opening slots id me was same lives waits nothing =
    subst (λ (m : Me Slot View). Allows (Holds opening) slots id m 0 (λ n. either (n == 0) 1 n) (Acquires mute m)) (sym same)
    (acquires opening slots id was lives waits nothing)

pub looks_as : (opening : Start) (slots id : ℕ) (me was : Me Slot View) → me ≡ was → was.0.spent ≡ false
    → Allows (Holds opening) slots id me 0 (λ n. n) (Looked mute me)
looks_as opening slots id me was same lives =
    subst (λ (m : Me Slot View). Allows (Holds opening) slots id m 0 (λ n. n) (Looked mute m)) (sym same) (looks opening slots id was lives)
