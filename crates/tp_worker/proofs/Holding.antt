-- A cell's desk and inbox as the desk sees more, as the inbox is given it, and as the actor's entry is made. Used where a cell
-- listens and where it offers.
use Rattle.std.proofs.Common.{◌≡◌, ◌+◌, ◌*◌, ◌<◌, ◌≤◌, ◌^◌, ℕ, inl, inr, true, false, List, [], ◌∷◌, ◌++◌, Option, Some, None, drop, length, reverse, take, refl, sym, ap, subst, ◌∙◌, length-append, take_all, arith}
use Rattle.std.specs.Prelude.{IfNone}
use Rattle.std.proofs.Math.Seq.{drop-append_seam}
use Rattle.std.proofs.lemmas.Bool.{cases_lt}
use Rattle.std.proofs.lemmas.List.{length-reverse, take-append-le}
use Rattle.tp_base.proofs.Prefixes.{prefix_more, prefix_self}
use Rattle.tp_base.specs.Lists.{Ascends, IsPrefixOf}
use Rattle.tp_base.specs.Names.{same_name}
use Rattle.tp_base.specs.declared.names.ActorName.{ActorName}
use Rattle.tp_netbook.specs.Inbox.{HasDone, HasNoneLeft, IsInbox, MayBeDone, StandsIn, Takes, elsewhere, next_event, sent_to}
use Rattle.tp_netbook.specs.Inbox.{entries_by as told_of}
use Rattle.tp_netbook.specs.declared.inbox.Inbox.{Inbox}
use Rattle.tp_rules.proofs.lists.Tallies.{filter_length}
use Rattle.tp_rules.specs.Journal.{acts, identity_in, is_live}
use Rattle.tp_rules.specs.Rules.{enabled}
use Rattle.tp_rules.specs.Runs.{IsRun}
use Rattle.tp_rules.specs.declared.event.Entry.{Entry}
use Rattle.tp_rules.specs.declared.event.Event.{Event}
use Rattle.tp_rules.specs.declared.event.Parcel.{Parcel}
use Rattle.tp_script.specs.declared.script.Script.{Script}
use Rattle.tp_shared.proofs.Addressed.{none_behind}
use Rattle.tp_shared.proofs.Shown.{by_append, prefix_short}
use Rattle.tp_shared.specs.Fetched.{parcels_for}
use Rattle.tp_shared.specs.Histories.{MayFollow, after, crash_of, entries_by}
use Rattle.tp_shared.specs.Known.{Known, Told, crash_in, entered, entry_of, holding, name_of, released}
use Rattle.tp_wire.specs.declared.message.Message.{Message}
use Rattle.tp_worker.proofs.Since.{enters_later, fetched_all, sent_apart, told_next, told_stays}
use Rattle.tp_worker.proofs.Steps.{idle}
use Rattle.tp_worker.specs.Cells.{IsDeskOf, IsIdle, with_more}
use Rattle.tp_worker.specs.Posts.{HasEntered, HasWorked, IsPost, given}
use Rattle.tp_worker.specs.declared.post.Post.{Post}

-- the actor's entries are its desk's, since the opening journal has none
pub own_all : (a : ActorName) (opening xs : List Entry) → IsPrefixOf opening xs → entries_by a opening ≡ [] → entries_by a (after opening xs) ≡ entries_by a xs
own_all a opening xs begins none =
    ap (λ (l : List Entry). entries_by a (drop (length opening) l)) (sym begins.1)
    ∙ ap (entries_by a) (drop-append_seam opening begins.0)
    ∙ ap (λ (l : List Entry). l ++ entries_by a begins.0) (sym none)
    ∙ sym (by_append a opening begins.0)
    ∙ ap (entries_by a) begins.1

-- the name of a desk's actor
pub named : (a : ActorName) (o : Option ActorName) → o ≡ Some a → name_of o ≡ a
named a o e = ap name_of e

take_still : {X : Type 0} (n : ℕ) (xs ys : List X) → IsPrefixOf xs ys → n ≤ length xs → take n ys ≡ take n xs
take_still n xs ys grows within = ap (take n) (sym grows.1) ∙ take-append-le n xs grows.0 within

-- a desk that made nothing and has seen more
pub desk_still : (a : ActorName) (old new : Known) → IsDeskOf a old → new ≡ with_more old new.own new.seen → IsDeskOf a new
desk_still a old new is e = subst (IsDeskOf a) (sym e) (record { accepted = is.accepted; known = is.known; actor = is.actor; free = is.free; opening = is.opening })

own_at : (a : ActorName) (k : Known) → k.actor ≡ Some a → entries_by a k.opening.journal ≡ [] → Told k → k.own ≡ entries_by a k.seen
own_at a k actor opening told = told.own_is a actor ∙ own_all a k.opening.journal k.seen told.begins opening

pub own_told : (a : ActorName) (k : Known) → IsDeskOf a k → Told k → k.own ≡ entries_by a k.seen
own_told a k is told = own_at a k is.actor is.opening told

module _ (a : ActorName) (p q : Post) (post : IsPost a p) (grows : IsPrefixOf p.desk.seen q.desk.seen) (told : Told q.desk)
    (same : q.desk ≡ with_more p.desk q.desk.own q.desk.seen) (fetched : q.fetched ≡ p.fetched) where
  is_desk : IsDeskOf a q.desk
  is_desk = desk_still a p.desk q.desk post.desk same

  within : q.fetched ≤ length q.desk.seen
  within = let short = prefix_short p.desk.seen q.desk.seen grows in omega (arith, short, fetched, post.fetched)

  was_given : given a q.desk q.fetched ≡ given a p.desk p.fetched
  was_given =
      ap (given a q.desk) fetched
      ∙ ap (λ (l : List Entry). sent_to a (reverse l)) (take_still p.fetched p.desk.seen q.desk.seen grows post.fetched)

  few : length (given a q.desk q.fetched) ≤ q.fetched * 2 ^ 63
  few = subst (λ (n : ℕ). length (given a q.desk q.fetched) ≤ n * 2 ^ 63) (sym fetched) (subst (λ (l : List Parcel). length l ≤ p.fetched * 2 ^ 63) (sym was_given) post.few)

  script_is : q.desk.opening.script ≡ p.desk.opening.script
  script_is = ap (λ (k : Known). k.opening.script) same

  abbrev Stands : List Entry → Inbox → Type 0
  Stands own inbox = IsInbox q.desk.opening.script a (given a q.desk q.fetched) own inbox

  moved : (own : List Entry) (inbox : Inbox) → IsInbox p.desk.opening.script a (given a p.desk p.fetched) own inbox → Stands own inbox
  moved own inbox h = subst (λ (s : Script × List Parcel). IsInbox s.0 a s.1 own inbox) (λ i. (sym script_is i, sym was_given i)) h

  -- while others enter
  pub post_still : q.desk.own ≡ p.desk.own → q.made ≡ p.made → q.inbox ≡ p.inbox → IsPost a q
  post_still own made inbox =
      let others : entries_by a q.desk.seen ≡ entries_by a p.desk.seen = sym (own_told a q.desk is_desk told) ∙ own ∙ post.own in
      record {
        desk = is_desk;
        run = told.run;
        own = own_told a q.desk is_desk told;
        fetched = within;
        made = made ∙ post.made ∙ ap length (sym own);
        inbox = subst (Stands (told_of a (reverse q.desk.seen))) (sym inbox)
            (subst (λ (l : List Entry). Stands l p.inbox) (sym (told_stays a p.desk.seen q.desk.seen grows others)) (moved (told_of a (reverse p.desk.seen)) p.inbox post.inbox));
        few = few;
      }

  -- and when its own entry stands behind what others entered
  pub post_next : (between : List Entry) (e : Entry) → IsPrefixOf p.desk.seen between → entries_by a between ≡ entries_by a p.desk.seen → q.desk.seen ≡ between ++ e ∷ []
      → e.actor ≡ a → q.desk.own ≡ p.desk.own ++ e ∷ [] → q.made ≡ p.made + 1 → length q.desk.seen < 2 ^ 64 → p.fetched ≡ length p.desk.seen
      → MayBeDone e.event (next_event p.desk.opening.script a (sent_to a (reverse p.desk.seen)) (told_of a (reverse p.desk.seen)))
      → HasDone e.event p.inbox q.inbox → IsPost a q
  post_next between e early others seen is own made short all may done =
      let all_given : given a p.desk p.fetched ≡ sent_to a (reverse p.desk.seen) =
      ap (λ (l : List Entry). sent_to a (reverse l)) (ap (λ (n : ℕ). take n p.desk.seen) all ∙ take_all (length p.desk.seen) p.desk.seen (omega arith)) in
      let now : told_of a (reverse q.desk.seen) ≡ e ∷ told_of a (reverse p.desk.seen) =
      ap (λ (l : List Entry). told_of a (reverse l)) seen ∙ told_next a between e is ∙ ap (λ (l : List Entry). e ∷ l) (told_stays a p.desk.seen between early others) in
      let few_own : length (told_of a (reverse p.desk.seen)) + 1 < 2 ^ 64 =
      (let filtered = filter_length (λ (x : Entry). same_name x.actor a) (reverse p.desk.seen) in
      let reversed = length-reverse p.desk.seen in
      let before = prefix_short p.desk.seen between early in
      let long : length q.desk.seen ≡ length between + 1 = ap length seen ∙ length-append between (e ∷ []) in
      omega (arith, filtered, reversed, before, long, short)) in
      let next : IsInbox p.desk.opening.script a (given a p.desk p.fetched) (e ∷ told_of a (reverse p.desk.seen)) q.inbox =
      done p.desk.opening.script a (given a p.desk p.fetched) (told_of a (reverse p.desk.seen)) e post.inbox is refl
      (subst (λ (l : List Parcel). MayBeDone e.event (next_event p.desk.opening.script a l (told_of a (reverse p.desk.seen)))) (sym all_given) may) few_own in
      record {
        desk = is_desk;
        run = told.run;
        own = own_told a q.desk is_desk told;
        fetched = within;
        made = made ∙ ap (λ (n : ℕ). n + 1) post.made ∙ sym (ap length own ∙ length-append p.desk.own (e ∷ []));
        inbox = subst (λ (l : List Entry). Stands l q.inbox) (sym now) (moved (e ∷ told_of a (reverse p.desk.seen)) q.inbox next);
        few = few;
      }

-- the inbox is given what was fetched

pub post_given : (a : ActorName) (p q : Post) (parcels : List Parcel) → IsPost a p → parcels ≡ parcels_for a p.fetched p.desk.seen → length parcels < 2 ^ 63
    → q.desk ≡ p.desk → q.made ≡ p.made → q.fetched ≡ length p.desk.seen → length p.desk.seen < 2 ^ 64 → Takes parcels p.inbox q.inbox → IsPost a q
post_given a p q parcels post is many same made all short takes = record {
  desk = subst (IsDeskOf a) (sym same) post.desk;
  run = subst (λ (k : Known). IsRun k.opening.script k.seen) (sym same) post.run;
  own = subst (λ (k : Known). k.own ≡ entries_by a k.seen) (sym same) post.own;
  fetched = subst (λ (k : Known). q.fetched ≤ length k.seen) (sym same) (omega (arith, all));
  made = made ∙ post.made ∙ ap (λ (k : Known). length k.own) (sym same);
  inbox = subst (λ (k : Known). IsInbox k.opening.script a (given a k q.fetched) (told_of a (reverse k.seen)) q.inbox) (sym same)
      (subst (λ (l : List Parcel). IsInbox p.desk.opening.script a l (told_of a (reverse p.desk.seen)) q.inbox) (whole ∙ sym now_given) next);
  few = subst (λ (k : Known). length (given a k q.fetched) ≤ q.fetched * 2 ^ 63) (sym same)
      (subst (λ (n : ℕ). length (given a p.desk q.fetched) ≤ n * 2 ^ 63) (sym all) (subst (λ (l : List Parcel). length l ≤ length p.desk.seen * 2 ^ 63) (sym now_given) bound));
}
  where
    whole : given a p.desk p.fetched ++ parcels ≡ sent_to a (reverse p.desk.seen)
    whole = ap (λ (l : List Parcel). given a p.desk p.fetched ++ l) is ∙ fetched_all a p.fetched p.desk.seen p.desk.seen (prefix_self p.desk.seen) post.fetched

    now_given : given a p.desk q.fetched ≡ sent_to a (reverse p.desk.seen)
    now_given = ap (λ (l : List Entry). sent_to a (reverse l)) (take_all q.fetched p.desk.seen (omega (arith, all)))

    both : length (sent_to a (reverse p.desk.seen)) ≡ length (given a p.desk p.fetched) + length parcels
    both = ap length (sym whole) ∙ length-append (given a p.desk p.fetched) parcels

    -- nothing was fetched where nothing was entered since
    nothing : length p.desk.seen ≤ p.fetched → length parcels ≡ 0
    nothing past =
        let none : parcels_for a p.fetched p.desk.seen ≡ [] =
        subst (λ (l : List Entry). parcels_for a p.fetched l ≡ []) (take_all p.fetched p.desk.seen past) (none_behind a p.fetched p.desk.seen) in
        ap length (is ∙ none)

    bound : length (sent_to a (reverse p.desk.seen)) ≤ length p.desk.seen * 2 ^ 63
    bound = elim (cases_lt p.fetched (length p.desk.seen)) [
      | inl before ↦ omega (arith, both, post.few, many, before)
      | inr past ↦ let none = nothing past in omega (arith, both, post.few, none, past, post.fetched)
    ]

    next : IsInbox p.desk.opening.script a (given a p.desk p.fetched ++ parcels) (told_of a (reverse p.desk.seen)) q.inbox
    next = takes p.desk.opening.script a (given a p.desk p.fetched) (told_of a (reverse p.desk.seen)) post.inbox
        (subst (Ascends elsewhere) (sym whole) (sent_apart a (reverse p.desk.seen))) (omega (arith, both, bound, short))

-- all that the desk has seen was fetched

pub stands_in : (a : ActorName) (p : Post) → IsPost a p → p.fetched ≡ length p.desk.seen → StandsIn p.desk.opening.script p.desk.seen a p.inbox
stands_in a p post all = subst (λ (l : List Parcel). IsInbox p.desk.opening.script a l (told_of a (reverse p.desk.seen)) p.inbox)
    (ap (λ (l : List Entry). sent_to a (reverse l)) (take_all p.fetched p.desk.seen (omega (arith, all)))) post.inbox

pub idle_desk : (a : ActorName) (k : Known) → IsDeskOf a k → IsRun k.opening.script k.seen → enabled (identity_in k.opening.script a) (acts (reverse k.seen) a) ≡ None
    → (is_live (reverse k.seen) a ≡ true → HasNoneLeft k.opening.script (reverse k.seen) a) → IsIdle k
idle_desk a k is run still none = λ it h same.
    idle k.opening.script is.accepted k.seen run a still none it h (let its : Some a ≡ Some it.actor = sym is.actor ∙ same in let name : a ≡ it.actor = cc in sym name)

pub none_where : {X P : Type 0} (o : Option X) → P → IfNone o P
none_where None h = h
none_where (Some x) h = tt

-- the turn is taken, with or without an entry, and given back

abbrev turned : Known → List Entry → List Entry → Known
turned k own seen = record { table = k.table; opening = k.opening; actor = k.actor; own = own; seen = seen; holds = true; listed = k.listed; kept = k.kept }

freed : (k q : Known) (own seen : List Entry) → k.holds ≡ false → q ≡ released (turned k own seen) → q ≡ with_more k q.own q.seen
freed k q own seen free e =
    e
    ∙ (λ i. record { table = k.table; opening = k.opening; actor = k.actor; own = own; seen = seen; holds = sym free i; listed = k.listed; kept = k.kept })
    ∙ (λ i. with_more k (sym (ap (λ (m : Known). m.own) e) i) (sym (ap (λ (m : Known). m.seen) e) i))

module _ (p q : Post) (held : Known) (post : IsPost (name_of p.desk.actor) p) (holds : held ≡ holding p.desk held.seen) (grows : IsPrefixOf p.desk.seen held.seen) where
  abbrev a : ActorName
  a = name_of p.desk.actor

  module _ (fetched : q.fetched ≡ p.fetched) where
    -- nothing was entered
    module _ (back : q.desk ≡ released held) (made : q.made ≡ p.made) where
      back_as : q.desk ≡ released (turned p.desk p.desk.own held.seen)
      back_as = back ∙ ap released holds

      same_desk : q.desk ≡ with_more p.desk q.desk.own q.desk.seen
      same_desk = freed p.desk q.desk p.desk.own held.seen post.desk.free back_as

      same_own : q.desk.own ≡ p.desk.own
      same_own = ap (λ (k : Known). k.own) back_as

      seen_is : held.seen ≡ q.desk.seen
      seen_is = sym (ap (λ (k : Known). k.seen) back_as)

      seen_more : IsPrefixOf p.desk.seen q.desk.seen
      seen_more = subst (IsPrefixOf p.desk.seen) seen_is grows

      pub post_heard : Told q.desk → q.inbox ≡ p.inbox → IsPost (name_of q.desk.actor) q
      post_heard told inbox = subst (λ (n : ActorName). IsPost n q) (sym (ap (λ (k : Known). name_of k.actor) same_desk))
          (post_still a p q post seen_more told same_desk fetched same_own made inbox)

      pub worked_refused : HasWorked p q
      worked_refused = record {
        desk = record { same = same_desk; own = subst (IsPrefixOf p.desk.own) (sym same_own) (prefix_self p.desk.own); seen = seen_more };
        made = made ∙ post.made ∙ ap length (sym same_own);
        fetched = let short = prefix_short p.desk.seen q.desk.seen seen_more in omega (arith, short, fetched, post.fetched);
      }

  -- an entry may be entered
  pub others_only : Told held → entries_by a held.seen ≡ entries_by a p.desk.seen
  others_only told = sym (own_at a held (ap (λ (k : Known). k.actor) holds ∙ post.desk.actor)
      (ap (λ (k : Known). entries_by a k.opening.journal) holds ∙ post.desk.opening) told)
      ∙ ap (λ (k : Known). k.own) holds ∙ post.own

  pub legal_held : (event : Event) (outputs : List Message) → Told held
      → (is_live (reverse p.desk.seen) a ≡ true → MayFollow p.desk.opening.script p.desk.seen (entry_of p.desk event outputs))
      → crash_in held.actor held.seen ≡ None → MayFollow held.opening.script held.seen (entry_of held event outputs)
  legal_held event outputs told may = subst (λ (k : Known). crash_in k.actor k.seen ≡ None → MayFollow k.opening.script k.seen (entry_of k event outputs)) (sym holds)
      (λ none. enters_later a p.desk.seen held.seen grows (others_only told) p.desk.opening.script (entry_of p.desk event outputs) refl
      (subst (λ (k : Known). IsRun k.opening.script held.seen) holds told.run) may
      (ap (λ (o : Option ActorName). crash_in o held.seen) (sym post.desk.actor) ∙ none))

-- and was
module _ (p q : Post) (held after : Known) (e : Entry) (post : IsPost (name_of p.desk.actor) p) (holds : held ≡ holding p.desk held.seen) (grows : IsPrefixOf p.desk.seen held.seen)
    (told : Told held) (entered_it : after ≡ entered held e) (actor : e.actor ≡ name_of p.desk.actor) (back : q.desk ≡ released after) where
  own_back : q.desk ≡ released (turned p.desk (p.desk.own ++ e ∷ []) (held.seen ++ e ∷ []))
  own_back = back ∙ ap released (entered_it ∙ ap (λ (k : Known). entered k e) holds)

  own_desk : q.desk ≡ with_more p.desk q.desk.own q.desk.seen
  own_desk = freed p.desk q.desk (p.desk.own ++ e ∷ []) (held.seen ++ e ∷ []) post.desk.free own_back

  own_is : q.desk.own ≡ p.desk.own ++ e ∷ []
  own_is = ap (λ (k : Known). k.own) own_back

  own_seen : q.desk.seen ≡ held.seen ++ e ∷ []
  own_seen = ap (λ (k : Known). k.seen) own_back

  own_grows : IsPrefixOf p.desk.seen q.desk.seen
  own_grows = subst (IsPrefixOf p.desk.seen) (sym own_seen) (prefix_more p.desk.seen held.seen (e ∷ []) grows)

  -- the count fits as the journal's length does
  pub made_fits : length q.desk.seen < 2 ^ 64 → p.made + 1 < 2 ^ 64
  made_fits short =
      let filtered = filter_length (λ (x : Entry). same_name x.actor (name_of p.desk.actor)) p.desk.seen in
      let own : length p.desk.own ≡ length (entries_by (name_of p.desk.actor) p.desk.seen) = ap length post.own in
      let before = prefix_short p.desk.seen held.seen grows in
      let long : length q.desk.seen ≡ length held.seen + 1 = ap length own_seen ∙ length-append held.seen (e ∷ []) in
      omega (arith, filtered, own, before, long, short, post.made)

  pub post_made : q.fetched ≡ p.fetched → Told q.desk → q.made ≡ p.made + 1 → length q.desk.seen < 2 ^ 64 → p.fetched ≡ length p.desk.seen
      → MayBeDone e.event (next_event p.desk.opening.script (name_of p.desk.actor) (sent_to (name_of p.desk.actor) (reverse p.desk.seen)) (told_of (name_of p.desk.actor) (reverse p.desk.seen)))
      → HasDone e.event p.inbox q.inbox → IsPost (name_of q.desk.actor) q
  post_made fetched now made short all may done = subst (λ (n : ActorName). IsPost n q) (sym (ap (λ (k : Known). name_of k.actor) own_desk))
      (post_next (name_of p.desk.actor) p q post own_grows now own_desk fetched held.seen e grows (others_only p q held post holds grows told) own_seen actor own_is made short all may done)

  pub has_entered : crash_in held.actor held.seen ≡ None → HasEntered e p q
  has_entered none = record {
    before = held.seen;
    grown = grows;
    others = subst (λ (b : ActorName). entries_by b held.seen ≡ entries_by b p.desk.seen) (sym actor) (others_only p q held post holds grows told);
    alive = subst (λ (b : ActorName). crash_of b held.seen ≡ None) (sym actor)
        (ap (λ (o : Option ActorName). crash_in o held.seen) (sym (ap (λ (k : Known). k.actor) holds ∙ post.desk.actor)) ∙ none);
    seen = own_seen;
    own = own_is;
  }

pub entered_as : (k held after : Known) (event : Event) (outputs : List Message) → held ≡ holding k held.seen → after ≡ entered held (entry_of held event outputs)
    → after ≡ entered held (entry_of k event outputs)
entered_as k held after event outputs holds e = e ∙ ap (λ (m : Known). entered held (entry_of m event outputs)) holds
