-- A journal to which others added entries: what an actor did, what it was sent, and what it may enter. Used where a desk fetches
-- and where it enters.
use Rattle.std.proofs.Common.{◌≡◌, ◌<◌, ◌≤◌, ◌&&◌, ℕ, suc, inl, inr, Bool, true, List, [], ◌∷◌, ◌++◌, Option, Some, None, filter, length, reverse, take, nat_lt, refl, sym, ap, subst, ◌∙◌, append_assoc, length-append, length-take-le, take-append-drop, take_all, arith}
use Rattle.std.specs.Prelude.{◌==◌, ◌||◌, drop, option_map}
use Rattle.std.proofs.lemmas.Bool.{and_parts, cases_Bool, eqb-true, ltb-true, not_from_false}
use Rattle.std.proofs.lemmas.List.{append-nil}
use Rattle.std.proofs.lemmas.List.Elements.{filter-append}
use Rattle.tp_base.proofs.Ends.{reverse_push, snoc_ind}
use Rattle.tp_base.proofs.Each.{each_weaker}
use Rattle.tp_base.proofs.Prefixes.{prefix_then}
use Rattle.tp_base.proofs.SameNames.{same_name_refl}
use Rattle.tp_base.specs.Lists.{Ascends, IsPrefixOf}
use Rattle.tp_base.specs.Names.{same_name}
use Rattle.tp_base.specs.declared.names.ActorName.{ActorName}
use Rattle.tp_netbook.proofs.InboxRuns.{ascends_filter, is_before, sent_ascends}
use Rattle.tp_netbook.specs.Inbox.{elsewhere, sent_to}
use Rattle.tp_netbook.specs.Inbox.{entries_by as told_of}
use Rattle.tp_rules.proofs.Journals.{acts_here, acts_other, sent_more}
use Rattle.tp_rules.proofs.lists.Tallies.{filter_no, filter_yes}
use Rattle.tp_rules.proofs.sent.Parcels.{found_before}
use Rattle.tp_rules.specs.Acts.{Took}
use Rattle.tp_rules.specs.Journal.{act_of, acts, is_live, numbered, output_at, sent, with_act}
use Rattle.tp_rules.specs.Runs.{IsFor, IsRun, MayHappen}
use Rattle.tp_rules.specs.declared.event.Entry.{Entry}
use Rattle.tp_rules.specs.declared.event.Event.{Event}
use Rattle.tp_rules.specs.declared.event.Event.TheVariants.{Deliver, Dropped, Inner as OfItself}
use Rattle.tp_rules.specs.declared.event.Parcel.{Parcel}
use Rattle.tp_script.specs.declared.script.Script.{Script}
use Rattle.tp_shared.proofs.Addressed.{none_behind, numbered_later}
use Rattle.tp_shared.proofs.Legality.{first_none, lived, lives, may_later}
use Rattle.tp_shared.proofs.Shown.{by_append, nothing_more}
use Rattle.tp_shared.specs.Fetched.{is_for, parcels_for}
use Rattle.tp_shared.specs.Histories.{MayFollow, crash_of, entries_by}
use Rattle.tp_wire.specs.declared.message.Message.{Message}

-- what others added

pub by_others : (a : ActorName) (xs ys : List Entry) (h : IsPrefixOf xs ys) → entries_by a ys ≡ entries_by a xs → entries_by a h.0 ≡ []
by_others a xs ys h same =
    let whole : entries_by a xs ++ entries_by a h.0 ≡ entries_by a xs = sym (by_append a xs h.0) ∙ ap (entries_by a) h.1 ∙ same in
    let long : length (entries_by a xs ++ entries_by a h.0) ≡ length (entries_by a xs) = ap length whole in
    nothing_more (entries_by a xs) (entries_by a h.0) (omega arith)

one_more : (xs l : List Entry) (e : Entry) → reverse (xs ++ (l ++ e ∷ [])) ≡ e ∷ reverse (xs ++ l)
one_more xs l e = ap (λ (j : List Entry). reverse j) (sym (append_assoc xs l (e ∷ []))) ∙ reverse_push (xs ++ l) e

none_more : (xs : List Entry) → reverse (xs ++ []) ≡ reverse xs
none_more xs = ap (λ (j : List Entry). reverse j) (append-nil xs)

acts_more : (a : ActorName) (xs more : List Entry) → entries_by a more ≡ [] → acts (reverse (xs ++ more)) a ≡ acts (reverse xs) a
acts_more a xs more = snoc_ind Goes none next more
  where
    Goes : List Entry → Type 0
    Goes l = entries_by a l ≡ [] → acts (reverse (xs ++ l)) a ≡ acts (reverse xs) a

    none : Goes []
    none free = ap (λ (l : List Entry). acts l a) (none_more xs)

    next : (l : List Entry) (e : Entry) → Goes l → Goes (l ++ e ∷ [])
    next l e rest free =
        let parts = first_none a l e free in
        ap (λ (j : List Entry). acts (reverse j) a) (sym (append_assoc xs l (e ∷ []))) ∙ acts_other (xs ++ l) e a parts.1 ∙ rest parts.0

told_more : (a : ActorName) (xs more : List Entry) → entries_by a more ≡ [] → told_of a (reverse (xs ++ more)) ≡ told_of a (reverse xs)
told_more a xs more = snoc_ind Goes none next more
  where
    Goes : List Entry → Type 0
    Goes l = entries_by a l ≡ [] → told_of a (reverse (xs ++ l)) ≡ told_of a (reverse xs)

    none : Goes []
    none free = ap (told_of a) (none_more xs)

    next : (l : List Entry) (e : Entry) → Goes l → Goes (l ++ e ∷ [])
    next l e rest free =
        let parts = first_none a l e free in
        ap (told_of a) (one_more xs l e) ∙ filter_no (λ (x : Entry). same_name x.actor a) e (reverse (xs ++ l)) parts.1 ∙ rest parts.0

found_more : (xs more : List Entry) (entry place : ℕ) (m : Message) → output_at (reverse xs) entry place ≡ Some m → output_at (reverse (xs ++ more)) entry place ≡ Some m
found_more xs more entry place m at = snoc_ind (λ (l : List Entry). output_at (reverse (xs ++ l)) entry place ≡ Some m)
    (ap (λ (l : List Entry). output_at l entry place) (none_more xs) ∙ at)
    (λ l e rest. ap (λ (j : List Entry). output_at j entry place) (one_more xs l e) ∙ found_before (reverse (xs ++ l)) e entry place m rest)
    more

act_more : (script : Script) (a : ActorName) (xs more : List Entry) (event : Event) → MayHappen script (reverse xs) a event
    → act_of (reverse (xs ++ more)) event ≡ act_of (reverse xs) event
act_more script a xs more (Deliver entry place) may = by (output_at (reverse xs) entry place) refl may
  where
    by : (o : Option Message) → output_at (reverse xs) entry place ≡ o → IsFor a o
        → option_map Took (output_at (reverse (xs ++ more)) entry place) ≡ option_map Took (output_at (reverse xs) entry place)
    by None is may = absurd may
    by (Some m) is may = ap (option_map Took) (found_more xs more entry place m is ∙ sym is)
act_more script a xs more (Dropped entry place) may = refl
act_more script a xs more (OfItself inner) may = refl

lived_before : (a : ActorName) (xs more : List Entry) → is_live (reverse (xs ++ more)) a ≡ true → is_live (reverse xs) a ≡ true
lived_before a xs more = snoc_ind Goes none next more
  where
    Goes : List Entry → Type 0
    Goes l = is_live (reverse (xs ++ l)) a ≡ true → is_live (reverse xs) a ≡ true

    none : Goes []
    none h = sym (ap (λ (l : List Entry). is_live l a) (none_more xs)) ∙ h

    next : (l : List Entry) (e : Entry) → Goes l → Goes (l ++ e ∷ [])
    next l e rest h = rest (lived (reverse (xs ++ l)) e a (sym (ap (λ (j : List Entry). is_live j a) (one_more xs l e)) ∙ h))

module _ (a : ActorName) (xs ys : List Entry) (grows : IsPrefixOf xs ys) where
  pub live_then : is_live (reverse ys) a ≡ true → is_live (reverse xs) a ≡ true
  live_then h = lived_before a xs grows.0 (ap (λ (l : List Entry). is_live (reverse l) a) grows.1 ∙ h)

  pub act_stays : (script : Script) (event : Event) → MayHappen script (reverse xs) a event → act_of (reverse ys) event ≡ act_of (reverse xs) event
  act_stays script event may = subst (λ (l : List Entry). act_of (reverse l) event ≡ act_of (reverse xs) event) grows.1 (act_more script a xs grows.0 event may)

  module _ (same : entries_by a ys ≡ entries_by a xs) where
    pub acts_stay : acts (reverse ys) a ≡ acts (reverse xs) a
    acts_stay = subst (λ (l : List Entry). acts (reverse l) a ≡ acts (reverse xs) a) grows.1 (acts_more a xs grows.0 (by_others a xs ys grows same))

    pub told_stays : told_of a (reverse ys) ≡ told_of a (reverse xs)
    told_stays = subst (λ (l : List Entry). told_of a (reverse l) ≡ told_of a (reverse xs)) grows.1 (told_more a xs grows.0 (by_others a xs ys grows same))

    -- what it may enter it may enter later
    pub enters_later : (script : Script) (e : Entry) → e.actor ≡ a → IsRun script ys → (is_live (reverse xs) a ≡ true → MayFollow script xs e)
        → crash_of a ys ≡ None → MayFollow script ys e
    enters_later script e is run may none =
        may_later script xs ys e run grows (subst (λ (b : ActorName). entries_by b ys ≡ entries_by b xs) (sym is) same)
        (subst (λ (b : ActorName). crash_of b ys ≡ None) (sym is) none) (may (live_then (lives a ys none)))

-- one more of its own

pub told_next : (a : ActorName) (xs : List Entry) (e : Entry) → e.actor ≡ a → told_of a (reverse (xs ++ e ∷ [])) ≡ e ∷ told_of a (reverse xs)
told_next a xs e is =
    ap (told_of a) (reverse_push xs e)
    ∙ filter_yes (λ (x : Entry). same_name x.actor a) e (reverse xs) (ap (λ (b : ActorName). same_name b a) is ∙ same_name_refl a)

pub acts_next : (a : ActorName) (xs : List Entry) (e : Entry) → e.actor ≡ a → acts (reverse (xs ++ e ∷ [])) a ≡ with_act (act_of (reverse xs) e.event) (acts (reverse xs) a)
acts_next a xs e is = subst (λ (b : ActorName). acts (reverse (xs ++ e ∷ [])) b ≡ with_act (act_of (reverse xs) e.event) (acts (reverse xs) b)) is (acts_here xs e)

-- what is sent to the actor

fetched_more : (a : ActorName) (xs more : List Entry) → sent_to a (reverse xs) ++ parcels_for a (length xs) (xs ++ more) ≡ sent_to a (reverse (xs ++ more))
fetched_more a xs more = snoc_ind Goes none next more
  where
    Goes : List Entry → Type 0
    Goes l = sent_to a (reverse xs) ++ parcels_for a (length xs) (xs ++ l) ≡ sent_to a (reverse (xs ++ l))

    nothing : parcels_for a (length xs) xs ≡ []
    nothing = subst (λ (l : List Entry). parcels_for a (length xs) l ≡ []) (take_all (length xs) xs (omega arith)) (none_behind a (length xs) xs)

    none : Goes []
    none =
        ap (λ (l : List Entry). sent_to a (reverse xs) ++ parcels_for a (length xs) l) (append-nil xs)
        ∙ ap (λ (l : List Parcel). sent_to a (reverse xs) ++ l) nothing ∙ append-nil (sent_to a (reverse xs)) ∙ sym (ap (sent_to a) (none_more xs))

    next : (l : List Entry) (e : Entry) → Goes l → Goes (l ++ e ∷ [])
    next l e rest =
        let j : List Entry = xs ++ l in
        let behind : length xs < suc (length j) = (let long = length-append xs l in omega arith) in
        let new : List Parcel = filter (is_for a) (numbered (suc (length j)) 1 e.outputs) in
        let fetched : parcels_for a (length xs) (j ++ e ∷ []) ≡ parcels_for a (length xs) j ++ new =
        ap (filter (λ (p : Parcel). nat_lt (length xs) p.entry && is_for a p)) (sent_more j e)
        ∙ filter-append (λ (p : Parcel). nat_lt (length xs) p.entry && is_for a p) (sent (reverse j)) (numbered (suc (length j)) 1 e.outputs)
        ∙ ap (λ (k : List Parcel). parcels_for a (length xs) j ++ k) (numbered_later a (length xs) (suc (length j)) 1 e.outputs behind) in
        let was_sent : sent_to a (reverse (j ++ e ∷ [])) ≡ sent_to a (reverse j) ++ new =
        ap (filter (is_for a)) (sent_more j e) ∙ filter-append (is_for a) (sent (reverse j)) (numbered (suc (length j)) 1 e.outputs) in
        let assoc : j ++ e ∷ [] ≡ xs ++ (l ++ e ∷ []) = append_assoc xs l (e ∷ []) in
        subst (λ (k : List Entry). sent_to a (reverse xs) ++ parcels_for a (length xs) k ≡ sent_to a (reverse k)) assoc
        (ap (λ (k : List Parcel). sent_to a (reverse xs) ++ k) fetched
        ∙ sym (append_assoc (sent_to a (reverse xs)) (parcels_for a (length xs) j) new)
        ∙ ap (λ (k : List Parcel). k ++ new) rest ∙ sym was_sent)

pub fetched_all : (a : ActorName) (n : ℕ) (xs ys : List Entry) → IsPrefixOf xs ys → n ≤ length xs
    → sent_to a (reverse (take n xs)) ++ parcels_for a n ys ≡ sent_to a (reverse ys)
fetched_all a n xs ys grows within =
    let early : IsPrefixOf (take n xs) ys = prefix_then (take n xs) xs ys (drop n xs, take-append-drop n xs) grows in
    let long : length (take n xs) ≡ n = length-take-le n xs within in
    subst (λ (m : ℕ). sent_to a (reverse (take n xs)) ++ parcels_for a m ys ≡ sent_to a (reverse ys)) long
    (subst (λ (l : List Entry). sent_to a (reverse (take n xs)) ++ parcels_for a (length (take n xs)) l ≡ sent_to a (reverse l)) early.1
    (fetched_more a (take n xs) early.0))

-- a message comes after those that were sent before it

pub sent_apart : (a : ActorName) (older : List Entry) → Ascends elsewhere (sent_to a older)
sent_apart a older = weaker (sent_to a older) (ascends_filter is_before (is_for a) (sent older) (sent_ascends older))
  where
    apart : (p q : Parcel) → is_before p q ≡ true → elsewhere p q ≡ true
    apart p q h = elim (cases_Bool ((p.entry == q.entry) && (p.place == q.place))) [
      | inl t ↦
          let same = and_parts (p.entry == q.entry) (p.place == q.place) t in
          let entries = eqb-true p.entry q.entry same.0 in
          let places = eqb-true p.place q.place same.1 in
          absurd (elim (cases_Bool (nat_lt p.entry q.entry)) [
            | inl before ↦ let lt = ltb-true p.entry q.entry before in omega (arith, lt, entries)
            | inr not_so ↦
                let later : ((p.entry == q.entry) && nat_lt p.place q.place) ≡ true =
                ap (λ (b : Bool). b || ((p.entry == q.entry) && nat_lt p.place q.place)) (sym not_so) ∙ h in
                let lt = ltb-true p.place q.place (and_parts (p.entry == q.entry) (nat_lt p.place q.place) later).1 in
                omega (arith, lt, places)
          ])
      | inr f ↦ not_from_false ((p.entry == q.entry) && (p.place == q.place)) f
    ]

    weaker : (ps : List Parcel) → Ascends is_before ps → Ascends elsewhere ps
    weaker [] h = tt
    weaker (p ∷ ps) h = (each_weaker (λ q. is_before p q ≡ true) (λ q. elsewhere p q ≡ true) (λ q. apart p q) ps h.0, weaker ps h.1)
