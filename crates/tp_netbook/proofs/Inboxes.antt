-- What an inbox says comes next, and how messages and entries change it. Used by the functions of an inbox.
use Rattle.std.proofs.Common.{◌≡◌, ℕ, ◌+◌, ◌-◌, ◌<◌, ◌^◌, inl, inr, Bool, true, false, cond, List, [], ◌∷◌, ◌++◌, length, take, Option, Some, None, refl, sym, ap, subst, ◌∙◌, append_assoc, arith}
use Rattle.std.proofs.lemmas.Bool.{and_right, cases_Bool, cond-false, cond-true, le-ltb, ltb-false}
use Rattle.std.proofs.lemmas.List.{append-nil, length-append}
use Rattle.std.specs.List.{list_any}
use Rattle.std.specs.Prelude.{◌==◌, ◌&&◌, ◌||◌, nat_lt, not, slice_get}
use Rattle.tp_base.proofs.Each.{each_in, each_weaker}
use Rattle.tp_base.proofs.Members.{in_left}
use Rattle.tp_base.proofs.Orders.{ascends_before, ascends_left}
use Rattle.tp_base.proofs.SameNames.{same_name_refl}
use Rattle.tp_base.specs.Lists.{Ascends, Each, IsIn}
use Rattle.tp_base.specs.Names.{same_name}
use Rattle.tp_base.specs.declared.names.ActorName.{ActorName}
use Rattle.tp_base.specs.declared.names.ActorName.TheVariants.{Process, Executor, Session}
use Rattle.tp_netbook.proofs.Outputs.{delivered_more, one_more}
use Rattle.tp_netbook.proofs.Rosters.{take_next}
use Rattle.tp_netbook.proofs.Watches.{due_is, watch_more}
use Rattle.tp_fates.specs.Fates.{AreCountsFor, AreFates, TellsNext, fate_of as given_as}
use Rattle.tp_fates.specs.declared.fate.Fate.{Fate as FateValue}
use Rattle.tp_netbook.specs.Inbox.{AreCountedBy, HasDone, IsInbox, IsOfGiven, IsWatchOf, MayBeDone, Takes, coming, elsewhere, fate_after, line_or_first, lives_yet, next_event, output_with, settled, waiting_among, waits}
use Rattle.tp_netbook.specs.Netbook.{line_due}
use Rattle.tp_fates.specs.Deliveries.{loses}
use Rattle.tp_netbook.specs.Outputs.{event_of, is_named, new_output, passed}
use Rattle.tp_fates.specs.Routes.{route_of}
use Rattle.tp_netbook.specs.declared.inbox.Inbox.{Inbox}
use Rattle.tp_netbook.specs.declared.inbox.Waiting.{Waiting}
use Rattle.tp_netbook.specs.declared.output.Output.{Output}
use Rattle.tp_netbook.specs.declared.watch.Watch.{Watch}
use Rattle.tp_rules.proofs.lists.Tallies.{filter_none}
use Rattle.tp_rules.specs.Journal.{is_delivery_of, is_live, is_loss_of}
use Rattle.tp_rules.specs.Plan.{Fate, deliveries, due_of, left_by, was_lost}
use Rattle.tp_rules.specs.declared.event.Entry.{Entry}
use Rattle.tp_rules.specs.declared.event.Event.{Event}
use Rattle.tp_rules.specs.declared.event.Event.TheVariants.{Deliver, Dropped, Inner as OfItself}
use Rattle.tp_rules.specs.declared.event.Inner.{Inner}
use Rattle.tp_rules.specs.declared.event.Parcel.{Parcel}
use Rattle.tp_script.specs.declared.script.Script.{Script}
use Rattle.tp_wire.specs.declared.message.Message.{Message}

-- what comes next

pub next_is : (script : Script) (actor : ActorName) (parcels : List Parcel) (own : List Entry) (inbox : Inbox) → IsInbox script actor parcels own inbox
    → coming inbox.watch inbox.waiting.items ≡ next_event script actor parcels own
next_is script actor parcels own inbox is = by actor inbox.watch is.watch
  where
    by : (a : ActorName) (w : Option Watch) → IsWatchOf script own a w → coming w inbox.waiting.items ≡ next_event script a parcels own
    by (Process s) None none = absurd none
    by (Process s) (Some w) watch =
        ap (λ (b : Bool). cond b (line_or_first (line_due w) inbox.waiting.items) None) watch.live
        ∙ ap (λ (line : Option Inner). cond (is_live own (Process s)) (line_or_first line inbox.waiting.items) None) (due_is script own w s watch)
        ∙ ap (λ (ws : List Waiting). cond (is_live own (Process s)) (line_or_first (due_of script own (Process s)) ws) None) is.waiting
    by (Executor s) None none = ap (λ (ws : List Waiting). line_or_first None ws) is.waiting
    by (Executor s) (Some w) some = absurd some
    by (Session s) None none = ap (λ (ws : List Waiting). line_or_first None ws) is.waiting
    by (Session s) (Some w) some = absurd some

-- further messages

among_more : (script : Script) (own : List Entry) (before ps : List Parcel) (p : Parcel)
    → waiting_among script own before (ps ++ p ∷ []) ≡ waiting_among script own before ps ++ waits (output_with (fate_after script (before ++ ps) p) own p) p.message
among_more script own before [] p =
    append-nil (waits (output_with (fate_after script before p) own p) p.message)
    ∙ ap (λ (l : List Parcel). waits (output_with (fate_after script l p) own p) p.message) (sym (append-nil before))
among_more script own before (q ∷ qs) p =
    let here : List Waiting = waits (output_with (fate_after script before q) own q) q.message in
    ap (λ (l : List Waiting). here ++ l) (among_more script own (before ++ q ∷ []) qs p)
    ∙ ap (λ (l : List Parcel). here ++ (waiting_among script own (before ++ q ∷ []) qs ++ waits (output_with (fate_after script l p) own p) p.message)) (append_assoc before (q ∷ []) qs)
    ∙ sym (append_assoc here (waiting_among script own (before ++ q ∷ []) qs) (waits (output_with (fate_after script (before ++ q ∷ qs) p) own p) p.message))

-- no entry of the actor has delivered or lost a message that was not given yet

not_both : (b : Bool) → not b ≡ true → b ≡ false
not_both true h = absurd cc
not_both false h = refl

away : (before : List Parcel) (p : Parcel) → Ascends elsewhere (before ++ p ∷ []) → (entry place : ℕ) (q : Parcel) → IsIn q before → q.entry ≡ entry → q.place ≡ place
    → ((entry == p.entry) && (place == p.place)) ≡ false
away before p apart entry place q h i j =
    sym (ap (λ (n : ℕ). (n == p.entry) && (q.place == p.place)) i ∙ ap (λ (n : ℕ). (entry == p.entry) && (n == p.place)) j)
    ∙ not_both _ (ascends_before elsewhere before (p ∷ []) q p apart h (inl refl))

undelivered : (before : List Parcel) (p : Parcel) → Ascends elsewhere (before ++ p ∷ []) → (event : Event) → IsOfGiven before event → is_delivery_of p.entry p.place event ≡ false
undelivered before p apart (Deliver entry place) given = away before p apart entry place given.0 given.1 given.2 given.3
undelivered before p apart (Dropped entry place) given = refl
undelivered before p apart (OfItself inner) given = refl

unlost : (before : List Parcel) (p : Parcel) → Ascends elsewhere (before ++ p ∷ []) → (event : Event) → IsOfGiven before event → is_loss_of p.entry p.place event ≡ false
unlost before p apart (Deliver entry place) given = refl
unlost before p apart (Dropped entry place) given = away before p apart entry place given.0 given.1 given.2 given.3
unlost before p apart (OfItself inner) given = refl

none_of : {X : Type 0} (p : X → Bool) (xs : List X) → ((x : X) → IsIn x xs → p x ≡ false) → list_any p xs ≡ false
none_of p [] h = refl
none_of p (x ∷ xs) h = ap (λ (b : Bool). b || list_any p xs) (h x (inl refl)) ∙ none_of p xs (λ y k. h y (inr k))

fresh_left : (fate : Fate) (own : List Entry) (before : List Parcel) (p : Parcel) → Ascends elsewhere (before ++ p ∷ []) → Each (λ e. IsOfGiven before e.event) own
    → output_with fate own p ≡ new_output p.entry p.place p.message.to fate
fresh_left fate own before p apart told =
    let none : deliveries own p.entry p.place ≡ 0 =
    ap length (filter_none (λ (x : Entry). is_delivery_of p.entry p.place x.event) own (λ x h. undelivered before p apart x.event (each_in (λ e. IsOfGiven before e.event) own x told h))) in
    let kept : was_lost own p.entry p.place ≡ false =
    none_of (λ (x : Entry). is_loss_of p.entry p.place x.event) own (λ x h. unlost before p apart x.event (each_in (λ e. IsOfGiven before e.event) own x told h)) in
    let left : left_by fate (deliveries own p.entry p.place) (was_lost own p.entry p.place) ≡ left_by fate 0 false =
    ap (λ (n : ℕ). left_by fate n (was_lost own p.entry p.place)) none ∙ ap (λ (b : Bool). left_by fate 0 b) kept in
    λ i. record { entry = p.entry; place = p.place; to = p.message.to; lost = loses fate; left = left i }

of_more : (before ps : List Parcel) (event : Event) → IsOfGiven before event → IsOfGiven (before ++ ps) event
of_more before ps (Deliver entry place) given = (given.0, in_left before ps given.0 given.1, given.2, given.3)
of_more before ps (Dropped entry place) given = (given.0, in_left before ps given.0 given.1, given.2, given.3)
of_more before ps (OfItself inner) given = tt

pub takes_one : (p : Parcel) (old new : Inbox) (given : FateValue) → TellsNext old.fates old.routes new.routes (route_of p) given
    → new.waiting.items ≡ old.waiting.items ++ waits (new_output p.entry p.place p.message.to (given_as given)) p.message
    → new.watch ≡ old.watch → new.fates ≡ old.fates → Takes (p ∷ []) old new
takes_one p old new given tells more watch fates = λ script actor before own is apart short.
    let fate : Fate = given_as given in
    let is_fate : fate ≡ fate_after script before p = tells.fate script.plan before p is.fates is.routes refl short in
    let output : new_output p.entry p.place p.message.to fate ≡ output_with (fate_after script before p) own p =
    ap (λ (f : Fate). new_output p.entry p.place p.message.to f) is_fate ∙ sym (fresh_left (fate_after script before p) own before p apart is.told) in
    record {
      watch = subst (IsWatchOf script own actor) (sym watch) is.watch;
      fates = subst (AreFates script.plan) (sym fates) is.fates;
      routes = subst (λ f. AreCountsFor f (before ++ p ∷ []) new.routes) (sym fates) (tells.counts before p is.routes refl short);
      waiting = more ∙ ap (λ (l : List Waiting). l ++ waits (new_output p.entry p.place p.message.to fate) p.message) is.waiting
          ∙ ap (λ (o : Output). waiting_among script own [] before ++ waits o p.message) output ∙ sym (among_more script own [] before p);
      apart = apart;
      told = each_weaker (λ e. IsOfGiven before e.event) (λ e. IsOfGiven (before ++ p ∷ []) e.event) (λ e. of_more before (p ∷ []) e.event) own is.told;
    }

pub takes_none : (inbox : Inbox) → Takes [] inbox inbox
takes_none inbox = λ script actor before own is fresh short. subst (λ (l : List Parcel). IsInbox script actor l own inbox) (sym (append-nil before)) is

takes_next : (ps : List Parcel) (p : Parcel) (a b c : Inbox) → Takes ps a b → Takes (p ∷ []) b c → Takes (ps ++ p ∷ []) a c
takes_next ps p a b c first second = λ script actor before own is apart short.
    let all : Ascends elsewhere ((before ++ ps) ++ p ∷ []) = subst (Ascends elsewhere) (sym (append_assoc before ps (p ∷ []))) apart in
    let mid = first script actor before own is (ascends_left elsewhere (before ++ ps) (p ∷ []) all) (omega (arith, short, length-append ps (p ∷ []))) in
    subst (λ (l : List Parcel). IsInbox script actor l own c) (append_assoc before ps (p ∷ []))
    (second script actor (before ++ ps) own mid all (omega (arith, short, length-append ps (p ∷ []), length-append before ps)))

pub takes_more : (all : List Parcel) (k : ℕ) (p : Parcel) (a b c : Inbox) → slice_get all k ≡ Some p → Takes (take k all) a b → Takes (p ∷ []) b c → Takes (take (k + 1) all) a c
takes_more all k p a b c at first second = subst (λ (ps : List Parcel). Takes ps a c) (sym (take_next all k p at)) (takes_next (take k all) p a b c first second)

-- one more entry

module _ (script : Script) (own : List Entry) (e : Entry) where
  passed_is : (fate : Fate) (p : Parcel) → output_with fate (e ∷ own) p ≡ passed e.event (output_with fate own p)
  passed_is fate p =
      let left = one_more fate e.event p (left_by fate (deliveries own p.entry p.place) (was_lost own p.entry p.place)) (deliveries own p.entry p.place)
      (deliveries (e ∷ own) p.entry p.place) (was_lost own p.entry p.place) (delivered_more own e p.entry p.place) in
      λ i. record { entry = p.entry; place = p.place; to = p.message.to; lost = loses fate; left = left i }

  unnamed : (o : Output) → is_named e.event o ≡ false → passed e.event o ≡ o
  unnamed o h =
      let left = cond-false (is_named e.event o) (o.left - 1) o.left h in
      λ i. record { entry = o.entry; place = o.place; to = o.to; lost = o.lost; left = left i }

  abbrev IsUnnamed : Parcel → Type 0
  IsUnnamed q = (fate : Fate) → is_named e.event (output_with fate own q) ≡ false

  rest_same : (before ps : List Parcel) → Each IsUnnamed ps → waiting_among script (e ∷ own) before ps ≡ waiting_among script own before ps
  rest_same before [] none = refl
  rest_same before (q ∷ qs) none =
      let fate : Fate = fate_after script before q in
      ap (λ (o : Output). waits o q.message ++ waiting_among script (e ∷ own) (before ++ q ∷ []) qs) (passed_is fate q ∙ unnamed (output_with fate own q) (none.0 fate))
      ∙ ap (λ (l : List Waiting). waits (output_with fate own q) q.message ++ l) (rest_same (before ++ q ∷ []) qs none.1)

  -- what stands elsewhere isn't named
  others : (fate : Fate) (p : Parcel) → MayBeDone e.event (Some (event_of (output_with fate own p))) → (q : Parcel) → elsewhere p q ≡ true → IsUnnamed q
  others fate p may q apart of = by e.event may (loses fate) refl
    where
      there : (entry place : ℕ) → p.entry ≡ entry → p.place ≡ place → ((entry == q.entry) && (place == q.place)) ≡ false
      there entry place i j =
          sym (ap (λ (n : ℕ). (n == q.entry) && (p.place == q.place)) i ∙ ap (λ (n : ℕ). (entry == q.entry) && (n == q.place)) j) ∙ not_both _ apart

      by : (event : Event) → MayBeDone event (Some (event_of (output_with fate own p))) → (b : Bool) → loses fate ≡ b → is_named event (output_with of own q) ≡ false
      by (Deliver entry place) is true lost =
          let both : Some (Dropped p.entry p.place) ≡ Some (Deliver entry place) =
          ap (λ (l : Bool). Some (cond l (Dropped p.entry p.place) (Deliver p.entry p.place))) (sym lost) ∙ is in absurd cc
      by (Deliver entry place) is false lost =
          let both : Some (Deliver p.entry p.place) ≡ Some (Deliver entry place) =
          ap (λ (l : Bool). Some (cond l (Dropped p.entry p.place) (Deliver p.entry p.place))) (sym lost) ∙ is in
          let entries : p.entry ≡ entry = cc in let places : p.place ≡ place = cc in
          and_right (not (loses of)) _ (there entry place entries places)
      by (Dropped entry place) is true lost =
          let both : Some (Dropped p.entry p.place) ≡ Some (Dropped entry place) =
          ap (λ (l : Bool). Some (cond l (Dropped p.entry p.place) (Deliver p.entry p.place))) (sym lost) ∙ is in
          let entries : p.entry ≡ entry = cc in let places : p.place ≡ place = cc in
          and_right (loses of) _ (there entry place entries places)
      by (Dropped entry place) is false lost =
          let both : Some (Deliver p.entry p.place) ≡ Some (Dropped entry place) =
          ap (λ (l : Bool). Some (cond l (Dropped p.entry p.place) (Deliver p.entry p.place))) (sym lost) ∙ is in absurd cc
      by (OfItself inner) is b lost = refl

  each_other : (fate : Fate) (p : Parcel) → MayBeDone e.event (Some (event_of (output_with fate own p))) → (qs : List Parcel) → Each (λ q. elsewhere p q ≡ true) qs → Each IsUnnamed qs
  each_other fate p may [] apart = tt
  each_other fate p may (q ∷ qs) apart = (others fate p may q apart.0, each_other fate p may qs apart.1)

  none_waits : (o : Output) (m : Message) → nat_lt 0 o.left ≡ false → waits (passed e.event o) m ≡ []
  none_waits o m h = cond-false (nat_lt 0 (passed e.event o).left) (record { output = passed e.event o; message = m } ∷ []) [] (by (is_named e.event o))
    where
      by : (b : Bool) → nat_lt 0 (cond b (o.left - 1) o.left) ≡ false
      by true = let few = ltb-false 0 o.left h in le-ltb 0 (o.left - 1) (omega (arith, few))
      by false = h

  pub settled_is : (before ps : List Parcel) → Ascends elsewhere ps → MayBeDone e.event (line_or_first None (waiting_among script own before ps))
      → waiting_among script (e ∷ own) before ps ≡ settled e.event (waiting_among script own before ps)
  settled_is before [] apart may = refl
  settled_is before (p ∷ ps) apart may = elim (cases_Bool (nat_lt 0 o.left)) [
    | inl waits_yet ↦
        let list : waiting_among script own before (p ∷ ps) ≡ w ∷ rest = ap (λ (l : List Waiting). l ++ rest) (cond-true (nat_lt 0 o.left) (w ∷ []) [] waits_yet) in
        let of : MayBeDone e.event (Some (event_of o)) = subst (λ (l : List Waiting). MayBeDone e.event (line_or_first None l)) list may in
        now ∙ ap (λ (l : List Waiting). waits (passed e.event o) p.message ++ l) (rest_same (before ++ p ∷ []) ps (each_other fate p of ps apart.0))
        ∙ ap (settled e.event) (sym list)
    | inr over ↦
        let list : waiting_among script own before (p ∷ ps) ≡ rest = ap (λ (l : List Waiting). l ++ rest) (cond-false (nat_lt 0 o.left) (w ∷ []) [] over) in
        now ∙ ap (λ (l : List Waiting). l ++ waiting_among script (e ∷ own) (before ++ p ∷ []) ps) (none_waits o p.message over)
        ∙ settled_is (before ++ p ∷ []) ps apart.1 (subst (λ (l : List Waiting). MayBeDone e.event (line_or_first None l)) list may)
        ∙ ap (settled e.event) (sym list)
  ]
    where
      fate : Fate
      fate = fate_after script before p

      o : Output
      o = output_with (fate_after script before p) own p

      w : Waiting
      w = record { output = output_with (fate_after script before p) own p; message = p.message }

      rest : List Waiting
      rest = waiting_among script own (before ++ p ∷ []) ps

      now : waiting_among script (e ∷ own) before (p ∷ ps) ≡ waits (passed e.event (output_with (fate_after script before p) own p)) p.message ++ waiting_among script (e ∷ own) (before ++ p ∷ []) ps
      now = ap (λ (x : Output). waits x p.message ++ waiting_among script (e ∷ own) (before ++ p ∷ []) ps) (passed_is (fate_after script before p) p)

-- it is of a message that was given

first_given : (script : Script) (own : List Entry) (before ps : List Parcel) (w : Waiting) (ws : List Waiting) → waiting_among script own before ps ≡ w ∷ ws
    → (p : Parcel) × IsIn p ps × (p.entry ≡ w.output.entry) × (p.place ≡ w.output.place)
first_given script own before [] w ws e = absurd cc
first_given script own before (p ∷ ps) w ws e =
    let o : Output = output_with (fate_after script before p) own p in
    let here : Waiting = record { output = o; message = p.message } in
    let rest : List Waiting = waiting_among script own (before ++ p ∷ []) ps in
    elim (cases_Bool (nat_lt 0 o.left)) [
      | inl t ↦
          let both : here ∷ rest ≡ w ∷ ws = sym (ap (λ (l : List Waiting). l ++ rest) (cond-true (nat_lt 0 o.left) (here ∷ []) [] t)) ∙ e in
          let first : here ≡ w = cc in
          (p, inl refl, ap (λ (x : Waiting). x.output.entry) first, ap (λ (x : Waiting). x.output.place) first)
      | inr f ↦
          let later : rest ≡ w ∷ ws = sym (ap (λ (l : List Waiting). l ++ rest) (cond-false (nat_lt 0 o.left) (here ∷ []) [] f)) ∙ e in
          let found = first_given script own (before ++ p ∷ []) ps w ws later in
          (found.0, inr found.1, found.2, found.3)
    ]

done_given : (script : Script) (own : List Entry) (ps : List Parcel) (event : Event) → MayBeDone event (line_or_first None (waiting_among script own [] ps)) → IsOfGiven ps event
done_given script own ps (OfItself inner) may = tt
done_given script own ps (Deliver entry place) may = by (waiting_among script own [] ps) refl may
  where
    at : (o : Output) (b : Bool) → cond b (Dropped o.entry o.place) (Deliver o.entry o.place) ≡ Deliver entry place → (o.entry ≡ entry) × (o.place ≡ place)
    at o true e = absurd cc
    at o false e = let entries : o.entry ≡ entry = cc in let places : o.place ≡ place = cc in (entries, places)

    by : (ws : List Waiting) → waiting_among script own [] ps ≡ ws → line_or_first None ws ≡ Some (Deliver entry place) → IsOfGiven ps (Deliver entry place)
    by [] l e = absurd cc
    by (w ∷ ws) l e =
        let found = first_given script own [] ps w ws l in
        let event : event_of w.output ≡ Deliver entry place = cc in
        let numbers = at w.output w.output.lost event in
        (found.0, found.1, found.2 ∙ numbers.0, found.3 ∙ numbers.1)
done_given script own ps (Dropped entry place) may = by (waiting_among script own [] ps) refl may
  where
    at : (o : Output) (b : Bool) → cond b (Dropped o.entry o.place) (Deliver o.entry o.place) ≡ Dropped entry place → (o.entry ≡ entry) × (o.place ≡ place)
    at o true e = let entries : o.entry ≡ entry = cc in let places : o.place ≡ place = cc in (entries, places)
    at o false e = absurd cc

    by : (ws : List Waiting) → waiting_among script own [] ps ≡ ws → line_or_first None ws ≡ Some (Dropped entry place) → IsOfGiven ps (Dropped entry place)
    by [] l e = absurd cc
    by (w ∷ ws) l e =
        let found = first_given script own [] ps w ws l in
        let event : event_of w.output ≡ Dropped entry place = cc in
        let numbers = at w.output w.output.lost event in
        (found.0, found.1, found.2 ∙ numbers.0, found.3 ∙ numbers.1)

-- a delivery or a loss comes next only where it is that of the oldest message
oldest : (event : Event) (live : Bool) (line : Option Inner) (ws : List Waiting) → MayBeDone event (cond live (line_or_first line ws) None) → MayBeDone event (line_or_first None ws)
oldest (Deliver entry place) true None ws is = is
oldest (Deliver entry place) true (Some inner) ws is = absurd cc
oldest (Deliver entry place) false line ws is = absurd cc
oldest (Dropped entry place) true None ws is = is
oldest (Dropped entry place) true (Some inner) ws is = absurd cc
oldest (Dropped entry place) false line ws is = absurd cc
oldest (OfItself inner) live line ws is = tt

pub has_done : (event : Event) (old new : Inbox) → AreCountedBy event old.watch new.watch → new.fates ≡ old.fates → new.routes ≡ old.routes
    → new.waiting.items ≡ settled event old.waiting.items → HasDone event old new
has_done event old new counted fates routes waiting = λ script actor parcels own e is by of may short. record {
  watch = watch_is script own e actor old.watch new.watch is.watch by (subst (λ (x : Event). AreCountedBy x old.watch new.watch) (sym of) counted) short;
  fates = subst (AreFates script.plan) (sym fates) is.fates;
  routes = subst (λ f. AreCountsFor f parcels new.routes) (sym fates) (subst (AreCountsFor old.fates parcels) (sym routes) is.routes);
  waiting = waiting ∙ ap (settled event) is.waiting ∙ ap (λ (x : Event). settled x (waiting_among script own [] parcels)) (sym of)
      ∙ sym (settled_is script own e [] parcels is.apart (first script actor parcels own e of may));
  apart = is.apart;
  told = (done_given script own parcels e.event (first script actor parcels own e of may), is.told);
}
  where
    first : (script : Script) (actor : ActorName) (parcels : List Parcel) (own : List Entry) (e : Entry) → e.event ≡ event → MayBeDone event (next_event script actor parcels own)
        → MayBeDone e.event (line_or_first None (waiting_among script own [] parcels))
    first script actor parcels own e of may =
        oldest e.event (lives_yet own actor) (due_of script own actor) (waiting_among script own [] parcels)
        (subst (λ (x : Event). MayBeDone x (next_event script actor parcels own)) (sym of) may)

    watch_is : (script : Script) (own : List Entry) (e : Entry) (a : ActorName) (w w' : Option Watch) → IsWatchOf script own a w → e.actor ≡ a → AreCountedBy e.event w w'
        → length own + 1 < 2 ^ 64 → IsWatchOf script (e ∷ own) a w'
    watch_is script own e (Process s) None w' none by counted short = absurd none
    watch_is script own e (Process s) (Some w) None watch by counted short = absurd counted
    watch_is script own e (Process s) (Some w) (Some w') watch by counted short =
        watch_more script own e w s watch w' (ap (λ (a : ActorName). same_name a (Process s)) by ∙ same_name_refl (Process s)) short counted
    watch_is script own e (Executor s) None None watch by counted short = tt
    watch_is script own e (Executor s) None (Some w') watch by counted short = absurd counted
    watch_is script own e (Executor s) (Some w) w' some by counted short = absurd some
    watch_is script own e (Session s) None None watch by counted short = tt
    watch_is script own e (Session s) None (Some w') watch by counted short = absurd counted
    watch_is script own e (Session s) (Some w) w' some by counted short = absurd some
