-- What an inbox says comes next is so in the journal that its messages and its entries are of. Used by an inbox's next event.
use Rattle.std.proofs.Common.{◌≡◌, ℕ, suc, ◌<◌, inl, inr, Bool, true, false, cond, List, [], ◌∷◌, ◌++◌, length, Option, Some, None, refl, sym, ap, subst, ◌∙◌, append_assoc, arith}
use Rattle.std.proofs.lemmas.Bool.{and_from, and_left, and_parts, and_right, cases_Bool, cond-false, cond-true, eq-eqb, eqb-true, le-leb, le-ltb, lt-leb, lt-ltb, ltb-false, ltb-true, ne_eqb, or_from, or_left, or_right}
use Rattle.std.proofs.lemmas.List.{length-append}
use Rattle.std.proofs.lemmas.List.Elements.{filter-append}
use Rattle.std.specs.List.{list_any}
use Rattle.std.specs.Prelude.{◌==◌, ◌&&◌, ◌||◌, filter, nat_le, nat_lt, not, slice_get}
use Rattle.tp_base.proofs.Each.{each_in, each_of}
use Rattle.tp_base.proofs.Members.{in_either}
use Rattle.tp_base.proofs.Orders.{ascends_before, ascends_right}
use Rattle.tp_base.proofs.SameNames.{same_name_is, same_name_refl}
use Rattle.tp_base.specs.Lists.{Ascends, IsIn}
use Rattle.tp_base.specs.Names.{same_name}
use Rattle.tp_base.specs.declared.names.ActorName.{ActorName}
use Rattle.tp_base.specs.declared.names.ActorName.TheVariants.{Process, Executor, Session}
use Rattle.tp_base.specs.declared.names.Site.{Site}
use Rattle.tp_netbook.proofs.Outputs.{filter_like}
use Rattle.tp_netbook.proofs.Parts.{and_true}
use Rattle.tp_netbook.specs.Inbox.{FollowsNext, HasNoneLeft, entries_by, fate_after, line_or_first, lives_yet, message_for, next_event, output_with, sent_to, waiting_among, waits}
use Rattle.tp_fates.specs.Deliveries.{loses}
use Rattle.tp_netbook.specs.Outputs.{event_of, output_of}
use Rattle.tp_fates.specs.Routes.{next_number, route_of, same_route}
use Rattle.tp_netbook.specs.declared.inbox.Waiting.{Waiting}
use Rattle.tp_netbook.specs.declared.output.Output.{Output}
use Rattle.tp_rules.proofs.sent.Parcels.{numbered_parts, output_sent, parcel, sent_output, sent_within}
use Rattle.tp_rules.proofs.lists.Tallies.{filter_in, filter_no, filter_none, filter_yes, in_filter}
use Rattle.tp_rules.specs.Journal.{has_crashed, is_crash, is_delivery_of, is_live, is_loss_of, numbered, output_at, sent}
use Rattle.tp_rules.specs.Plan.{Fate, Lost, Times, deliveries, deliveries_left, due, due_of, fate_by, fate_of, if_due, is_counted_to, is_planned, left_by, ordinal_of, plan_of, was_lost}
use Rattle.tp_rules.specs.Runs.{FollowsLine, IsFor, IsFreeHistory, IsLost, MayHappen}
use Rattle.tp_rules.specs.declared.event.Entry.{Entry}
use Rattle.tp_rules.specs.declared.event.Event.{Event}
use Rattle.tp_rules.specs.declared.event.Event.TheVariants.{Deliver, Dropped, Inner as OfItself}
use Rattle.tp_rules.specs.declared.event.Inner.{Inner}
use Rattle.tp_rules.specs.declared.event.Parcel.{Parcel}
use Rattle.tp_script.specs.declared.script.Script.{Script}
use Rattle.tp_wire.specs.declared.message.Message.{Message}

-- lists

through : {X : Type 0} (p q : X → Bool) (xs : List X) → ((x : X) → IsIn x xs → q x ≡ true → p x ≡ true) → filter q (filter p xs) ≡ filter q xs
through p q [] h = refl
through {X} p q (x ∷ xs) h =
    let rest : filter q (filter p xs) ≡ filter q xs = through p q xs (λ y k. h y (inr k)) in
    elim (cases_Bool (p x)) [
      | inl t ↦ ap (filter q) (filter_yes p x xs t) ∙ ap (λ (l : List X). cond (q x) (x ∷ l) l) rest
      | inr f ↦ ap (filter q) (filter_no p x xs f) ∙ rest ∙ sym (filter_no q x xs (elim (cases_Bool (q x)) [
        | inl does ↦ let both : true ≡ false = sym (h x (inl refl) does) ∙ f in absurd cc
        | inr not_so ↦ not_so
      ]))
    ]

any_through : {X : Type 0} (p q : X → Bool) (xs : List X) → ((x : X) → IsIn x xs → q x ≡ true → p x ≡ true) → list_any q (filter p xs) ≡ list_any q xs
any_through p q [] h = refl
any_through {X} p q (x ∷ xs) h =
    let rest : list_any q (filter p xs) ≡ list_any q xs = any_through p q xs (λ y k. h y (inr k)) in
    elim (cases_Bool (p x)) [
      | inl t ↦ ap (list_any q) (filter_yes p x xs t) ∙ ap (λ (b : Bool). q x || b) rest
      | inr f ↦ ap (list_any q) (filter_no p x xs f) ∙ rest ∙ sym (ap (λ (b : Bool). b || list_any q xs) (kept f))
    ]
  where
    kept : p x ≡ false → q x ≡ false
    kept f = elim (cases_Bool (q x)) [
      | inl does ↦ let both : true ≡ false = sym (h x (inl refl) does) ∙ f in absurd cc
      | inr not_so ↦ not_so
    ]

-- an actor's own entries tell what lines are due and whether its site has crashed

abbrev by_actor : ActorName → Entry → Bool
by_actor a e = same_name e.actor a

same_due : (script : Script) (older : List Entry) (a : ActorName) → due_of script (entries_by a older) a ≡ due_of script older a
unfolding due
same_due script older (Process s) =
    ap (λ (l : List Entry). if_due (length l) (slice_get (plan_of script s) (length (filter (λ e. is_planned e.event) l))))
    (through (by_actor (Process s)) (by_actor (Process s)) older (λ x h t. t))
same_due script older (Executor s) = refl
same_due script older (Session s) = refl

same_crash : (older : List Entry) (s : Site) → has_crashed (entries_by (Process s) older) s ≡ has_crashed older s
same_crash older s =
    any_through (by_actor (Process s)) (λ e. same_name e.actor (Process s) && is_crash e.event) older
    (λ x h t. (and_parts (same_name x.actor (Process s)) (is_crash x.event) t).0)

-- who delivers or loses an output is its addressee

found_before : (older : List Entry) (e : Entry) (entry place : ℕ) (m : Message) → output_at older entry place ≡ Some m → output_at (e ∷ older) entry place ≡ Some m
found_before older e entry place m at =
    let within = sent_within older (parcel entry place m) (output_sent older entry place m at) in
    cond-false (entry == suc (length older)) _ _ (ne_eqb entry (suc (length older)) (λ same. omega (arith, within.1))) ∙ at

still_for : (older : List Entry) (e : Entry) (a : ActorName) (entry place : ℕ) → IsFor a (output_at older entry place) → IsFor a (output_at (e ∷ older) entry place)
still_for older e a entry place h = by (output_at older entry place) refl h
  where
    by : (o : Option Message) → output_at older entry place ≡ o → IsFor a o → IsFor a (output_at (e ∷ older) entry place)
    by None at k = absurd k
    by (Some m) at k = subst (IsFor a) (sym (found_before older e entry place m at)) k

abbrev takes : ℕ → ℕ → Event → Bool
takes entry place event = is_delivery_of entry place event || is_loss_of entry place event

taker : (script : Script) (older : List Entry) → IsFreeHistory script older → (entry place : ℕ) (x : Entry) → IsIn x older
    → takes entry place x.event ≡ true → IsFor x.actor (output_at older entry place)
taker script [] history entry place x h does = absurd h
taker script (e ∷ older) history entry place x (inr h) does = still_for older e x.actor entry place (taker script older history.0 entry place x h does)
taker script (e ∷ older) history entry place x (inl is) does =
    still_for older e x.actor entry place (subst (λ (y : Entry). IsFor y.actor (output_at older entry place)) (sym is) (by e.event history.1.may (ap (λ (y : Entry). takes entry place y.event) (sym is) ∙ does)))
  where
    at : (k j : ℕ) → IsFor e.actor (output_at older k j) → ((k == entry) && (j == place)) ≡ true → IsFor e.actor (output_at older entry place)
    at k j may t =
        let parts = and_parts (k == entry) (j == place) t in
        subst (λ (n : ℕ). IsFor e.actor (output_at older entry n)) (eqb-true j place parts.1)
        (subst (λ (n : ℕ). IsFor e.actor (output_at older n j)) (eqb-true k entry parts.0) may)

    unor : (b : Bool) → (b || false) ≡ true → b ≡ true
    unor true h = refl
    unor false h = absurd cc

    by : (event : Event) → MayHappen script older e.actor event → takes entry place event ≡ true → IsFor e.actor (output_at older entry place)
    by (Deliver k j) may t = at k j may (unor _ t)
    by (Dropped k j) may t = at k j may t
    by (OfItself inner) may t = absurd cc

same_addressee : (a b : ActorName) (o : Option Message) → IsFor a o → IsFor b o → same_name b a ≡ true
same_addressee a b None h k = absurd h
same_addressee a b (Some m) h k = subst (λ (x : ActorName). same_name x a ≡ true) (sym h ∙ k) (same_name_refl a)

module _ (script : Script) (older : List Entry) (history : IsFreeHistory script older) (a : ActorName) where
  module _ (entry place : ℕ) (to : IsFor a (output_at older entry place)) where
    own_takes : (x : Entry) → IsIn x older → takes entry place x.event ≡ true → by_actor a x ≡ true
    own_takes x h does = same_addressee a x.actor (output_at older entry place) to (taker script older history entry place x h does)

    same_deliveries : deliveries (entries_by a older) entry place ≡ deliveries older entry place
    same_deliveries = ap length (through (by_actor a) (λ x. is_delivery_of entry place x.event) older (λ x h t. own_takes x h (or_left _ _ t)))

    same_lost : was_lost (entries_by a older) entry place ≡ was_lost older entry place
    same_lost = any_through (by_actor a) (λ x. is_loss_of entry place x.event) older (λ x h t. own_takes x h (or_right _ _ t))

-- outputs in the order in which they were sent

abbrev pub is_before : Parcel → Parcel → Bool
is_before p q = nat_lt p.entry q.entry || ((p.entry == q.entry) && nat_lt p.place q.place)

ascends_both : {X : Type 0} (before : X → X → Bool) (xs ys : List X) → Ascends before xs → Ascends before ys
    → ((x y : X) → IsIn x xs → IsIn y ys → before x y ≡ true) → Ascends before (xs ++ ys)
ascends_both before [] ys h k over = k
ascends_both before (x ∷ xs) ys h k over = (
  each_of (λ y. before x y ≡ true) (xs ++ ys) (λ y i. elim (in_either xs ys y i) [
    | inl old ↦ each_in (λ z. before x z ≡ true) xs y h.0 old
    | inr new ↦ over x y (inl refl) new
  ]),
  ascends_both before xs ys h.1 k (λ z y i j. over z y (inr i) j),
)

pub ascends_filter : {X : Type 0} (before : X → X → Bool) (p : X → Bool) (xs : List X) → Ascends before xs → Ascends before (filter p xs)
ascends_filter before p [] h = tt
ascends_filter before p (x ∷ xs) h = elim (cases_Bool (p x)) [
  | inl t ↦ subst (Ascends before) (sym (filter_yes p x xs t)) (
    each_of (λ y. before x y ≡ true) (filter p xs) (λ y i. each_in (λ z. before x z ≡ true) xs y h.0 (filter_in p xs y i).0),
    ascends_filter before p xs h.1,
  )
  | inr f ↦ subst (Ascends before) (sym (filter_no p x xs f)) (ascends_filter before p xs h.1)
]

numbered_ascends : (n k : ℕ) (ms : List Message) → Ascends is_before (numbered n k ms)
numbered_ascends n k [] = tt
numbered_ascends n k (m ∷ ms) = (
  each_of (λ q. is_before (parcel n k m) q ≡ true) (numbered n (suc k) ms) (λ q h.
      let parts = numbered_parts n (suc k) ms q h in
      or_right _ _ (and_from _ _ (eq-eqb n q.entry (sym parts.0)) (lt-ltb k q.place (omega (arith, parts.1))))),
  numbered_ascends n (suc k) ms,
)

pub sent_ascends : (older : List Entry) → Ascends is_before (sent older)
sent_ascends [] = tt
sent_ascends (e ∷ older) = ascends_both is_before (sent older) (numbered (suc (length older)) 1 e.outputs) (sent_ascends older)
    (numbered_ascends (suc (length older)) 1 e.outputs)
    (λ p q h k.
    let within = sent_within older p h in
    let parts = numbered_parts (suc (length older)) 1 e.outputs q k in
    or_left _ _ (lt-ltb p.entry q.entry (omega (arith, within.1, parts.0))))

not_later : (p q : Parcel) → is_before q p ≡ true → (nat_lt q.entry p.entry || ((q.entry == p.entry) && nat_le q.place p.place)) ≡ true
not_later p q h = elim (cases_Bool (nat_lt q.entry p.entry)) [
  | inl t ↦ or_left _ _ t
  | inr f ↦
      let same : ((q.entry == p.entry) && nat_lt q.place p.place) ≡ true = ap (λ (b : Bool). b || ((q.entry == p.entry) && nat_lt q.place p.place)) (sym f) ∙ h in
      let parts = and_parts _ _ same in
      or_right _ _ (and_from _ _ parts.0 (le-leb q.place p.place (let lt = ltb-true q.place p.place parts.1 in omega (arith, lt))))
]

is_later : (p q : Parcel) → is_before p q ≡ true → (nat_lt q.entry p.entry || ((q.entry == p.entry) && nat_le q.place p.place)) ≡ false
is_later p q h = elim (cases_Bool (nat_lt p.entry q.entry)) [
  | inl t ↦
      let lt = ltb-true p.entry q.entry t in
      or_from _ _ (le-ltb q.entry p.entry (omega (arith, lt))) (and_left _ _ (ne_eqb q.entry p.entry (λ same. omega (arith, lt))))
  | inr f ↦
      let same : ((p.entry == q.entry) && nat_lt p.place q.place) ≡ true = ap (λ (b : Bool). b || ((p.entry == q.entry) && nat_lt p.place q.place)) (sym f) ∙ h in
      let parts = and_parts _ _ same in
      let entries = eqb-true p.entry q.entry parts.0 in
      let lt = ltb-true p.place q.place parts.1 in
      or_from _ _ (le-ltb q.entry p.entry (omega (arith, entries))) (and_right _ _ (lt-leb q.place p.place (omega (arith, lt))))
]

module _ (older : List Entry) (a : ActorName) (before ps : List Parcel) (p : Parcel) (whole : sent_to a older ≡ before ++ p ∷ ps) where
  abbrev to_a : Parcel → Bool
  to_a q = same_name q.message.to a

  in_whole : (l : List Parcel) → IsIn p (l ++ p ∷ ps)
  in_whole [] = inl refl
  in_whole (q ∷ l) = inr (in_whole l)

  its : IsIn p (sent older) × (to_a p ≡ true)
  its = filter_in to_a (sent older) p (subst (IsIn p) (sym whole) (in_whole before))

  addressee : p.message.to ≡ a
  addressee = same_name_is p.message.to a its.1

  -- the number among the messages to the actor is that among all
  number_is : ordinal_of older p ≡ next_number before p
  number_is =
      let test = is_counted_to p in
      let alike = λ (q : Parcel). same_route (route_of q) (route_of p) in
      let order : Ascends is_before (before ++ p ∷ ps) = subst (Ascends is_before) whole (ascends_filter is_before to_a (sent older) (sent_ascends older)) in
      let some : filter test (sent older) ≡ filter test (before ++ p ∷ ps) =
      sym (through to_a test (sent older) (λ q h t.
      let route : (same_name q.message.from p.message.from && same_name q.message.to p.message.to) ≡ true = counted_route q t in
      ap (λ (x : ActorName). same_name q.message.to x) (sym addressee) ∙ (and_parts (same_name q.message.from p.message.from) (same_name q.message.to p.message.to) route).1))
      ∙ ap (filter test) whole in
      let old : filter test before ≡ filter alike before =
      filter_like alike test before (λ q h. ap (λ (b : Bool). alike q && b) (not_later p q (ascends_before is_before before (p ∷ ps) q p order h (inl refl))) ∙ and_true (alike q)) in
      let itself : test p ≡ true = and_from (alike p) _ (and_from _ _ (same_name_refl p.message.from) (same_name_refl p.message.to))
      (or_right (nat_lt p.entry p.entry) _ (and_from (p.entry == p.entry) (nat_le p.place p.place) (eq-eqb p.entry p.entry refl) (le-leb p.place p.place (omega arith)))) in
      let none : filter test ps ≡ [] = filter_none test ps (λ q h. and_right (alike q) _ (is_later p q (each_in (λ z. is_before p z ≡ true) ps q (ascends_right is_before before (p ∷ ps) order).0 h))) in
      ap length some
      ∙ ap length (filter-append test before (p ∷ ps))
      ∙ ap (λ (l : List Parcel). length (l ++ filter test (p ∷ ps))) old
      ∙ ap (λ (l : List Parcel). length (filter alike before ++ l)) (filter_yes test p ps itself ∙ ap (λ (l : List Parcel). p ∷ l) none)
      ∙ length-append (filter alike before) (p ∷ [])
    where
      counted_route : (q : Parcel) → is_counted_to p q ≡ true → (same_name q.message.from p.message.from && same_name q.message.to p.message.to) ≡ true
      counted_route q t = (and_parts _ _ t).0

  for_actor : IsFor a (output_at older p.entry p.place)
  for_actor = subst (IsFor a) (sym (sent_output older p its.0)) addressee

  output_is : (script : Script) → IsFreeHistory script older → output_with (fate_after script before p) (entries_by a older) p ≡ output_of script older p
  unfolding fate_of deliveries_left
  output_is script history =
      let fate : fate_after script before p ≡ fate_of script older p = ap (λ (n : ℕ). fate_by script.plan p.message.from p.message.to n) (sym number_is) in
      let left : left_by (fate_after script before p) (deliveries (entries_by a older) p.entry p.place) (was_lost (entries_by a older) p.entry p.place)
      ≡ left_by (fate_of script older p) (deliveries older p.entry p.place) (was_lost older p.entry p.place) =
      ap (λ (f : Fate). left_by f (deliveries (entries_by a older) p.entry p.place) (was_lost (entries_by a older) p.entry p.place)) fate
      ∙ ap (λ (n : ℕ). left_by (fate_of script older p) n (was_lost (entries_by a older) p.entry p.place)) (same_deliveries script older history a p.entry p.place for_actor)
      ∙ ap (λ (b : Bool). left_by (fate_of script older p) (deliveries older p.entry p.place) b) (same_lost script older history a p.entry p.place for_actor) in
      λ i. record { entry = p.entry; place = p.place; to = p.message.to; lost = loses (fate i); left = left i }

-- what waits

-- the messages of which something is left
abbrev left_among : Script → List Entry → List Parcel → List Waiting
left_among script older [] = []
left_among script older (p ∷ ps) = waits (output_of script older p) p.message ++ left_among script older ps

module _ (script : Script) (older : List Entry) (history : IsFreeHistory script older) (a : ActorName) where
  among_is : (before ps : List Parcel) → sent_to a older ≡ before ++ ps → waiting_among script (entries_by a older) before ps ≡ left_among script older ps
  among_is before [] whole = refl
  among_is before (p ∷ ps) whole =
      ap (λ (o : Output). waits o p.message ++ waiting_among script (entries_by a older) (before ++ p ∷ []) ps) (output_is older a before ps p whole script history)
      ∙ ap (λ (l : List Waiting). waits (output_of script older p) p.message ++ l)
      (among_is (before ++ p ∷ []) ps (whole ∙ sym (append_assoc before (p ∷ []) ps)))

  whole_is : waiting_among script (entries_by a older) [] (sent_to a older) ≡ left_among script older (sent_to a older)
  whole_is = among_is [] (sent_to a older) refl

  abbrev waits_as : Parcel → Waiting
  waits_as p = record { output = output_of script older p; message = p.message }

  -- the first is a message of which something is left
  first_left : (ps : List Parcel) (w : Waiting) (ws : List Waiting) → left_among script older ps ≡ w ∷ ws
      → (p : Parcel) × IsIn p ps × (w ≡ waits_as p) × (nat_lt 0 (deliveries_left script older p) ≡ true)
  first_left [] w ws e = absurd cc
  first_left (p ∷ ps) w ws e = elim (cases_Bool (nat_lt 0 (deliveries_left script older p))) [
    | inl t ↦
        let here : left_among script older (p ∷ ps) ≡ record { output = output_of script older p; message = p.message } ∷ left_among script older ps =
        ap (λ (l : List Waiting). l ++ left_among script older ps) (cond-true (nat_lt 0 (deliveries_left script older p)) (record { output = output_of script older p; message = p.message } ∷ []) [] t) in
        let both : record { output = output_of script older p; message = p.message } ∷ left_among script older ps ≡ w ∷ ws = sym here ∙ e in
        let first : record { output = output_of script older p; message = p.message } ≡ w = cc in
        (p, inl refl, sym first, t)
    | inr f ↦
        let here : left_among script older (p ∷ ps) ≡ left_among script older ps =
        ap (λ (l : List Waiting). l ++ left_among script older ps) (cond-false (nat_lt 0 (deliveries_left script older p)) (record { output = output_of script older p; message = p.message } ∷ []) [] f) in
        let rest = first_left ps w ws (sym here ∙ e) in
        (rest.0, inr rest.1, rest.2, rest.3)
  ]

  none_left : (ps : List Parcel) → left_among script older ps ≡ [] → (p : Parcel) → IsIn p ps → deliveries_left script older p ≡ 0
  none_left [] e p h = absurd h
  none_left (q ∷ ps) e p h = elim (cases_Bool (nat_lt 0 (deliveries_left script older q))) [
    | inl t ↦
        let here : left_among script older (q ∷ ps) ≡ record { output = output_of script older q; message = q.message } ∷ left_among script older ps =
        ap (λ (l : List Waiting). l ++ left_among script older ps) (cond-true (nat_lt 0 (deliveries_left script older q)) (record { output = output_of script older q; message = q.message } ∷ []) [] t) in
        let both : record { output = output_of script older q; message = q.message } ∷ left_among script older ps ≡ [] = sym here ∙ e in
        absurd cc
    | inr f ↦
        let here : left_among script older (q ∷ ps) ≡ left_among script older ps =
        ap (λ (l : List Waiting). l ++ left_among script older ps) (cond-false (nat_lt 0 (deliveries_left script older q)) (record { output = output_of script older q; message = q.message } ∷ []) [] f) in
        elim h [
          | inl is ↦ ap (deliveries_left script older) is ∙ zero_of (deliveries_left script older q) f
          | inr later ↦ none_left ps (sym here ∙ e) p later
        ]
  ]
    where
      zero_of : (n : ℕ) → nat_lt 0 n ≡ false → n ≡ 0
      zero_of n h = let few = ltb-false 0 n h in omega (arith, few)

  -- the event of a message follows the plan
  its_event : (p : Parcel) → IsIn p (sent older) → p.message.to ≡ a → nat_lt 0 (deliveries_left script older p) ≡ true → due_of script older a ≡ None
      → FollowsNext script older a (event_of (output_of script older p))
  its_event p h to some undue = by (loses (fate_of script older p)) refl
    where
      there : output_at older p.entry p.place ≡ Some p.message
      there = sent_output older p h

      for_it : IsFor a (output_at older p.entry p.place)
      for_it = subst (IsFor a) (sym there) to

      same : (m : Message) → output_at older p.entry p.place ≡ Some m → p ≡ parcel p.entry p.place m
      same m at = let both : Some p.message ≡ Some m = sym there ∙ at in let one : p.message ≡ m = cc in ap (parcel p.entry p.place) one

      lost_is : (f : Fate) → loses f ≡ true → IsLost f
      lost_is Lost e = tt
      lost_is (Times n) e = absurd cc

      kept_is : (f : Fate) → loses f ≡ false → ¬ IsLost f
      kept_is Lost e = absurd cc
      kept_is (Times n) e = λ k. k

      by : (b : Bool) → loses (fate_of script older p) ≡ b → FollowsNext script older a (event_of (output_of script older p))
      by true lost = subst (FollowsNext script older a) (ap (λ (l : Bool). cond l (Dropped p.entry p.place) (Deliver p.entry p.place)) (sym lost)) (record {
        sent = for_it;
        line = subst (λ (o : Option Inner). FollowsLine o (Dropped p.entry p.place)) (sym undue) refl;
        fate = λ m at. subst (λ (q : Parcel). IsLost (fate_of script older q) × (0 < deliveries_left script older q)) (same m at)
            (lost_is (fate_of script older p) lost, ltb-true 0 (deliveries_left script older p) some);
      })
      by false kept = subst (FollowsNext script older a) (ap (λ (l : Bool). cond l (Dropped p.entry p.place) (Deliver p.entry p.place)) (sym kept)) (record {
        sent = for_it;
        line = subst (λ (o : Option Inner). FollowsLine o (Deliver p.entry p.place)) (sym undue) refl;
        fate = λ m at. subst (λ (q : Parcel). (¬ IsLost (fate_of script older q)) × (0 < deliveries_left script older q)) (same m at)
            (kept_is (fate_of script older p) kept, ltb-true 0 (deliveries_left script older p) some);
      })

  abbrev comes : Option Event
  comes = next_event script a (sent_to a older) (entries_by a older)

  pub next_follows : (event : Event) → comes ≡ Some event → FollowsNext script older a event
  next_follows event is = by (lives_yet (entries_by a older) a) (due_of script older a) (left_among script older (sent_to a older)) refl refl
      (ap (λ (line : Option Inner). cond (lives_yet (entries_by a older) a) (line_or_first line (left_among script older (sent_to a older))) None) (sym (same_due script older a))
      ∙ ap (λ (ws : List Waiting). cond (lives_yet (entries_by a older) a) (line_or_first (due_of script (entries_by a older) a) ws) None) (sym whole_is) ∙ is)
    where
      by : (live : Bool) (line : Option Inner) (ws : List Waiting) → due_of script older a ≡ line → left_among script older (sent_to a older) ≡ ws
          → cond live (line_or_first line ws) None ≡ Some event → FollowsNext script older a event
      by false line ws d l e = absurd cc
      by true (Some inner) ws d l e =
          let its : OfItself inner ≡ event = cc in
          subst (FollowsNext script older a) its (record { sent = tt; line = subst (λ (o : Option Inner). FollowsLine o (OfItself inner)) (sym d) refl; fate = tt })
      by true None [] d l e = absurd cc
      by true None (w ∷ ws) d l e =
          let found = first_left (sent_to a older) w ws l in
          let is_to = filter_in (λ (q : Parcel). same_name q.message.to a) (sent older) found.0 found.1 in
          let its : event_of w.output ≡ event = cc in
          subst (FollowsNext script older a) (sym (ap (λ (x : Waiting). event_of x.output) found.2) ∙ its)
          (its_event found.0 is_to.0 (same_name_is found.0.message.to a is_to.1) found.3 d)

  -- the message that is delivered next is the one that was sent there
  pub message_is : (entry place : ℕ) → comes ≡ Some (Deliver entry place)
      → message_for (waiting_among script (entries_by a older) [] (sent_to a older)) entry place ≡ output_at older entry place
  message_is entry place is = ap (λ (ws : List Waiting). message_for ws entry place) whole_is
      ∙ by (lives_yet (entries_by a older) a) (due_of script (entries_by a older) a) (left_among script older (sent_to a older)) refl
      (ap (λ (ws : List Waiting). cond (lives_yet (entries_by a older) a) (line_or_first (due_of script (entries_by a older) a) ws) None) (sym whole_is) ∙ is)
    where
      numbers : (p : Parcel) (b : Bool) → cond b (Dropped p.entry p.place) (Deliver p.entry p.place) ≡ Deliver entry place → (p.entry ≡ entry) × (p.place ≡ place)
      numbers p true e = absurd cc
      numbers p false e = let entries : p.entry ≡ entry = cc in let places : p.place ≡ place = cc in (entries, places)

      by : (live : Bool) (line : Option Inner) (ws : List Waiting) → left_among script older (sent_to a older) ≡ ws
          → cond live (line_or_first line ws) None ≡ Some (Deliver entry place) → message_for ws entry place ≡ output_at older entry place
      by false line ws l e = absurd cc
      by true (Some inner) ws l e = absurd cc
      by true None [] l e = absurd cc
      by true None (w ∷ ws) l e =
          let found = first_left (sent_to a older) w ws l in
          let is_to = filter_in (λ (q : Parcel). same_name q.message.to a) (sent older) found.0 found.1 in
          let event : event_of w.output ≡ Deliver entry place = cc in
          let at = numbers found.0 (loses (fate_of script older found.0)) (sym (ap (λ (x : Waiting). event_of x.output) found.2) ∙ event) in
          let test : ((w.output.entry == entry) && (w.output.place == place)) ≡ true =
          ap (λ (x : Waiting). (x.output.entry == entry) && (x.output.place == place)) found.2
          ∙ and_from _ _ (eq-eqb found.0.entry entry at.0) (eq-eqb found.0.place place at.1) in
          cond-true ((w.output.entry == entry) && (w.output.place == place)) (Some w.message) None test
          ∙ ap (λ (x : Waiting). Some x.message) found.2
          ∙ sym (sent_output older found.0 is_to.0)
          ∙ ap (λ (n : ℕ). output_at older n found.0.place) at.0 ∙ ap (λ (n : ℕ). output_at older entry n) at.1

  pub none_follows : lives_yet (entries_by a older) a ≡ true → comes ≡ None → HasNoneLeft script older a
  none_follows live is = by (due_of script older a) (left_among script older (sent_to a older)) refl refl
      (sym (cond-true (lives_yet (entries_by a older) a) (line_or_first (due_of script older a) (left_among script older (sent_to a older))) None live)
      ∙ ap (λ (line : Option Inner). cond (lives_yet (entries_by a older) a) (line_or_first line (left_among script older (sent_to a older))) None) (sym (same_due script older a))
      ∙ ap (λ (ws : List Waiting). cond (lives_yet (entries_by a older) a) (line_or_first (due_of script (entries_by a older) a) ws) None) (sym whole_is) ∙ is)
    where
      by : (line : Option Inner) (ws : List Waiting) → due_of script older a ≡ line → left_among script older (sent_to a older) ≡ ws
          → line_or_first line ws ≡ None → HasNoneLeft script older a
      by (Some inner) ws d l e = absurd cc
      by None (w ∷ ws) d l e = absurd cc
      by None [] d l e = record {
        line = d;
        messages = λ p h to. none_left (sent_to a older) l p
            (in_filter (λ (q : Parcel). same_name q.message.to a) (sent older) p h (ap (λ (x : ActorName). same_name x a) to ∙ same_name_refl a));
      }

  pub lives_same : is_live older a ≡ true → lives_yet (entries_by a older) a ≡ true
  lives_same live = by a live
    where
      by : (b : ActorName) → is_live older b ≡ true → lives_yet (entries_by b older) b ≡ true
      by (Process s) h = ap not (same_crash older s) ∙ h
      by (Executor s) h = refl
      by (Session s) h = refl
