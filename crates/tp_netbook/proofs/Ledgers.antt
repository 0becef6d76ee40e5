-- What a ledger says of a journal, and what it says after one more entry. Used by its functions.
use Rattle.std.proofs.Common.{◌≡◌, ◌≢◌, ℕ, zero, suc, ◌+◌, ◌-◌, ◌<◌, ◌≤◌, ◌^◌, inl, inr, Bool, true, false, cond, List, [], ◌∷◌, ◌++◌, length, set, Option, Some, None, refl, sym, ap, subst, ◌∙◌, append_assoc, arith}
use Rattle.std.proofs.lemmas.Bool.{and_left, and_parts, and_right, cases_eq, cond-false, cond-true, eq-eqb, eqb-true, lt-ltb, ltb-true, ne_eqb}
use Rattle.std.proofs.lemmas.List.{append-nil, length-append, length-reverse, length-set}
use Rattle.std.proofs.lemmas.Option.{slice_get_within}
use Rattle.std.specs.Prelude.{◌==◌, ◌&&◌, ◌↔◌, not, IsTrue, option_map, reverse, slice_get}
use Rattle.tp_base.proofs.Ends.{get_set_other, get_set_same, reverse_push}
use Rattle.tp_base.proofs.Members.{in_either}
use Rattle.tp_base.proofs.SameNames.{same_name_not, same_name_refl}
use Rattle.tp_base.specs.Lists.{IsIn}
use Rattle.tp_base.specs.Names.{same_name}
use Rattle.tp_base.specs.Tables.{nth}
use Rattle.tp_base.specs.declared.names.ActorName.{ActorName}
use Rattle.tp_base.specs.declared.names.ActorName.TheVariants.{Process, Executor, Session}
use Rattle.tp_base.specs.declared.names.Site.{Site}
use Rattle.tp_netbook.proofs.NewOutputs.{IsEarlier, fate_is}
use Rattle.tp_netbook.proofs.Outputs.{left_at_first, passed_is, sent_few}
use Rattle.tp_netbook.proofs.Places.{get_sites, sites_get}
use Rattle.tp_netbook.proofs.Watches.{due_is, watch_more, watch_same}
use Rattle.tp_fates.specs.Fates.{AreCountsFor, AreFates, TellsNext, fate_of as given_as}
use Rattle.tp_fates.specs.declared.fate.Fate.{Fate as FateValue}
use Rattle.tp_fates.specs.Deliveries.{first_left, left_in, same_slot, taken}
use Rattle.tp_netbook.specs.Ledger.{AreSeen, AreSeenAt, IsLedger, KeepsPlan, Sends, due_line, is_alive, is_left, left_after, left_of, left_with, line_of, may_come, parcel_at, watch_of}
use Rattle.tp_netbook.specs.Netbook.{AreWatches, IsCounted, IsWatch, lives}
use Rattle.tp_fates.specs.Deliveries.{loses}
use Rattle.tp_netbook.specs.Outputs.{output_of, passed}
use Rattle.tp_netbook.specs.Places.{place_of_site}
use Rattle.tp_fates.specs.Routes.{next_number, route_of}
use Rattle.tp_fates.specs.declared.deliveries.Left.{Left}
use Rattle.tp_fates.specs.declared.deliveries.Slot.{Slot}
use Rattle.tp_netbook.specs.declared.ledger.Ledger.{Ledger}
use Rattle.tp_netbook.specs.declared.output.Output.{Output}
use Rattle.tp_netbook.specs.declared.watch.Watch.{Watch}
use Rattle.tp_rules.proofs.Histories.{free_history}
use Rattle.tp_rules.proofs.sent.Parcels.{output_sent, parcel, sent_within}
use Rattle.tp_rules.specs.Journal.{has_crashed, is_known, is_live, numbered, output_at, sent}
use Rattle.tp_rules.specs.Pending.{sites_of}
use Rattle.tp_rules.specs.Plan.{Fate, Lost, Times, deliveries_left, due_of, fate_by, fate_of}
use Rattle.tp_rules.specs.Runs.{FollowsFate, FollowsLine, FollowsPlan, IsFreeHistory, IsHistory, IsLost, IsRun}
use Rattle.tp_rules.specs.declared.event.Entry.{Entry}
use Rattle.tp_rules.specs.declared.event.Event.{Event}
use Rattle.tp_rules.specs.declared.event.Event.TheVariants.{Deliver, Dropped, Inner as OfItself}
use Rattle.tp_rules.specs.declared.event.Inner.{Inner}
use Rattle.tp_rules.specs.declared.event.Parcel.{Parcel}
use Rattle.tp_script.specs.Accepted.{IsAccepted}
use Rattle.tp_script.specs.declared.script.PlanLine.{PlanLine}
use Rattle.tp_script.specs.declared.script.Script.{Script}
use Rattle.tp_topology.specs.Shape.{is_site_of}
use Rattle.tp_wire.specs.declared.message.Message.{Message}

-- slots

abbrev pub slot : ℕ → ℕ → Slot
slot entry place = record { entry = entry; place = place }

same_slot_is : (a b : Slot) → same_slot a b ≡ true → (a.entry ≡ b.entry) × (a.place ≡ b.place)
same_slot_is a b h =
    let parts = and_parts (a.entry == b.entry) (a.place == b.place) h in
    (eqb-true a.entry b.entry parts.0, eqb-true a.place b.place parts.1)

same_slot_refl : (a b : Slot) → a.entry ≡ b.entry → a.place ≡ b.place → same_slot a b ≡ true
same_slot_refl a b entries places = rw (eq-eqb a.entry b.entry entries, eq-eqb a.place b.place places) refl

none_within : {X : Type 0} (xs : List X) (k : ℕ) → k < length xs → slice_get xs k ≡ None → ⊥
none_within [] k lt e = omega arith
none_within (x ∷ xs) zero lt e = absurd cc
none_within (x ∷ xs) (suc k) lt e = none_within xs k (omega arith) e

-- what it says

module _ (script : Script) (journal : List Entry) (b : Ledger) (is : IsLedger script journal b) where
  watch_is : (s : Site) → is_site_of script.topology s ≡ true → (w : Watch) × (watch_of b s ≡ Some w) × IsWatch script (reverse journal) w s
  watch_is s known = of (slice_get b.sites.items (place_of_site script.topology s)) refl
    where
      there : slice_get (sites_of script) (place_of_site script.topology s) ≡ Some s
      there = get_sites script s known

      same : watch_of b s ≡ slice_get b.sites.items (place_of_site script.topology s)
      same = ap (λ t. slice_get b.sites.items (place_of_site t s)) is.topology

      of : (o : Option Watch) → slice_get b.sites.items (place_of_site script.topology s) ≡ o → (w : Watch) × (watch_of b s ≡ Some w) × IsWatch script (reverse journal) w s
      of (Some w) e = (w, same ∙ e, is.sites.each (place_of_site script.topology s) w s e there)
      of None e =
          let within : place_of_site script.topology s < length (sites_of script) = slice_get_within (sites_of script) (place_of_site script.topology s) s there in
          absurd (none_within b.sites.items (place_of_site script.topology s) (omega (arith, is.sites.many)) e)

  lives_is : (s : Site) → is_site_of script.topology s ≡ true → lives (watch_of b s) ≡ not (has_crashed (reverse journal) s)
  lives_is s known = let found = watch_is s known in ap lives found.1 ∙ found.2.live

  pub alive_is : (a : ActorName) → is_known script a ≡ true → is_alive b a ≡ is_live (reverse journal) a
  alive_is (Process s) known = lives_is s known
  alive_is (Executor s) known = lives_is s known
  alive_is (Session s) known = refl

  line_is : (a : ActorName) → is_known script a ≡ true → due_line b a ≡ due_of script (reverse journal) a
  line_is (Process s) known = let found = watch_is s known in ap line_of found.1 ∙ due_is script (reverse journal) found.0 s found.2
  line_is (Executor s) known = refl
  line_is (Session s) known = refl

  -- what is left of an output

  loss_left : (f : Fate) (n : ℕ) → may_come true (Some (record { lost = loses f; times = n })) ≡ true → IsLost f × (0 < n)
  loss_left Lost n h = (tt, ltb-true 0 n h)
  loss_left (Times k) n h = absurd cc

  left_loss : (f : Fate) (n : ℕ) → IsLost f → 0 < n → may_come true (Some (record { lost = loses f; times = n })) ≡ true
  left_loss Lost n h some = lt-ltb 0 n some
  left_loss (Times k) n h some = absurd h

  delivery_left : (f : Fate) (n : ℕ) → may_come false (Some (record { lost = loses f; times = n })) ≡ true → (¬ IsLost f) × (0 < n)
  delivery_left Lost n h = absurd cc
  delivery_left (Times k) n h = ((λ wrong. wrong), ltb-true 0 n h)

  left_delivery : (f : Fate) (n : ℕ) → (¬ IsLost f) → 0 < n → may_come false (Some (record { lost = loses f; times = n })) ≡ true
  left_delivery Lost n h some = absurd (h tt)
  left_delivery (Times k) n h some = lt-ltb 0 n some

  abbrev older : List Entry
  older = reverse journal

  kept : ℕ → ℕ → Option Left
  kept entry place = option_map (λ m. left_of script older (parcel entry place m)) (output_at older entry place)

  kept_is : (entry place : ℕ) (o : Option Message) → output_at older entry place ≡ o
      → left_in b.deliveries (slot entry place) ≡ option_map (λ m. left_of script older (parcel entry place m)) o
  kept_is entry place o at = is.left (slot entry place) ∙ ap (option_map (λ (m : Message). left_of script older (parcel entry place m))) at

  delivers : (entry place : ℕ) (o : Option Message) → output_at older entry place ≡ o
      → is_left b (Deliver entry place) ≡ true ↔ FollowsFate script older (Deliver entry place)
  delivers entry place None at = (
    (λ _ m there. absurd (let wrong : None ≡ Some m = sym at ∙ there in cc)),
    (λ _. ap (may_come false) (kept_is entry place None at)),
  )
  delivers entry place (Some n) at =
      let p : Parcel = parcel entry place n in
      let here : is_left b (Deliver entry place) ≡ may_come false (Some (left_of script older p)) = ap (may_come false) (kept_is entry place (Some n) at) in (
        (λ yes m there. let same : n ≡ m = (let both : Some n ≡ Some m = sym at ∙ there in cc) in
            subst (λ (x : Message). (¬ IsLost (fate_of script older (parcel entry place x))) × (0 < deliveries_left script older (parcel entry place x))) same
            (delivery_left (fate_of script older p) (deliveries_left script older p) (sym here ∙ yes))),
        (λ follows. let found = follows n at in here ∙ left_delivery (fate_of script older p) (deliveries_left script older p) found.0 found.1),
      )

  loses_it : (entry place : ℕ) (o : Option Message) → output_at older entry place ≡ o
      → is_left b (Dropped entry place) ≡ true ↔ FollowsFate script older (Dropped entry place)
  loses_it entry place None at = (
    (λ _ m there. absurd (let wrong : None ≡ Some m = sym at ∙ there in cc)),
    (λ _. ap (may_come true) (kept_is entry place None at)),
  )
  loses_it entry place (Some n) at =
      let p : Parcel = parcel entry place n in
      let here : is_left b (Dropped entry place) ≡ may_come true (Some (left_of script older p)) = ap (may_come true) (kept_is entry place (Some n) at) in (
        (λ yes m there. let same : n ≡ m = (let both : Some n ≡ Some m = sym at ∙ there in cc) in
            subst (λ (x : Message). IsLost (fate_of script older (parcel entry place x)) × (0 < deliveries_left script older (parcel entry place x))) same
            (loss_left (fate_of script older p) (deliveries_left script older p) (sym here ∙ yes))),
        (λ follows. let found = follows n at in here ∙ left_loss (fate_of script older p) (deliveries_left script older p) found.0 found.1),
      )

  fate_is_left : (event : Event) → is_left b event ≡ true ↔ FollowsFate script older event
  fate_is_left (Deliver entry place) = delivers entry place (output_at older entry place) refl
  fate_is_left (Dropped entry place) = loses_it entry place (output_at older entry place) refl
  fate_is_left (OfItself inner) = ((λ _. tt), (λ _. refl))

  -- both together
  pub follows_is : (e : Entry) → is_known script e.actor ≡ true → (line fate : Bool) → IsTrue line ↔ FollowsLine (due_line b e.actor) e.event → fate ≡ is_left b e.event
      → IsTrue (line && fate) ↔ FollowsPlan script older e
  follows_is e known line fate by_line by_fate = (
    (λ both. let parts = and_parts line fate both in record {
      line = subst (λ (o : Option Inner). FollowsLine o e.event) (line_is e.actor known) (by_line.0 parts.0);
      fate = (fate_is_left e.event).0 (sym by_fate ∙ parts.1);
    }),
    (λ plan. together line fate
        (by_line.1 (subst (λ (o : Option Inner). FollowsLine o e.event) (sym (line_is e.actor known)) plan.line))
        (by_fate ∙ (fate_is_left e.event).1 plan.fate)),
  )
    where
      together : (x y : Bool) → x ≡ true → y ≡ true → (x && y) ≡ true
      together x y a c = rw (a, c) refl

-- what an event takes from what is left

pass_is : (event : Event) (sl : Slot) (to : ActorName) (lost : Bool) (n : ℕ)
    → left_after event sl (Some (record { lost = lost; times = n }))
    ≡ Some (record { lost = lost; times = (passed event (record { entry = sl.entry; place = sl.place; to = to; lost = lost; left = n })).left })
pass_is (Deliver entry place) sl to lost n = by lost ((entry == sl.entry) && (place == sl.place))
  where
    by : (l same : Bool) → cond same (option_map (taken false) (Some (record { lost = l; times = n }))) (Some (record { lost = l; times = n }))
        ≡ Some (record { lost = l; times = cond (not l && same) (n - 1) n })
    by true true = refl
    by true false = refl
    by false true = refl
    by false false = refl
pass_is (Dropped entry place) sl to lost n = by lost ((entry == sl.entry) && (place == sl.place))
  where
    by : (l same : Bool) → cond same (option_map (taken true) (Some (record { lost = l; times = n }))) (Some (record { lost = l; times = n }))
        ≡ Some (record { lost = l; times = cond (l && same) (n - 1) n })
    by true true = refl
    by true false = refl
    by false true = refl
    by false false = refl
pass_is (OfItself inner) sl to lost n = refl

pass_none : (event : Event) (sl : Slot) → left_after event sl None ≡ None
pass_none (Deliver entry place) sl = by ((entry == sl.entry) && (place == sl.place))
  where
    by : (same : Bool) → cond same (option_map (taken false) None) None ≡ None
    by true = refl
    by false = refl
pass_none (Dropped entry place) sl = by ((entry == sl.entry) && (place == sl.place))
  where
    by : (same : Bool) → cond same (option_map (taken true) None) None ≡ None
    by true = refl
    by false = refl
pass_none (OfItself inner) sl = refl

-- what is left after outputs are sent

module _ (plan : List PlanLine) (n : ℕ) where
  left_apart : (before : List Parcel) (k : ℕ) (ms : List Message) (sl : Slot) (left : Option Left) → ((j : ℕ) → k ≤ j → same_slot (slot n j) sl ≡ false)
      → left_with plan before (numbered n k ms) sl left ≡ left
  left_apart before k [] sl left apart = refl
  left_apart before k (m ∷ ms) sl left apart =
      let p : Parcel = parcel n k m in
      ap (left_with plan (before ++ p ∷ []) (numbered n (suc k) ms) sl)
      (cond-false (same_slot (slot n k) sl) (Some (first_left (fate_by plan m.from m.to (next_number before p)))) left (apart k (omega arith)))
      ∙ left_apart (before ++ p ∷ []) (suc k) ms sl left (λ j le. apart j (omega (arith, le)))

  another : (sl : Slot) (j : ℕ) → sl.entry ≢ n → same_slot (slot n j) sl ≡ false
  another sl j apart = and_left (n == sl.entry) (j == sl.place) (ne_eqb n sl.entry (λ same. apart (sym same)))

  elsewhere : (sl : Slot) (j : ℕ) → j ≢ sl.place → same_slot (slot n j) sl ≡ false
  elsewhere sl j apart = and_right (n == sl.entry) (j == sl.place) (ne_eqb j sl.place apart)

  left_past : (before : List Parcel) (k i : ℕ) (ms : List Message) (sl : Slot) (left : Option Left) → sl.place ≡ k + i → slice_get ms i ≡ None
      → left_with plan before (numbered n k ms) sl left ≡ left
  left_past before k i [] sl left place none = refl
  left_past before k zero (m ∷ ms) sl left place none = absurd cc
  left_past before k (suc i) (m ∷ ms) sl left place none =
      let p : Parcel = parcel n k m in
      ap (left_with plan (before ++ p ∷ []) (numbered n (suc k) ms) sl)
      (cond-false (same_slot (slot n k) sl) (Some (first_left (fate_by plan m.from m.to (next_number before p)))) left (elsewhere sl k (λ same. omega (arith, place))))
      ∙ left_past (before ++ p ∷ []) (suc k) i ms sl left (omega (arith, place)) none

module _ (script : Script) (older : List Entry) (e : Entry) (history : IsFreeHistory script (e ∷ older)) where
  abbrev n : ℕ
  n = suc (length older)

  left_here : (before : List Parcel) (k i : ℕ) (ms : List Message) (m : Message) (sl : Slot) (left : Option Left)
      → sent (e ∷ older) ≡ before ++ numbered n k ms → ((q : Parcel) → IsIn q before → IsEarlier n k q)
      → sl.entry ≡ n → sl.place ≡ k + i → slice_get ms i ≡ Some m
      → left_with script.plan before (numbered n k ms) sl left ≡ Some (left_of script (e ∷ older) (parcel_at sl m))
  left_here before k i [] m sl left whole earlier entry place at = absurd cc
  left_here before k zero (x ∷ ms) m sl left whole earlier entry place at =
      let p : Parcel = parcel n k x in
      let what : x ≡ m = cc in
      let here : sl.place ≡ k = omega (arith, place) in
      let fate : fate_of script (e ∷ older) p ≡ fate_by script.plan x.from x.to (next_number before p) = fate_is script older e history before k x ms whole earlier in
      let first : first_left (fate_by script.plan x.from x.to (next_number before p)) ≡ left_of script (e ∷ older) p =
      ap first_left (sym fate) ∙ ap (λ (times : ℕ). record { lost = loses (fate_of script (e ∷ older) p); times = times }) (sym (left_at_first script older e history p refl)) in
      let same : p ≡ parcel_at sl m = ap (λ (j : ℕ). parcel n j x) (sym here) ∙ ap (λ (j : ℕ). parcel j sl.place x) (sym entry) ∙ ap (parcel sl.entry sl.place) what in
      ap (left_with script.plan (before ++ p ∷ []) (numbered n (suc k) ms) sl)
      (cond-true (same_slot (slot n k) sl) (Some (first_left (fate_by script.plan x.from x.to (next_number before p)))) left (same_slot_refl (slot n k) sl (sym entry) (sym here)))
      ∙ left_apart script.plan n (before ++ p ∷ []) (suc k) ms sl (Some (first_left (fate_by script.plan x.from x.to (next_number before p))))
      (λ j le. elsewhere script.plan n sl j (λ same. omega (arith, le, here)))
      ∙ ap (λ (l : Left). Some l) first ∙ ap (λ (q : Parcel). Some (left_of script (e ∷ older) q)) same
  left_here before k (suc i) (x ∷ ms) m sl left whole earlier entry place at =
      let p : Parcel = parcel n k x in
      left_here (before ++ p ∷ []) (suc k) i ms m sl
      (cond (same_slot (slot n k) sl) (Some (first_left (fate_by script.plan x.from x.to (next_number before p)))) left)
      (whole ∙ sym (append_assoc before (p ∷ []) (numbered n (suc k) ms))) next entry (omega (arith, place)) at
    where
      next : (q : Parcel) → IsIn q (before ++ parcel n k x ∷ []) → IsEarlier n (suc k) q
      next q h = elim (in_either before (parcel n k x ∷ []) q h) [
        | inl old ↦ elim (earlier q old) [ inl a ↦ inl a | inr b ↦ inr (b.0, omega (arith, b.1)) ]
        | inr new ↦ elim new [
          | inl is ↦ inr (ap (λ (p : Parcel). p.entry) is, (let place : q.place ≡ k = ap (λ (p : Parcel). p.place) is in omega arith))
          | inr none ↦ absurd none
        ]
      ]

  -- of what was sent before
  passed_left : (sl : Slot) (o : Option Message) → output_at older sl.entry sl.place ≡ o
      → left_after e.event sl (option_map (λ m. left_of script older (parcel_at sl m)) o) ≡ option_map (λ m. left_of script (e ∷ older) (parcel_at sl m)) o
  passed_left sl None at = pass_none e.event sl
  passed_left sl (Some m) at =
      let p : Parcel = parcel_at sl m in
      let now : passed e.event (output_of script older p) ≡ output_of script (e ∷ older) p = passed_is script older e p (output_sent older sl.entry sl.place m at) in
      pass_is e.event sl m.to (loses (fate_of script older p)) (deliveries_left script older p)
      ∙ ap (λ (o : Output). Some (record { lost = o.lost; times = o.left })) now

  unsent : (place : ℕ) (o : Option Message) → output_at older n place ≡ o → o ≡ None
  unsent place None at = refl
  unsent place (Some m) at = absurd (omega (arith, (sent_within older (parcel n place m) (output_sent older n place m at)).1))

  -- after the event has passed, and the outputs are sent
  left_more : (sl : Slot) (then now : Option Left) → then ≡ left_after e.event sl (option_map (λ m. left_of script older (parcel_at sl m)) (output_at older sl.entry sl.place))
      → now ≡ left_with script.plan (sent older) (numbered n 1 e.outputs) sl then
      → now ≡ option_map (λ m. left_of script (e ∷ older) (parcel_at sl m)) (output_at (e ∷ older) sl.entry sl.place)
  left_more sl then now before after = elim (cases_eq sl.entry n) [
    | inl same ↦
        let none : output_at older sl.entry sl.place ≡ None = ap (λ (k : ℕ). output_at older k sl.place) same ∙ unsent sl.place (output_at older n sl.place) refl in
        let empty : then ≡ None = before ∙ ap (λ (o : Option Message). left_after e.event sl (option_map (λ m. left_of script older (parcel_at sl m)) o)) none ∙ pass_none e.event sl in
        let newest : output_at (e ∷ older) sl.entry sl.place ≡ nth e.outputs sl.place =
        cond-true (sl.entry == n) (nth e.outputs sl.place) (output_at older sl.entry sl.place) (eq-eqb sl.entry n same) in
        after ∙ ap (left_with script.plan (sent older) (numbered n 1 e.outputs) sl) empty
        ∙ at_place sl.place refl same
        ∙ ap (option_map (λ (m : Message). left_of script (e ∷ older) (parcel_at sl m))) (sym newest)
    | inr apart ↦
        let old : output_at (e ∷ older) sl.entry sl.place ≡ output_at older sl.entry sl.place =
        cond-false (sl.entry == n) (nth e.outputs sl.place) (output_at older sl.entry sl.place) (ne_eqb sl.entry n apart) in
        after ∙ left_apart script.plan n (sent older) 1 e.outputs sl then (λ j le. another script.plan n sl j apart)
        ∙ before ∙ passed_left sl (output_at older sl.entry sl.place) refl
        ∙ ap (option_map (λ (m : Message). left_of script (e ∷ older) (parcel_at sl m))) (sym old)
  ]
    where
      at_place : (place : ℕ) → sl.place ≡ place → sl.entry ≡ n
          → left_with script.plan (sent older) (numbered n 1 e.outputs) sl None ≡ option_map (λ m. left_of script (e ∷ older) (parcel_at sl m)) (nth e.outputs place)
      at_place zero is same = left_apart script.plan n (sent older) 1 e.outputs sl None (λ j le. elsewhere script.plan n sl j (λ wrong. omega (arith, le, is)))
      at_place (suc i) is same = of (slice_get e.outputs i) refl
        where
          of : (o : Option Message) → slice_get e.outputs i ≡ o
              → left_with script.plan (sent older) (numbered n 1 e.outputs) sl None ≡ option_map (λ m. left_of script (e ∷ older) (parcel_at sl m)) o
          of None at = left_past script.plan n (sent older) 1 i e.outputs sl None (omega (arith, is)) at
          of (Some m) at = left_here (sent older) 1 i e.outputs m sl None refl (λ q h. inl (let within = sent_within older q h in omega (arith, within.1))) same (omega (arith, is)) at

-- who is watched, after an entry

module _ (script : Script) (older : List Entry) (e : Entry) (old : Ledger) (ws : List Watch) (topology : old.topology ≡ script.topology) (known : is_known script e.actor ≡ true)
    (short : length older + 1 < 2 ^ 64) (are : AreWatches script older old.sites.items) where
  unseen : ((s : Site) → same_name e.actor (Process s) ≡ false) → ws ≡ old.sites.items → AreWatches script (e ∷ older) ws
  unseen other same = subst (AreWatches script (e ∷ older)) (sym same) (record {
    many = are.many;
    each = λ k w s at site. watch_same script older e w s (are.each k w s at site) (other s);
  })

  seen : (t : Site) → e.actor ≡ Process t → AreSeenAt (place_of_site old.topology t) e.event old.sites.items ws → AreWatches script (e ∷ older) ws
  seen t is changed = record { many = changed.many ∙ are.many; each = each }
    where
      home : place_of_site old.topology t ≡ place_of_site script.topology t
      home = ap (λ (shape : _). place_of_site shape t) topology

      one : {s u : Site} → Process s ≡ Process u → s ≡ u
      one q = cc

      each : (k : ℕ) (w' : Watch) (s : Site) → slice_get ws k ≡ Some w' → slice_get (sites_of script) k ≡ Some s → IsWatch script (e ∷ older) w' s
      each k w' s at site = elim (cases_eq k (place_of_site old.topology t)) [
        | inl here ↦
            let found = changed.here w' (ap (slice_get ws) (sym here) ∙ at) in
            let there : slice_get (sites_of script) k ≡ Some t = ap (slice_get (sites_of script)) (here ∙ home) ∙ get_sites script t (ap (is_known script) (sym is) ∙ known) in
            let same : s ≡ t = let both : Some s ≡ Some t = sym site ∙ there in cc in
            let own : same_name e.actor (Process s) ≡ true = ap (λ (a : ActorName). same_name a (Process s)) (is ∙ ap (λ (x : Site). Process x) (sym same)) ∙ same_name_refl (Process s) in
            watch_more script older e found.0 s (are.each k found.0 s (ap (slice_get old.sites.items) here ∙ found.1) site) w' own short found.2
        | inr apart ↦
            let place : k ≡ place_of_site script.topology s = (sites_get script k s site).0 in
            let other : same_name e.actor (Process s) ≡ false =
            same_name_not e.actor (Process s) (λ (q : e.actor ≡ Process s). apart (place ∙ ap (place_of_site script.topology) (one (sym q ∙ is)) ∙ sym home)) in
            watch_same script older e w' s (are.each k w' s (sym (changed.others k apart) ∙ at) site) other
      ]

  watches_now : (a : ActorName) → e.actor ≡ a → AreSeen a e.event old old.sites.items ws → AreWatches script (e ∷ older) ws
  watches_now (Process t) is changed = seen t is changed
  watches_now (Executor t) is same = unseen (λ s. ap (λ (a : ActorName). same_name a (Process s)) is) same
  watches_now (Session t) is same = unseen (λ s. ap (λ (a : ActorName). same_name a (Process s)) is) same

-- a ledger after one more entry: its event was taken (b1), it was counted (b2), and its outputs are sent (b3)

module _ (script : Script) (journal : List Entry) (e : Entry) (b : Ledger) (is : IsLedger script journal b) (accepted : IsAccepted script)
    (run : IsRun script (journal ++ e ∷ [])) (short : length journal + 1 < 2 ^ 64) (b1 b2 b3 : Ledger)
    (left1 : (sl : Slot) → left_in b1.deliveries sl ≡ left_after e.event sl (left_in b.deliveries sl)) (rest1 : KeepsPlan b b1) (routes1 : b1.routes ≡ b.routes)
    (counted : AreSeen e.actor e.event b1 b1.sites.items b2.sites.items) (topology2 : b2.topology ≡ b1.topology) (fates2 : b2.fates ≡ b1.fates) (routes2 : b2.routes ≡ b1.routes)
    (deliveries2 : b2.deliveries ≡ b1.deliveries) (entries2 : b2.entries ≡ suc (length journal))
    (sends : Sends (numbered b2.entries 1 e.outputs) b2 b3) (rest3 : KeepsPlan b2 b3) where
  abbrev earlier : List Entry
  earlier = reverse journal

  turned : reverse (journal ++ e ∷ []) ≡ e ∷ earlier
  turned = reverse_push journal e

  whole : IsHistory script (e ∷ earlier)
  unfolding IsRun
  whole = subst (IsHistory script) turned run

  now : IsFreeHistory script (e ∷ earlier)
  now = free_history script (e ∷ earlier) whole

  as_long : length earlier ≡ length journal
  as_long = length-reverse journal

  abbrev news : List Parcel
  news = numbered (suc (length earlier)) 1 e.outputs

  few : length (sent earlier) + length news < 2 ^ 128
  few =
      let all : length (sent (e ∷ earlier)) ≡ length (sent earlier) + length news = length-append (sent earlier) news in
      omega (arith, all, sent_few script accepted (e ∷ earlier) now, as_long, short)

  numbers : numbered b2.entries 1 e.outputs ≡ news
  numbers = ap (λ (n : ℕ). numbered n 1 e.outputs) (entries2 ∙ ap (λ (n : ℕ). suc n) (sym as_long))

  fates_now : AreFates script.plan b2.fates
  fates_now = subst (AreFates script.plan) (sym (fates2 ∙ rest1.fates)) is.fates

  routes_now : AreCountsFor b2.fates (sent earlier) b2.routes
  routes_now = subst (λ f. AreCountsFor f (sent earlier) b2.routes) (sym (fates2 ∙ rest1.fates)) (subst (AreCountsFor b.fates (sent earlier)) (sym (routes2 ∙ routes1)) is.routes)

  sent_now : ((sl : Slot) → left_in b3.deliveries sl ≡ left_with script.plan (sent earlier) news sl (left_in b2.deliveries sl)) × AreCountsFor b2.fates (sent earlier ++ news) b3.routes
  sent_now = subst (λ (ps : List Parcel). Sends ps b2 b3) numbers sends script.plan (sent earlier) fates_now routes_now few

  left_now : (sl : Slot) → left_in b3.deliveries sl ≡ option_map (λ m. left_of script (e ∷ earlier) (parcel_at sl m)) (output_at (e ∷ earlier) sl.entry sl.place)
  left_now sl = left_more script earlier e now sl (left_in b2.deliveries sl) (left_in b3.deliveries sl)
      (ap (λ kept. left_in kept sl) deliveries2 ∙ left1 sl ∙ ap (left_after e.event sl) (is.left sl)) (sent_now.0 sl)

  sites_now : AreWatches script (e ∷ earlier) b2.sites.items
  sites_now = watches_now script earlier e b1 b2.sites.items (rest1.topology ∙ is.topology) now.1.known (omega (arith, as_long, short))
      (subst (λ sites. AreWatches script earlier sites.items) (sym rest1.sites) is.sites) e.actor refl counted

  pub ledger_more : IsLedger script (journal ++ e ∷ []) b3
  ledger_more = record {
    topology = rest3.topology ∙ topology2 ∙ rest1.topology ∙ is.topology;
    sites = subst (λ l. AreWatches script l b3.sites.items) (sym turned) (subst (λ sites. AreWatches script (e ∷ earlier) sites.items) (sym rest3.sites) sites_now);
    fates = subst (AreFates script.plan) (sym rest3.fates) fates_now;
    routes = subst (λ (l : List Entry). AreCountsFor b3.fates (sent l) b3.routes) (sym turned) (subst (λ f. AreCountsFor f (sent earlier ++ news) b3.routes) (sym rest3.fates) sent_now.1);
    left = λ sl. subst (λ (l : List Entry). left_in b3.deliveries sl ≡ option_map (λ m. left_of script l (parcel_at sl m)) (output_at l sl.entry sl.place)) (sym turned) (left_now sl);
    entries = rest3.entries ∙ entries2 ∙ more;
  }
    where
      more : suc (length journal) ≡ length (journal ++ e ∷ [])
      more = omega (arith, length-append journal (e ∷ []))

-- outputs that are sent one after the other

left_with_next : (plan : List PlanLine) (before ps : List Parcel) (p : Parcel) (sl : Slot) (left : Option Left)
    → left_with plan before (ps ++ p ∷ []) sl left ≡ left_with plan (before ++ ps) (p ∷ []) sl (left_with plan before ps sl left)
left_with_next plan before [] p sl left = ap (λ (l : List Parcel). left_with plan l (p ∷ []) sl left) (sym (append-nil before))
left_with_next plan before (q ∷ qs) p sl left =
    let first : Option Left = cond (same_slot (slot q.entry q.place) sl) (Some (first_left (fate_by plan q.message.from q.message.to (next_number before q)))) left in
    left_with_next plan (before ++ q ∷ []) qs p sl first
    ∙ ap (λ (l : List Parcel). left_with plan l (p ∷ []) sl (left_with plan (before ++ q ∷ []) qs sl first)) (append_assoc before (q ∷ []) qs)

pub sends_none : (b : Ledger) → Sends [] b b
sends_none b = λ plan before fates counts short. ((λ sl. refl), subst (λ (l : List Parcel). AreCountsFor b.fates l b.routes) (sym (append-nil before)) counts)

pub sends_next : (ps : List Parcel) (p : Parcel) (a b c : Ledger) → Sends ps a b → KeepsPlan a b → Sends (p ∷ []) b c → Sends (ps ++ p ∷ []) a c
sends_next ps p a b c sends keeps next = λ plan before fates counts short.
    let first = sends plan before fates counts (omega (arith, short, length-append ps (p ∷ []))) in
    let second = next plan (before ++ ps) (subst (AreFates plan) (sym keeps.fates) fates) (subst (λ f. AreCountsFor f (before ++ ps) b.routes) (sym keeps.fates) first.1)
    (omega (arith, short, length-append ps (p ∷ []), length-append before ps)) in (
      (λ sl. second.0 sl ∙ ap (left_with plan (before ++ ps) (p ∷ []) sl) (first.0 sl) ∙ sym (left_with_next plan before ps p sl (left_in a.deliveries sl))),
      subst (λ (l : List Parcel). AreCountsFor a.fates l c.routes) (append_assoc before ps (p ∷ [])) (subst (λ f. AreCountsFor f ((before ++ ps) ++ p ∷ []) c.routes) keeps.fates second.1),
    )

-- one output
pub sends_one : (p : Parcel) (old new : Ledger) (given : FateValue) → TellsNext old.fates old.routes new.routes (route_of p) given
    → ((sl : Slot) → left_in new.deliveries sl ≡ cond (same_slot (slot p.entry p.place) sl) (Some (first_left (given_as given))) (left_in old.deliveries sl))
    → Sends (p ∷ []) old new
sends_one p old new given tells added = λ plan before fates counts short. (
  (λ sl. added sl ∙ ap (λ (f : Fate). cond (same_slot (slot p.entry p.place) sl) (Some (first_left f)) (left_in old.deliveries sl)) (tells.fate plan before p fates counts refl short)),
  tells.counts before p counts refl short,
)

-- the watch of a process

pub seen_none : (actor : ActorName) (event : Event) (b : Ledger) → ((s : Site) → actor ≡ Process s → ⊥) → AreSeen actor event b b.sites.items b.sites.items
seen_none (Process s) event b other = absurd (other s refl)
seen_none (Executor s) event b other = refl
seen_none (Session s) event b other = refl

pub seen_out : (s : Site) (event : Event) (b : Ledger) (place : ℕ) → place ≡ place_of_site b.topology s → length b.sites.items ≤ place
    → AreSeen (Process s) event b b.sites.items b.sites.items
seen_out s event b place is past = record {
  many = refl;
  here = λ w at. absurd (omega (arith, past, is, slice_get_within b.sites.items (place_of_site b.topology s) w at));
  others = λ k apart. refl;
}

pub seen_at : (s : Site) (event : Event) (b : Ledger) (place : ℕ) (w w' : Watch) → place ≡ place_of_site b.topology s → slice_get b.sites.items place ≡ Some w
    → IsCounted event w w' → AreSeen (Process s) event b b.sites.items (set b.sites.items place w')
seen_at s event b place w w' is at counted = subst (λ k. AreSeenAt k event b.sites.items (set b.sites.items place w')) is (record {
  many = length-set b.sites.items place w';
  here = λ v there.
      let what : Some v ≡ Some w' = sym there ∙ get_set_same b.sites.items place w' w at in
      let same : w' ≡ v = cc in
      (w, at, subst (IsCounted event w) same counted);
  others = λ k apart. get_set_other b.sites.items place k w' apart;
})
