-- What a netbook says may come next is what may come next.
use Rattle.std.proofs.Common.{◌≡◌, ℕ, zero, suc, ◌+◌, ◌-◌, ◌<◌, ◌≤◌, ◌^◌, inl, inr, Bool, true, cond, List, [], ◌∷◌, ◌++◌, length, map, Option, Some, None, refl, sym, ap, subst, ◌∙◌, arith}
use Rattle.std.proofs.lemmas.List.{length-append, length-map, length-reverse, map-append}
use Rattle.std.proofs.lemmas.Option.{slice_get_within}
use Rattle.std.proofs.lemmas.Slice.Zip.{length-zip}
use Rattle.std.specs.List.{zip}
use Rattle.std.specs.Prelude.{min, nat_lt, ◌&&◌, filter_map, reverse, slice_get}
use Rattle.tp_base.proofs.Each.{each_of, each_in}
use Rattle.tp_base.proofs.Ends.{reverse_push, slice_get_left, slice_get_right}
use Rattle.tp_base.proofs.Members.{get_in}
use Rattle.tp_base.specs.Lists.{Each, IsIn}
use Rattle.tp_base.specs.declared.names.ActorName.{ActorName}
use Rattle.tp_netbook.proofs.Adding.{small_places}
use Rattle.tp_netbook.proofs.Outputs.{olds_are, sent_few}
use Rattle.tp_netbook.proofs.Listings.{lines_stay, turns_listed}
use Rattle.tp_netbook.proofs.NewOutputs.{new_are}
use Rattle.tp_netbook.proofs.Places.{few_actors, few_sites, place_get}
use Rattle.tp_netbook.proofs.Starts.{placed}
use Rattle.tp_netbook.proofs.Turned.{listed_settled, turned_marks}
use Rattle.tp_netbook.proofs.Watches.{alive_is, free_site, lines_are, undue_is, watches_more}
use Rattle.tp_netbook.specs.Netbook as book
use Rattle.tp_fates.specs.Fates.{AreCountsFor, AreFates}
use Rattle.tp_netbook.specs.Netbook.{Adds, AreCounted, AreListed, AreNext, ArePlaced, AreReady, AreReadyBut, AreWatches, IsFreeRight, IsNetbook, KeepsMarks, KeepsRest, Turns, TurnsByPlan, are_free, deliveries, delivery_item, due_items, has_lines, is_alive, is_free, is_undue, line_item, lines, may_turn, new_outputs, own_items}
use Rattle.tp_fates.specs.Deliveries.{loses}
use Rattle.tp_netbook.specs.Outputs.{output_of, passed, starts_of}
use Rattle.tp_netbook.specs.declared.netbook.Netbook.{Netbook}
use Rattle.tp_netbook.specs.declared.output.Output.{Output}
use Rattle.tp_rules.proofs.Histories.{free_history}
use Rattle.tp_rules.proofs.ends.HowMany.{outputs_few}
use Rattle.tp_rules.proofs.fit.InRange.{sent_known}
use Rattle.tp_rules.proofs.sent.Parcels.{sent_within}
use Rattle.tp_rules.specs.Journal.{acts, identity_in, is_known, is_live, numbered, sent}
use Rattle.tp_rules.specs.Pending.{actors_of, due_item, event_by, inner_item, is_waiting, item, own_item, parcel_item, pending, sites_of}
use Rattle.tp_rules.specs.Plan.{Fate, Lost, Times, deliveries_left, fate_of}
use Rattle.tp_rules.specs.Rules.{enabled}
use Rattle.tp_rules.specs.Runs.{IsFreeHistory, IsHistory, IsRun}
use Rattle.tp_rules.specs.declared.event.Entry.{Entry}
use Rattle.tp_rules.specs.declared.event.Event.{Event}
use Rattle.tp_rules.specs.declared.event.Event.TheVariants.{Deliver, Dropped}
use Rattle.tp_rules.specs.declared.event.Inner.{Inner}
use Rattle.tp_rules.specs.declared.event.Item.{Item}
use Rattle.tp_rules.specs.declared.event.Parcel.{Parcel}
use Rattle.tp_script.specs.Accepted.{IsAccepted}
use Rattle.tp_script.specs.declared.script.Script.{Script}

kept_fewer : {X Y : Type 0} (f : X → Option Y) (xs : List X) → length (filter_map f xs) ≤ length xs
kept_fewer f [] = omega arith
kept_fewer {X} {Y} f (x ∷ xs) = by (f x) refl (kept_fewer f xs)
  where
    by : (o : Option Y) → f x ≡ o → length (filter_map f xs) ≤ length xs → length (filter_map f (x ∷ xs)) ≤ suc (length xs)
    by None e rest = rw e (omega arith)
    by (Some y) e rest = rw e (omega arith)

kept_of : {X Y Z : Type 0} (f : Y → Option Z) (make : X → Y) (g : X → Option Z) (xs : List X) → ((x : X) → IsIn x xs → f (make x) ≡ g x) → filter_map f (map make xs) ≡ filter_map g xs
kept_of f make g [] same = refl
kept_of f make g (x ∷ xs) same =
    let here : f (make x) ≡ g x = same x (inl refl) in
    rw (here, kept_of f make g xs (λ y k. same y (inr k))) refl

kept_beside : {X Y Z : Type 0} (f : X × Y → Option Z) (g : X → Option Z) (h : X → Y) (xs : List X) → ((x : X) → IsIn x xs → f (x, h x) ≡ g x)
    → filter_map f (zip xs (map h xs)) ≡ filter_map g xs
kept_beside f g h [] each = refl
kept_beside f g h (x ∷ xs) each =
    let here : f (x, h x) ≡ g x = each x (inl refl) in
    rw (here, kept_beside f g h xs (λ y k. each y (inr k))) refl

within : {X : Type 0} (xs : List X) (i : ℕ) (x : X) → Some x ≡ slice_get xs i → i < length xs
within xs i x e = slice_get_within xs i x (sym e)

pub beyond : {X : Type 0} (xs : List X) (i : ℕ) (o : Option X) → o ≡ slice_get xs i → ((x : X) → o ≡ Some x → ⊥) → length xs ≤ i
beyond [] i o e none = omega arith
beyond (x ∷ xs) zero o e none = absurd (none x e)
beyond (x ∷ xs) (suc i) o e none = let rest : length xs ≤ i = beyond xs i o e none in omega arith

module _ (script : Script) (journal : List Entry) (b : Netbook) (is : IsNetbook script journal b) (accepted : IsAccepted script) (run : IsRun script journal) where
  history : IsFreeHistory script (reverse journal)
  unfolding IsRun
  history = free_history script (reverse journal) run

  to_known : (p : Parcel) → IsIn p (sent (reverse journal)) → is_known script p.message.to ≡ true
  to_known p h = each_in (λ (q : Parcel). is_known script q.message.to ≡ true) (sent (reverse journal)) p (sent_known script accepted (reverse journal) history) h

  alive : (a : ActorName) → is_known script a ≡ true → is_alive b a ≡ is_live (reverse journal) a
  alive = alive_is script (reverse journal) b is.topology is.sites

  free : (a : ActorName) → is_known script a ≡ true → is_free b a ≡ is_waiting script (reverse journal) a
  free a known =
      ap (λ (c : Bool). c && is_undue b a) (alive a known)
      ∙ ap (λ (c : Bool). is_live (reverse journal) a && c) (undue_is script (reverse journal) b is.topology is.sites a known)

  lines_all : lines b ≡ filter_map (due_item script (reverse journal)) (sites_of script)
  lines_all = lines_are script (reverse journal) b.sites.items is.sites

  -- deliveries

  event_is : (fate : Fate) (p : Parcel) → cond (loses fate) (Dropped p.entry p.place) (Deliver p.entry p.place) ≡ event_by fate p
  event_is Lost p = refl
  event_is (Times n) p = refl

  -- each output is pending where its addressee is free and some are left
  item_is : (p : Parcel) → IsIn p (sent (reverse journal)) → delivery_item b (output_of script (reverse journal) p) ≡ parcel_item script (reverse journal) p
  item_is p h =
      let fate = fate_of script (reverse journal) p in
      let left : Bool = nat_lt 0 (deliveries_left script (reverse journal) p) in
      ap (λ (c : Bool). cond (c && left) (Some (item p.message.to (cond (loses fate) (Dropped p.entry p.place) (Deliver p.entry p.place)))) None) (free p.message.to (to_known p h))
      ∙ ap (λ (event : Event). cond (is_waiting script (reverse journal) p.message.to && left) (Some (item p.message.to event)) None) (event_is fate p)

  deliveries_all : deliveries b ≡ filter_map (parcel_item script (reverse journal)) (sent (reverse journal))
  deliveries_all =
      ap (filter_map (delivery_item b)) is.outputs
      ∙ kept_of (delivery_item b) (output_of script (reverse journal)) (parcel_item script (reverse journal)) (sent (reverse journal)) item_is

  -- own steps

  abbrev makes : ActorName → Option Inner
  makes a = enabled (identity_in script a) (acts (reverse journal) a)

  known_of : (a : ActorName) → IsIn a (actors_of script) → is_known script a ≡ true
  known_of a h = let at = get_in (actors_of script) a h in (place_get script at.0 a at.1).1

  pub many_roster : (next : List (Option Inner)) → AreNext script journal next → length next ≡ length b.roster.items
  many_roster next are = ap length are ∙ length-map (actors_of script) makes ∙ ap length (sym is.roster)

  -- all are free where the netbook says so
  pub all_free : IsFreeRight b
  all_free says =
      subst (Each (λ a. is_free b a ≡ true)) (sym is.roster)
      (each_of (λ a. is_free b a ≡ true) (actors_of script) (λ a h. free_site script (reverse journal) b is.topology is.sites (sym is.all_free ∙ says) a (known_of a h)))

  own_all : (next : List (Option Inner)) → AreNext script journal next → own_items b next ≡ filter_map (own_item script (reverse journal)) (actors_of script)
  own_all next are =
      ap (λ (l : List ActorName). filter_map (book.own_item b) (zip l next)) is.roster
      ∙ ap (λ (l : List (Option Inner)). filter_map (book.own_item b) (zip (actors_of script) l)) are
      ∙ kept_beside (book.own_item b) (own_item script (reverse journal)) makes (actors_of script)
      (λ a h. ap (λ (c : Bool). cond c (inner_item a (makes a)) None) (free a (known_of a h)))

  module _ (next : List (Option Inner)) (are : AreNext script journal next) where
    pub all_steps : pending script (reverse journal) ≡ lines b ++ deliveries b ++ own_items b next
    unfolding pending
    all_steps =
        ap (λ (l : List Item). l ++ filter_map (parcel_item script (reverse journal)) (sent (reverse journal)) ++ filter_map (own_item script (reverse journal)) (actors_of script)) (sym lines_all)
        ∙ ap (λ (l : List Item). lines b ++ l ++ filter_map (own_item script (reverse journal)) (actors_of script)) (sym deliveries_all)
        ∙ ap (λ (l : List Item). lines b ++ deliveries b ++ l) (sym (own_all next are))

    pub many_steps : (x y z : ℕ) → x ≡ length (lines b) → y ≡ length (deliveries b) → z ≡ length (own_items b next) → x + y + z ≡ length (pending script (reverse journal))
    many_steps x y z a c d =
        let total : length (pending script (reverse journal)) ≡ length (lines b ++ deliveries b ++ own_items b next) = ap length all_steps in
        omega (arith, total, length-append (lines b ++ deliveries b) (own_items b next), length-append (lines b) (deliveries b))

    -- with sums that stop at the greatest number
    pub all_counted : (x y z xz all : ℕ) → x ≡ length (lines b) → y ≡ length (deliveries b) → z ≡ length (own_items b next) → y < 2 ^ 63
        → xz ≡ min (x + z) (2 ^ 64 - 1) → all ≡ min (y + xz) (2 ^ 64 - 1) → all ≡ length (pending script (reverse journal))
    all_counted x y z xz all a c d small first second =
        let few_lines : length (lines b) ≤ length b.sites.items = kept_fewer line_item b.sites.items in
        let few_own : length (own_items b next) ≤ length (zip b.roster.items next) = kept_fewer (book.own_item b) (zip b.roster.items next) in
        let few_zip : length (zip b.roster.items next) ≤ length b.roster.items = omega (arith, length-zip b.roster.items next) in
        let same : length b.roster.items ≡ length (actors_of script) = ap length is.roster in
        let actors : length (actors_of script) ≤ 72 = few_actors script accepted.shape (omega (arith, accepted.sessions)) in
        let sites : length (sites_of script) ≤ length (actors_of script) = few_sites script in
        omega (arith, many_steps x y z a c d, few_lines, is.sites.many)

    -- the step at a place

    pub line_step : (i : ℕ) (x : Item) → Some x ≡ slice_get (lines b) i → Some x ≡ slice_get (pending script (reverse journal)) i
    line_step i x at =
        let lt : i < length (lines b) = within (lines b) i x at in
        at ∙ sym (slice_get_left (lines b) (deliveries b) i lt)
        ∙ sym (slice_get_left (lines b ++ deliveries b) (own_items b next) i (omega (arith, length-append (lines b) (deliveries b))))
        ∙ ap (λ (l : List Item). slice_get l i) (sym all_steps)

    pub delivery_step : (i j : ℕ) (x : Item) → length (lines b) ≤ i → j ≡ i - length (lines b) → Some x ≡ slice_get (deliveries b) j
        → Some x ≡ slice_get (pending script (reverse journal)) i
    delivery_step i j x past is_j at =
        let lt : j < length (deliveries b) = within (deliveries b) j x at in
        at ∙ sym (slice_get_right (lines b) (deliveries b) j i (omega arith))
        ∙ sym (slice_get_left (lines b ++ deliveries b) (own_items b next) i (omega (arith, length-append (lines b) (deliveries b))))
        ∙ ap (λ (l : List Item). slice_get l i) (sym all_steps)

    pub own_step : (i j k : ℕ) (o : Option Item) → length (lines b) ≤ i → j ≡ i - length (lines b) → length (deliveries b) ≤ j → k ≡ j - length (deliveries b)
        → o ≡ slice_get (own_items b next) k → o ≡ slice_get (pending script (reverse journal)) i
    own_step i j k o past is_j past' is_k at =
        at ∙ sym (slice_get_right (lines b ++ deliveries b) (own_items b next) k i (omega (arith, length-append (lines b) (deliveries b))))
        ∙ ap (λ (l : List Item). slice_get l i) (sym all_steps)

-- a netbook after one more entry

module _ (script : Script) (journal : List Entry) (e : Entry) (b : Netbook) (is : IsNetbook script journal b) (accepted : IsAccepted script)
    (run : IsRun script (journal ++ e ∷ [])) (short : length journal + 1 < 2 ^ 64) where
  abbrev older : List Entry
  older = reverse journal

  turned_is : reverse (journal ++ e ∷ []) ≡ e ∷ older
  turned_is = reverse_push journal e

  whole : IsHistory script (e ∷ older)
  unfolding IsRun
  whole = subst (IsHistory script) turned_is run

  now : IsFreeHistory script (e ∷ older)
  now = free_history script (e ∷ older) whole

  as_long : length older ≡ length journal
  as_long = length-reverse journal

  abbrev news : List Parcel
  news = numbered (suc (length older)) 1 e.outputs

  pub are_placed : ArePlaced b
  are_placed = placed script older b is.outputs is.starts

  inboxes_many : length b.inboxes.items ≡ length b.sites.items
  inboxes_many = is.inboxes ∙ sym is.sites.many

  -- the event settles an output (b1), the entry is counted (b2), outputs are marked anew (b3), the entry begins (b4) and its outputs are added (b5)
  module _ (b1 b2 b3 b4 b5 : Netbook) (turned : Option ℕ)
      (outputs1 : b1.outputs.items ≡ map (passed e.event) b.outputs.items) (ready1 : AreReady b1) (rest1 : KeepsRest b b1) (routes1 : b1.routes ≡ b.routes) (inboxes1 : b1.inboxes ≡ b.inboxes)
      (counted : AreCounted e.actor e.event b1 b1.sites.items b2.sites.items) (turns : Turns turned b1 b2) (plan2 : TurnsByPlan e.actor e.event turned b1) (due2 : b1.due ≡ length (lines b1) → b2.due ≡ length (lines b2))
      (free2 : b1.all_free ≡ are_free b1.sites.items → b2.all_free ≡ are_free b2.sites.items)
      (topology2 : b2.topology ≡ b1.topology) (outputs2 : b2.outputs ≡ b1.outputs) (starts2 : b2.starts ≡ b1.starts) (inboxes2 : b2.inboxes ≡ b1.inboxes) (marks2 : b2.ready ≡ b1.ready)
      (roster2 : b2.roster ≡ b1.roster) (fates2 : b2.fates ≡ b1.fates) (routes2 : b2.routes ≡ b1.routes)
      (ready3 : AreReadyBut b2 turned → AreReady b3) (rest3 : KeepsRest b2 b3) (outputs3 : b3.outputs ≡ b2.outputs) (routes3 : b3.routes ≡ b2.routes) (inboxes3 : b3.inboxes ≡ b2.inboxes)
      (topology4 : b4.topology ≡ b3.topology) (sites4 : b4.sites ≡ b3.sites) (due4 : b4.due ≡ b3.due) (free4 : b4.all_free ≡ b3.all_free) (roster4 : b4.roster ≡ b3.roster) (fates4 : b4.fates ≡ b3.fates) (routes4 : b4.routes ≡ b3.routes)
      (outputs4 : b4.outputs ≡ b3.outputs) (inboxes4 : b4.inboxes ≡ b3.inboxes) (starts4 : b4.starts.items ≡ b3.starts.items ++ length b3.outputs.items ∷ []) (entries4 : b4.entries ≡ suc (length journal))
      (ready4 : AreReady b3 → AreReady b4)
      (adds : Adds (numbered b4.entries 1 e.outputs) b4 b5) (marks5 : KeepsMarks b4 b5) (rest5 : KeepsRest b4 b5) where
    topology_now : b4.topology ≡ script.topology
    topology_now = topology4 ∙ rest3.topology ∙ topology2 ∙ rest1.topology ∙ is.topology

    sites_then : AreWatches script older b1.sites.items
    sites_then = subst (λ sites. AreWatches script older sites.items) (sym rest1.sites) is.sites

    sites_now : AreWatches script (e ∷ older) b2.sites.items
    sites_now = watches_more script older e b1 b2.sites.items (rest1.topology ∙ is.topology) sites_then now.1.known (omega (arith, as_long, short)) counted

    fates_now : AreFates script.plan b4.fates
    fates_now = subst (AreFates script.plan) (sym (fates4 ∙ rest3.fates ∙ fates2 ∙ rest1.fates)) is.fates

    routes_now : AreCountsFor b4.fates (sent older) b4.routes
    routes_now =
        subst (λ f. AreCountsFor f (sent older) b4.routes) (sym (fates4 ∙ rest3.fates ∙ fates2 ∙ rest1.fates))
        (subst (AreCountsFor b.fates (sent older)) (sym (routes4 ∙ routes3 ∙ routes2 ∙ routes1)) is.routes)

    few : length (sent older) + length news < 2 ^ 128
    few =
        let all : length (sent (e ∷ older)) ≡ length (sent older) + length news = length-append (sent older) news in
        omega (arith, all, sent_few script accepted (e ∷ older) now, as_long, short)

    numbers : numbered b4.entries 1 e.outputs ≡ news
    numbers = ap (λ (n : ℕ). numbered n 1 e.outputs) (entries4 ∙ ap (λ (n : ℕ). suc n) (sym as_long))

    added_now : (b5.outputs.items ≡ b4.outputs.items ++ new_outputs script.plan (sent older) news) × AreCountsFor b4.fates (sent older ++ news) b5.routes
    added_now =
        subst (λ (ps : List Parcel). Adds ps b4 b5) numbers adds script.plan (sent older) fates_now routes_now few
        (small_places (suc (length older)) 1 e.outputs (omega (arith, outputs_few script accepted.shape older e now.1)))

    passed_now : b4.outputs.items ≡ map (passed e.event) b.outputs.items
    passed_now = ap (λ outputs. outputs.items) (outputs4 ∙ outputs3 ∙ outputs2) ∙ outputs1

    olds : b4.outputs.items ≡ map (output_of script (e ∷ older)) (sent older)
    olds = passed_now ∙ ap (map (passed e.event)) is.outputs ∙ olds_are script older e

    news_are : new_outputs script.plan (sent older) news ≡ map (output_of script (e ∷ older)) news
    news_are = new_are script older e now (sent older) 1 e.outputs refl (λ q h. inl (let within = sent_within older q h in omega (arith, within.1)))

    starts_now : b4.starts.items ≡ starts_of (e ∷ older)
    starts_now =
        let many : length b3.outputs.items ≡ length (sent older) =
        ap (λ outputs. length outputs.items) (sym outputs4) ∙ ap length olds ∙ length-map (sent older) (output_of script (e ∷ older)) in
        starts4 ∙ ap (λ starts. starts.items ++ length b3.outputs.items ∷ []) (rest3.starts ∙ starts2 ∙ rest1.starts)
        ∙ ap (λ (l : List ℕ). l ++ length b3.outputs.items ∷ []) is.starts ∙ ap (λ (n : ℕ). starts_of older ++ n ∷ []) many

    ready_now : AreReady b5
    ready_now =
        let same : length b1.inboxes.items ≡ length b1.sites.items =
        ap (λ l. length l.items) inboxes1 ∙ inboxes_many ∙ ap (λ l. length l.items) (sym rest1.sites) in
        let may : (home : ℕ) → turned ≡ Some home → may_turn b1 home ≡ true =
        λ home at. turns_listed script older e b1 (rest1.topology ∙ is.topology) sites_then now.1.known whole.1.plan.line home (plan2 home at) in
        let lines : (home : ℕ) → may_turn b1 home ≡ true → may_turn b home ≡ true = λ home. subst (λ sites. has_lines (slice_get sites.items home) ≡ true) rest1.sites in
        marks5.ready (ready4 (ready3 (turned_marks b1 b2 turned turns outputs2 inboxes2 marks2 same may (listed_settled b b1 e.event outputs1 rest1.topology inboxes1 lines is.listed) ready1)))

    listed_now : AreListed b5
    listed_now =
        marks5.listed (listed_settled b b4 e.event passed_now (topology4 ∙ rest3.topology ∙ topology2 ∙ rest1.topology) (inboxes4 ∙ inboxes3 ∙ inboxes2 ∙ inboxes1)
        (λ home may. subst (λ sites. has_lines (slice_get sites.items home) ≡ true) rest1.sites
        (lines_stay e.actor e.event b1 b1.sites.items b2.sites.items counted home (subst (λ sites. has_lines (slice_get sites.items home) ≡ true) (sites4 ∙ rest3.sites) may))) is.listed)

    due_now : b5.due ≡ length (lines b5)
    due_now =
        rest5.due ∙ due4 ∙ rest3.due ∙ due2 (rest1.due ∙ is.due ∙ ap (λ sites. length (due_items sites.items)) (sym rest1.sites))
        ∙ ap (λ sites. length (due_items sites.items)) (sym (rest5.sites ∙ sites4 ∙ rest3.sites))

    free_now : b5.all_free ≡ are_free b5.sites.items
    free_now =
        rest5.all_free ∙ free4 ∙ rest3.all_free ∙ free2 (rest1.all_free ∙ is.all_free ∙ ap (λ sites. are_free sites.items) (sym rest1.sites))
        ∙ ap (λ sites. are_free sites.items) (sym (rest5.sites ∙ sites4 ∙ rest3.sites))

    pub netbook_more : IsNetbook script (journal ++ e ∷ []) b5
    netbook_more = record {
      topology = rest5.topology ∙ topology_now;
      sites = subst (λ l. AreWatches script l b5.sites.items) (sym turned_is) (subst (λ sites. AreWatches script (e ∷ older) sites.items) (sym (rest5.sites ∙ sites4 ∙ rest3.sites)) sites_now);
      roster = ap (λ roster. roster.items) (rest5.roster ∙ roster4 ∙ rest3.roster ∙ roster2 ∙ rest1.roster) ∙ is.roster;
      fates = subst (AreFates script.plan) (sym rest5.fates) fates_now;
      routes = subst (λ (l : List Entry). AreCountsFor b5.fates (sent l) b5.routes) (sym turned_is)
          (subst (λ f. AreCountsFor f (sent older ++ news) b5.routes) (sym rest5.fates) added_now.1);
      outputs = added_now.0 ∙ ap (λ (l : List Output). l ++ new_outputs script.plan (sent older) news) olds
          ∙ ap (λ (l : List Output). map (output_of script (e ∷ older)) (sent older) ++ l) news_are
          ∙ sym (map-append (output_of script (e ∷ older)) (sent older) news)
          ∙ ap (λ (l : List Entry). map (output_of script l) (sent l)) (sym turned_is);
      starts = ap (λ starts. starts.items) rest5.starts ∙ starts_now ∙ ap starts_of (sym turned_is);
      inboxes = marks5.inboxes ∙ ap (λ l. length l.items) (inboxes4 ∙ inboxes3 ∙ inboxes2 ∙ inboxes1) ∙ is.inboxes;
      listed = listed_now;
      ready = ready_now;
      due = due_now;
      all_free = free_now;
      entries = rest5.entries ∙ entries4 ∙ more;
    }
      where
        more : suc (length journal) ≡ length (journal ++ e ∷ [])
        more = omega (arith, length-append journal (e ∷ []))
