-- Who is free once an entry is counted, and the inboxes that have the outputs to be marked anew then.
use Rattle.std.proofs.Common.{◌≡◌, ◌≢◌, ℕ, zero, suc, ◌<◌, inl, inr, Bool, true, false, List, [], ◌∷◌, ◌++◌, length, map, set, Option, Some, None, refl, sym, ap, subst, ◌∙◌, arith}
use Rattle.std.proofs.lemmas.Bool.{cases_eq}
use Rattle.std.proofs.lemmas.List.{length-map, length-set}
use Rattle.std.proofs.lemmas.Option.{slice_get-map, slice_get_within}
use Rattle.std.specs.List.{cons_option}
use Rattle.std.specs.Prelude.{◌⊎◌, ◌&&◌, ◌||◌, cond, is_none, nat_lt, not, option_map, slice_get}
use Rattle.tp_base.proofs.Ends.{get_set_other, get_set_same, slice_get_push_cases}
use Rattle.tp_base.proofs.Members.{in_left, in_right}
use Rattle.tp_base.specs.Lists.{IsIn}
use Rattle.tp_base.specs.declared.names.ActorName.TheVariants.{Process, Executor, Session}
use Rattle.tp_base.specs.declared.names.Site.{Site}
use Rattle.tp_bits.specs.Bits.{AreBits}
use Rattle.tp_netbook.proofs.Starts.{got_map}
use Rattle.tp_netbook.specs.Netbook.{AreListed, AreReady, AreReadyBut, IsListed, Lists, Turns, are_free, differs, due_items, has_lines, has_no_line, home_of, is_free_there, is_ready, line_due, line_item, lives, may_turn, turned, watch_of}
use Rattle.tp_netbook.specs.Outputs.{passed}
use Rattle.tp_netbook.specs.Places.{place_of_site}
use Rattle.tp_netbook.specs.declared.netbook.Netbook.{Netbook}
use Rattle.tp_netbook.specs.declared.output.Inbox.{Inbox}
use Rattle.tp_netbook.specs.declared.output.Output.{Output}
use Rattle.tp_netbook.specs.declared.watch.Watch.{Watch}
use Rattle.tp_rules.specs.Pending.{inner_item}
use Rattle.tp_rules.specs.declared.event.Event.{Event}
use Rattle.tp_rules.specs.declared.event.Inner.{Inner}
use Rattle.tp_rules.specs.declared.event.Item.{Item}

-- who is free

neither : (x y : Bool) → (x || y) ≡ false → (x ≡ false) × (y ≡ false)
neither true y e = absurd cc
neither false y e = (refl, e)

not_differs : (a b : Bool) → differs a b ≡ false → b ≡ a
not_differs true true e = refl
not_differs true false e = absurd cc
not_differs false true e = absurd cc
not_differs false false e = refl

module _ (old new : Netbook) (s : Site) (place : ℕ) (w w' : Watch) (is : place ≡ place_of_site old.topology s) (at : slice_get old.sites.items place ≡ Some w)
    (topology : new.topology ≡ old.topology) (sites : new.sites.items ≡ set old.sites.items place w') where
  watch_now : (q : Site) → watch_of new q ≡ slice_get (set old.sites.items place w') (place_of_site old.topology q)
  watch_now q = ap (λ shape. slice_get new.sites.items (place_of_site shape q)) topology ∙ ap (λ (l : List Watch). slice_get l (place_of_site old.topology q)) sites

  other : (q : Site) → place_of_site old.topology q ≢ place → watch_of new q ≡ watch_of old q
  other q apart = watch_now q ∙ get_set_other old.sites.items place (place_of_site old.topology q) w' apart

  then : (q : Site) → place_of_site old.topology q ≡ place → watch_of old q ≡ Some w
  then q here = ap (slice_get old.sites.items) here ∙ at

  now : (q : Site) → place_of_site old.topology q ≡ place → watch_of new q ≡ Some w'
  now q here = watch_now q ∙ ap (slice_get (set old.sites.items place w')) here ∙ get_set_same old.sites.items place w' w at

  inside : place < length old.sites.items
  inside = slice_get_within old.sites.items place w at

  pub turned_there : Turns (Some place) old new
  turned_there (Session q) = inl refl
  turned_there (Process q) = elim (cases_eq (place_of_site old.topology q) place) [
    | inl here ↦ inr (place, refl, ap (λ (k : ℕ). Some k) here, inside)
    | inr apart ↦ inl (ap (λ (o : Option Watch). lives o && has_no_line o) (other q apart))
  ]
  turned_there (Executor q) = elim (cases_eq (place_of_site old.topology q) place) [
    | inl here ↦ inr (place, refl, ap (λ (k : ℕ). Some k) here, inside)
    | inr apart ↦ inl (ap (λ (o : Option Watch). lives o && true) (other q apart))
  ]

  module _ (still : turned w w' ≡ false) where
    live : w'.live ≡ w.live
    live = not_differs w.live w'.live (neither (differs w.live w'.live) (differs (is_none (line_due w)) (is_none (line_due w'))) still).0

    undue : is_none (line_due w') ≡ is_none (line_due w)
    undue = not_differs (is_none (line_due w)) (is_none (line_due w')) (neither (differs w.live w'.live) (differs (is_none (line_due w)) (is_none (line_due w'))) still).1

    pub none_turned : Turns None old new
    none_turned (Session q) = inl refl
    none_turned (Process q) = elim (cases_eq (place_of_site old.topology q) place) [
      | inl here ↦
          inl (ap (λ (o : Option Watch). lives o && has_no_line o) (now q here) ∙ ap (λ (b : Bool). b && is_none (line_due w')) live ∙ ap (λ (b : Bool). w.live && b) undue
          ∙ ap (λ (o : Option Watch). lives o && has_no_line o) (sym (then q here)))
      | inr apart ↦ inl (ap (λ (o : Option Watch). lives o && has_no_line o) (other q apart))
    ]
    none_turned (Executor q) = elim (cases_eq (place_of_site old.topology q) place) [
      | inl here ↦
          inl (ap (λ (o : Option Watch). lives o && true) (now q here) ∙ ap (λ (b : Bool). b && true) live ∙ ap (λ (o : Option Watch). lives o && true) (sym (then q here)))
      | inr apart ↦ inl (ap (λ (o : Option Watch). lives o && true) (other q apart))
    ]

-- as many lines are due where a watch is written that has turned in nothing

item_there : (w : Watch) → is_none (line_item w) ≡ (not w.live || is_none (line_due w))
item_there w = by w.live (line_due w)
  where
    by : (live : Bool) (due : Option Inner) → is_none (cond live (inner_item (Process w.site) due) None) ≡ (not live || is_none due)
    by true None = refl
    by true (Some inner) = refl
    by false due = refl

pub due_kept : (ws : List Watch) (k : ℕ) (w w' : Watch) → slice_get ws k ≡ Some w → turned w w' ≡ false → length (due_items (set ws k w')) ≡ length (due_items ws)
due_kept ws k w w' at still = same_many ws k at
  where
    alike : is_none (line_item w') ≡ is_none (line_item w)
    alike =
        let parts = neither (differs w.live w'.live) (differs (is_none (line_due w)) (is_none (line_due w'))) still in
        item_there w' ∙ ap (λ (b : Bool). not b || is_none (line_due w')) (not_differs w.live w'.live parts.0)
        ∙ ap (λ (b : Bool). not w.live || b) (not_differs (is_none (line_due w)) (is_none (line_due w')) parts.1) ∙ sym (item_there w)

    both : (o p : Option Item) (l m : List Item) → is_none o ≡ is_none p → length l ≡ length m → length (cons_option o l) ≡ length (cons_option p m)
    both None None l m e many = many
    both None (Some y) l m e many = absurd cc
    both (Some x) None l m e many = absurd cc
    both (Some x) (Some y) l m e many = ap (λ (n : ℕ). suc n) many

    same_many : (ws : List Watch) (k : ℕ) → slice_get ws k ≡ Some w → length (due_items (set ws k w')) ≡ length (due_items ws)
    same_many [] k at = refl
    same_many (v ∷ vs) zero at =
        let same : v ≡ w = cc in
        both (line_item w') (line_item v) (due_items vs) (due_items vs) (alike ∙ ap (λ (x : Watch). is_none (line_item x)) (sym same)) refl
    same_many (v ∷ vs) (suc k) at = both (line_item v) (line_item v) (due_items (set vs k w')) (due_items vs) refl (same_many vs k at)

-- and all are free where they were

pub free_kept : (ws : List Watch) (k : ℕ) (w w' : Watch) → slice_get ws k ≡ Some w → turned w w' ≡ false → are_free (set ws k w') ≡ are_free ws
free_kept ws k w w' at still = same_free ws k at
  where
    alike : is_free_there w' ≡ is_free_there w
    alike =
        let parts = neither (differs w.live w'.live) (differs (is_none (line_due w)) (is_none (line_due w'))) still in
        ap (λ (b : Bool). b && is_none (line_due w')) (not_differs w.live w'.live parts.0)
        ∙ ap (λ (b : Bool). w.live && b) (not_differs (is_none (line_due w)) (is_none (line_due w')) parts.1)

    same_free : (ws : List Watch) (k : ℕ) → slice_get ws k ≡ Some w → are_free (set ws k w') ≡ are_free ws
    same_free [] k at = refl
    same_free (v ∷ vs) zero at =
        let same : v ≡ w = cc in
        ap (λ (b : Bool). b && are_free vs) (alike ∙ ap is_free_there (sym same))
    same_free (v ∷ vs) (suc k) at = ap (λ (b : Bool). is_free_there v && b) (same_free vs k at)

pub nobody_turned : (old : Netbook) → Turns None old old
nobody_turned old a = inl refl

-- the inboxes

some_at : {X : Type 0} (xs : List X) (i : ℕ) → i < length xs → (x : X) × (slice_get xs i ≡ Some x)
some_at [] i lt = absurd (omega arith)
some_at (x ∷ xs) zero lt = (x, refl)
some_at (x ∷ xs) (suc i) lt = some_at xs i (omega arith)

pub turned_marks : (b b' : Netbook) (home : Option ℕ) → Turns home b b' → b'.outputs ≡ b.outputs → b'.inboxes ≡ b.inboxes → b'.ready ≡ b.ready
    → length b.inboxes.items ≡ length b.sites.items → ((k : ℕ) → home ≡ Some k → may_turn b k ≡ true) → AreListed b → AreReady b → AreReadyBut b' home
turned_marks b b' home turns outputs inboxes ready many may listed are = (
  map (is_ready b) b.outputs.items,
  subst (λ r. AreBits (map (is_ready b) b.outputs.items) r) (sym ready) are,
  length-map b.outputs.items (is_ready b) ∙ ap (λ os. length os.items) (sym outputs),
  λ i o at. each i o (ap (λ os. slice_get os.items i) (sym outputs) ∙ at),
)
  where
    each : (i : ℕ) (o : Output) → slice_get b.outputs.items i ≡ Some o → (slice_get (map (is_ready b) b.outputs.items) i ≡ Some (is_ready b' o)) ⊎ IsListed b' home i
    each i o at = elim (turns o.to) [
      | inl same ↦
          inl (slice_get-map (is_ready b) b.outputs.items i ∙ ap (option_map (is_ready b)) at ∙ ap (λ (c : Bool). Some (c && nat_lt 0 o.left)) (sym same))
      | inr there ↦
          let found = some_at b.inboxes.items there.0 (omega (arith, there.3, many)) in
          inr (there.0, found.0, there.1, ap (λ l. slice_get l.items there.0) inboxes ∙ found.1, listed i o there.0 found.0 at there.2 (may there.0 there.1) found.1)
    ]

pub listed_settled : (b b' : Netbook) (event : Event) → b'.outputs.items ≡ map (passed event) b.outputs.items → b'.topology ≡ b.topology → b'.inboxes ≡ b.inboxes
    → ((home : ℕ) → may_turn b' home ≡ true → may_turn b home ≡ true) → AreListed b → AreListed b'
listed_settled b b' event outputs topology inboxes lines listed i o home inbox at is may there =
    let found = got_map (passed event) b.outputs.items i o (ap (λ (l : List Output). slice_get l i) (sym outputs) ∙ at) in
    let to : home_of b.topology found.0.to ≡ Some home = ap (λ (q : Output). home_of b.topology q.to) found.2 ∙ ap (λ shape. home_of shape o.to) (sym topology) ∙ is in
    listed i found.0 home inbox found.1 to (lines home may) (ap (λ l. slice_get l.items home) (sym inboxes) ∙ there)

pub listed_more : (b b' : Netbook) (o : Output) (home : Option ℕ) → b'.outputs.items ≡ b.outputs.items ++ o ∷ [] → b'.topology ≡ b.topology → b'.sites ≡ b.sites
    → ((k : ℕ) → home_of b.topology o.to ≡ Some k → may_turn b k ≡ true → home ≡ Some k)
    → Lists home (length b.outputs.items) b.inboxes.items b'.inboxes.items → AreListed b → AreListed b'
listed_more b b' o home outputs topology sites is lists listed i o' place inbox at to may there =
    let before = lists.1 place inbox there in
    let to' : home_of b.topology o'.to ≡ Some place = ap (λ shape. home_of shape o'.to) (sym topology) ∙ to in
    let may' : may_turn b place ≡ true = ap (λ ws. has_lines (slice_get ws.items place)) (sym sites) ∙ may in
    elim (slice_get_push_cases b.outputs.items o i o' (ap (λ (l : List Output). slice_get l i) (sym outputs) ∙ at)) [
      | inl old ↦ before.2 i (inl (listed i o' place before.0 old.1 to' may' before.1))
      | inr new ↦ before.2 i (inr (new.0, is place (ap (λ (q : Output). home_of b.topology q.to) (sym new.1) ∙ to') may'))
    ]

-- an output's place is put into an inbox

pub lists_none : (place : ℕ) (inboxes : List Inbox) (home : Option ℕ) → ((k : ℕ) (inbox : Inbox) → home ≡ Some k → slice_get inboxes k ≡ Some inbox → ⊥) → Lists home place inboxes inboxes
lists_none place inboxes home none = (refl, λ k inbox at. (inbox, at, λ i h. elim h [ inl old ↦ old | inr new ↦ absurd (none k inbox new.1 at) ]))

pub lists_there : (place home : ℕ) (inboxes : List Inbox) (before after : Inbox) → slice_get inboxes home ≡ Some before → after.places.items ≡ before.places.items ++ place ∷ []
    → Lists (Some home) place inboxes (set inboxes home after)
lists_there place home inboxes before after at more = (length-set inboxes home after, each)
  where
    each : (k : ℕ) (inbox : Inbox) → slice_get (set inboxes home after) k ≡ Some inbox → (old : Inbox) × (slice_get inboxes k ≡ Some old)
        × ((i : ℕ) → (IsIn i old.places.items) ⊎ ((i ≡ place) × (Some home ≡ Some k)) → IsIn i inbox.places.items)
    each k inbox there = elim (cases_eq k home) [
      | inl here ↦
          let both : Some inbox ≡ Some after = sym there ∙ ap (slice_get (set inboxes home after)) here ∙ get_set_same inboxes home after before at in
          let same : after ≡ inbox = cc in
          (before, ap (slice_get inboxes) here ∙ at, λ i h. subst (λ (x : Inbox). IsIn i x.places.items) same (subst (IsIn i) (sym more) (within i h)))
      | inr apart ↦ (inbox, sym (get_set_other inboxes home k after apart) ∙ there, λ i h. elim h [ inl old ↦ old | inr new ↦ absurd (apart (one new.1)) ])
    ]
      where
        one : Some home ≡ Some k → k ≡ home
        one e = cc

        within : (i : ℕ) → (IsIn i before.places.items) ⊎ ((i ≡ place) × (Some home ≡ Some k)) → IsIn i (before.places.items ++ place ∷ [])
        within i (inl old) = in_left before.places.items (place ∷ []) i old
        within i (inr new) = in_right before.places.items (place ∷ []) i (inl new.0)

pub none_listed : (b : Netbook) → b.outputs.items ≡ [] → AreListed b
none_listed b none i o home inbox at is may there =
    let empty : None ≡ Some o = ap (λ (l : List Output). slice_get l i) (sym none) ∙ at in
    absurd cc
