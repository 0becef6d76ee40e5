-- Each step that may come next is legal, whatever the plan.
use Rattle.std.proofs.Common.{◌≡◌, ℕ, ◌<◌, inl, inr, zero, suc, Bool, true, false, cond, List, [], ◌∷◌, ◌++◌, length, Option, Some, None, refl, sym, ap, subst, ◌∙◌}
use Rattle.std.proofs.lemmas.Bool.{and_parts, cond_both, ltb-true}
use Rattle.std.specs.Prelude.{◌&&◌, filter, filter_map, is_none, nat_le, nat_lt, slice_get}
use Rattle.tp_base.proofs.Each.{each_in}
use Rattle.tp_base.proofs.Members.{get_in, in_either}
use Rattle.tp_base.specs.Lists.{Each, IsIn}
use Rattle.tp_base.specs.Names.{same_site}
use Rattle.tp_base.specs.declared.names.ActorName.{ActorName}
use Rattle.tp_base.specs.declared.names.ActorName.TheVariants.{Process, Executor, Session}
use Rattle.tp_base.specs.declared.names.Site.{Site}
use Rattle.tp_netbook.proofs.Places.{place_get, sites_get}
use Rattle.tp_rules.proofs.fit.InRange.{sent_known}
use Rattle.tp_rules.proofs.OwnSteps.{executor_may, process_may, session_may}
use Rattle.tp_rules.proofs.sent.Parcels.{parcel, sent_output}
use Rattle.tp_rules.specs.Executor as executor
use Rattle.tp_rules.specs.Process as process
use Rattle.tp_rules.specs.Session as session
use Rattle.tp_rules.specs.Journal.{acts, client_of, identity_in, is_known, is_live, output_at, sent}
use Rattle.tp_rules.specs.Pending.{actors_of, due_item, event_by, inner_item, is_waiting, item, own_item, parcel_item, pending, sites_of}
use Rattle.tp_rules.specs.Plan.{Fate, Lost, Planned, Times, asked_of, by_time, deliveries_left, due, due_of, entries_of, fate_of, if_due, is_planned, plan_of, put_in}
use Rattle.tp_rules.specs.Rules.{MayMake, enabled}
use Rattle.tp_rules.specs.Runs.{FollowsFate, FollowsLine, IsFor, IsFreeHistory, IsLegal, IsLost, MayHappen, outputs_in}
use Rattle.tp_rules.specs.Sheet.{ring_rule}
use Rattle.tp_rules.specs.declared.event.Entry.{Entry}
use Rattle.tp_rules.specs.declared.event.Event.TheVariants.{Inner as OfItself}
use Rattle.tp_rules.specs.declared.event.Inner.{Inner}
use Rattle.tp_rules.specs.declared.event.Inner.TheVariants.{Submit, Recover, Announce, Declare, Execute, Crash}
use Rattle.tp_rules.specs.declared.event.Item.{Item}
use Rattle.tp_rules.specs.declared.event.Parcel.{Parcel}
use Rattle.tp_script.specs.Accepted.{IsAccepted}
use Rattle.tp_script.specs.declared.script.PlanLine.{PlanLine}
use Rattle.tp_script.specs.declared.script.PlanLine.TheVariants.{Crash as CrashLine, Recover as RecoverLine, Lose, Repeat, RepeatAll}
use Rattle.tp_script.specs.declared.script.Script.{Script}
use Rattle.tp_wire.specs.declared.message.Message.{Message}

-- lists and options

-- what is kept of a list comes from one of its items
kept_in : {X Y : Type 0} (f : X → Option Y) (xs : List X) (y : Y) → IsIn y (filter_map f xs) → (x : X) × IsIn x xs × (f x ≡ Some y)
kept_in f [] y h = absurd h
kept_in {X} {Y} f (x ∷ xs) y h = by (f x) refl (kept_in f xs y)
  where
    by : (o : Option Y) → f x ≡ o → (IsIn y (filter_map f xs) → (z : X) × IsIn z xs × (f z ≡ Some y)) → (z : X) × IsIn z (x ∷ xs) × (f z ≡ Some y)
    by None e rest = let found = rest (subst (IsIn y) (out e) h) in (found.0, inr found.1, found.2)
      where
        out : f x ≡ None → filter_map f (x ∷ xs) ≡ filter_map f xs
        out k = rw k refl
    by (Some z) e rest = elim (subst (IsIn y) (here e) h) [
      | inl same ↦ (x, inl refl, e ∙ ap (λ (w : Y). Some w) (sym same))
      | inr later ↦ let found = rest later in (found.0, inr found.1, found.2)
    ]
      where
        here : f x ≡ Some z → filter_map f (x ∷ xs) ≡ z ∷ filter_map f xs
        here k = rw k refl

some_of : {X : Type 0} (b : Bool) (o : Option X) (x : X) → cond b o None ≡ Some x → (b ≡ true) × (o ≡ Some x)
some_of true o x e = (refl, e)
some_of false o x e = absurd cc

no_more : {X : Type 0} (o : Option X) → is_none o ≡ true → o ≡ None
no_more None e = refl
no_more (Some x) e = absurd cc

inner_is : (a : ActorName) (o : Option Inner) (it : Item) → inner_item a o ≡ Some it → (inner : Inner) × (o ≡ Some inner) × (it ≡ item a (OfItself inner))
inner_is a None it e = absurd cc
inner_is a (Some inner) it e = (inner, refl, let same : item a (OfItself inner) ≡ it = cc in sym same)

-- lines are crashes and recoveries

abbrev IsLine : Planned → Type 0
IsLine p = is_planned (OfItself p.inner) ≡ true

asked_line : (s : Site) (line : PlanLine) (p : Planned) → asked_of s line ≡ Some p → IsLine p
asked_line s (CrashLine site after) p e =
    let same : record { after = after; inner = Crash } ≡ p = let parts = some_of (same_site site s) (Some (record { after = after; inner = Crash })) p e in let some = parts.1 in cc in
    ap (λ (q : Planned). is_planned (OfItself q.inner)) (sym same)
asked_line s (RecoverLine site id after) p e =
    let same : record { after = after; inner = Recover id } ≡ p = let parts = some_of (same_site site s) (Some (record { after = after; inner = Recover id })) p e in let some = parts.1 in cc in
    ap (λ (q : Planned). is_planned (OfItself q.inner)) (sym same)
asked_line s (Lose a b n) p e = absurd cc
asked_line s (Repeat a b n times) p e = absurd cc
asked_line s (RepeatAll times) p e = absurd cc

asked_lines : (s : Site) (plan : List PlanLine) → Each IsLine (filter_map (asked_of s) plan)
asked_lines s [] = tt
asked_lines s (line ∷ plan) = by (asked_of s line) refl (asked_lines s plan)
  where
    by : (o : Option Planned) → asked_of s line ≡ o → Each IsLine (filter_map (asked_of s) plan) → Each IsLine (filter_map (asked_of s) (line ∷ plan))
    by None e rest = rw e rest
    by (Some p) e rest = rw e (asked_line s line p e, rest)

put_lines : (x : Planned) (ys : List Planned) → IsLine x → Each IsLine ys → Each IsLine (put_in x ys)
put_lines x [] is each = (is, tt)
put_lines x (y ∷ ys) is each =
    cond_both (nat_le x.after y.after) (x ∷ y ∷ ys) (y ∷ put_in x ys) (Each IsLine) (λ t. (is, each)) (λ f. (each.0, put_lines x ys is each.1))

timed_lines : (xs : List Planned) → Each IsLine xs → Each IsLine (by_time xs)
timed_lines [] each = tt
timed_lines (x ∷ xs) each = put_lines x (by_time xs) each.0 (timed_lines xs each.1)

plan_lines : (script : Script) (s : Site) → Each IsLine (plan_of script s)
unfolding plan_of
plan_lines script s = timed_lines (filter_map (asked_of s) script.plan) (asked_lines s script.plan)

got_each : {X : Type 0} (P : X → Type 0) (xs : List X) (i : ℕ) (x : X) → Each P xs → slice_get xs i ≡ Some x → P x
got_each P xs i x each at = each_in P xs x each (in_at xs i x at)
  where
    in_at : {X : Type 0} (xs : List X) (i : ℕ) (x : X) → slice_get xs i ≡ Some x → IsIn x xs
    in_at [] i x e = absurd cc
    in_at (y ∷ ys) zero x e = let same : y ≡ x = cc in inl (sym same)
    in_at (y ∷ ys) (suc i) x e = inr (in_at ys i x e)

line_due : (script : Script) (s : Site) (made i : ℕ) (inner : Inner) → if_due made (slice_get (plan_of script s) i) ≡ Some inner → is_planned (OfItself inner) ≡ true
line_due script s made i inner e = of (slice_get (plan_of script s) i) refl e
  where
    of : (o : Option Planned) → slice_get (plan_of script s) i ≡ o → if_due made o ≡ Some inner → is_planned (OfItself inner) ≡ true
    of None at k = absurd cc
    of (Some p) at k =
        let line : IsLine p = got_each IsLine (plan_of script s) i p (plan_lines script s) at in
        let parts = some_of (nat_le p.after made) (Some p.inner) inner k in
        let same : p.inner ≡ inner = let some = parts.1 in cc in
        ap (λ (i : Inner). is_planned (OfItself i)) (sym same) ∙ line

pub due_line : (script : Script) (older : List Entry) (s : Site) (inner : Inner) → due script older s ≡ Some inner → is_planned (OfItself inner) ≡ true
unfolding due
due_line script older s inner e = line_due script s (length (entries_of older s)) (length (filter (λ x. is_planned x.event) (entries_of older s))) inner e

-- what a step that may come next is
record IsNext (script : Script) (older : List Entry) (it : Item) : Type 0 where
  known : is_known script it.actor ≡ true
  live : is_live older it.actor ≡ true
  may : MayHappen script older it.actor it.event
  line : FollowsLine (due_of script older it.actor) it.event
  fate : FollowsFate script older it.event

module _ (script : Script) (accepted : IsAccepted script) (older : List Entry) (history : IsFreeHistory script older) where
  -- a due line

  pub planned_may : (s : Site) (inner : Inner) → is_planned (OfItself inner) ≡ true → MayMake (identity_in script (Process s)) (acts older (Process s)) inner
  planned_may s (Recover id) e = tt
  planned_may s Crash e = tt
  planned_may s (Submit n) e = absurd cc
  planned_may s Announce e = absurd cc
  planned_may s (Declare id) e = absurd cc
  planned_may s (Execute id) e = absurd cc

  line_next : (it : Item) → IsIn it (filter_map (due_item script older) (sites_of script)) → IsNext script older it
  line_next it h =
      let found = kept_in (due_item script older) (sites_of script) it h in
      let s : Site = found.0 in
      let parts = some_of (is_live older (Process s)) (inner_item (Process s) (due script older s)) it found.2 in
      let step = inner_is (Process s) (due script older s) it parts.1 in
      let place = get_in (sites_of script) s found.1 in
      subst (IsNext script older) (sym step.2) (record {
        known = (sites_get script place.0 s place.1).1;
        live = parts.0;
        may = planned_may s step.0 (due_line script older s step.0 step.1);
        line = subst (λ (o : Option Inner). FollowsLine o (OfItself step.0)) (sym step.1) refl;
        fate = tt;
      })

  -- an output

  waits : (a : ActorName) → is_waiting script older a ≡ true → (is_live older a ≡ true) × (due_of script older a ≡ None)
  waits a e = let parts = and_parts (is_live older a) (is_none (due_of script older a)) e in (parts.0, no_more (due_of script older a) parts.1)

  parcel_next : (it : Item) → IsIn it (filter_map (parcel_item script older) (sent older)) → IsNext script older it
  parcel_next it h =
      let found = kept_in (parcel_item script older) (sent older) it h in
      let p : Parcel = found.0 in
      let parts = some_of (is_waiting script older p.message.to && nat_lt 0 (deliveries_left script older p)) (Some (item p.message.to (event_by (fate_of script older p) p))) it found.2 in
      let both = and_parts (is_waiting script older p.message.to) (nat_lt 0 (deliveries_left script older p)) parts.0 in
      let free = waits p.message.to both.0 in
      let is : item p.message.to (event_by (fate_of script older p) p) ≡ it = let some = parts.1 in cc in
      subst (IsNext script older) is (record {
        known = each_in (λ (q : Parcel). is_known script q.message.to ≡ true) (sent older) p (sent_known script accepted older history) found.1;
        live = free.0;
        may = may_by p found.1 (fate_of script older p);
        line = subst (λ (o : Option Inner). FollowsLine o (event_by (fate_of script older p) p)) (sym free.1) (unplanned p (fate_of script older p));
        fate = fate_by p found.1 (ltb-true 0 (deliveries_left script older p) both.1) (fate_of script older p) refl;
      })
    where
      there : (p : Parcel) → IsIn p (sent older) → output_at older p.entry p.place ≡ Some p.message
      there p h = sent_output older p h

      may_by : (p : Parcel) → IsIn p (sent older) → (f : Fate) → MayHappen script older p.message.to (event_by f p)
      may_by p h Lost = subst (IsFor p.message.to) (sym (there p h)) refl
      may_by p h (Times n) = subst (IsFor p.message.to) (sym (there p h)) refl

      unplanned : (p : Parcel) (f : Fate) → is_planned (event_by f p) ≡ false
      unplanned p Lost = refl
      unplanned p (Times n) = refl

      it_is : (p : Parcel) → IsIn p (sent older) → (m : Message) → output_at older p.entry p.place ≡ Some m → p ≡ parcel p.entry p.place m
      it_is p h m at = let same : p.message ≡ m = (let both : Some p.message ≡ Some m = sym (there p h) ∙ at in cc) in ap (λ (x : Message). parcel p.entry p.place x) same

      lost : (f : Fate) → f ≡ Lost → IsLost f
      lost f e = subst IsLost (sym e) tt

      not_lost : (n : ℕ) (f : Fate) → f ≡ Times n → ¬ IsLost f
      not_lost n f e h = subst IsLost e h

      fate_by : (p : Parcel) → IsIn p (sent older) → 0 < deliveries_left script older p → (f : Fate) → fate_of script older p ≡ f → FollowsFate script older (event_by f p)
      fate_by p h some Lost e = λ m at. subst (λ (q : Parcel). IsLost (fate_of script older q) × (0 < deliveries_left script older q)) (it_is p h m at) (lost (fate_of script older p) e, some)
      fate_by p h some (Times n) e = λ m at. subst (λ (q : Parcel). (¬ IsLost (fate_of script older q)) × (0 < deliveries_left script older q)) (it_is p h m at) (not_lost n (fate_of script older p) e, some)

  -- a step of its own

  may_make : (a : ActorName) (inner : Inner) → enabled (identity_in script a) (acts older a) ≡ Some inner
      → MayMake (identity_in script a) (acts older a) inner × (is_planned (OfItself inner) ≡ false)
  may_make (Process s) inner e =
      let is : inner ≡ Announce = (process_may (process.state_after (ring_rule script.topology) s (acts older (Process s))) inner e).0 in
      of inner is e
    where
      of : (i : Inner) → i ≡ Announce → enabled (identity_in script (Process s)) (acts older (Process s)) ≡ Some i
          → MayMake (identity_in script (Process s)) (acts older (Process s)) i × (is_planned (OfItself i) ≡ false)
      of Announce is e = (e, refl)
      of (Submit n) is e = absurd cc
      of (Recover id) is e = absurd cc
      of (Declare id) is e = absurd cc
      of (Execute id) is e = absurd cc
      of Crash is e = absurd cc
  may_make (Executor s) inner e =
      let found = executor_may script.topology s (executor.state_after script.topology s (acts older (Executor s))) inner e in
      let unplanned : is_planned (OfItself inner) ≡ false = elim found.2 [
        | inl declares ↦ ap (λ (i : Inner). is_planned (OfItself i)) declares.0
        | inr executes ↦ ap (λ (i : Inner). is_planned (OfItself i)) executes.0
      ] in
      of inner unplanned e
    where
      of : (i : Inner) → is_planned (OfItself i) ≡ false → enabled (identity_in script (Executor s)) (acts older (Executor s)) ≡ Some i
          → MayMake (identity_in script (Executor s)) (acts older (Executor s)) i × (is_planned (OfItself i) ≡ false)
      of Announce is e = (e, refl)
      of (Submit n) is e = (e, refl)
      of (Recover c) is e = absurd cc
      of (Declare c) is e = (e, refl)
      of (Execute c) is e = (e, refl)
      of Crash is e = absurd cc
  may_make (Session s) inner e =
      let is = (session_may script.topology (client_of script s) (session.state_after script.topology (client_of script s) (acts older (Session s))) inner e).0 in
      of inner _ is e
    where
      of : (i : Inner) (n : ℕ) → i ≡ Submit n → enabled (identity_in script (Session s)) (acts older (Session s)) ≡ Some i
          → MayMake (identity_in script (Session s)) (acts older (Session s)) i × (is_planned (OfItself i) ≡ false)
      of Announce n is e = absurd cc
      of (Submit k) n is e = (e, refl)
      of (Recover id) n is e = absurd cc
      of (Declare id) n is e = absurd cc
      of (Execute id) n is e = absurd cc
      of Crash n is e = absurd cc

  own_next : (it : Item) → IsIn it (filter_map (own_item script older) (actors_of script)) → IsNext script older it
  own_next it h =
      let found = kept_in (own_item script older) (actors_of script) it h in
      let a : ActorName = found.0 in
      let parts = some_of (is_waiting script older a) (inner_item a (enabled (identity_in script a) (acts older a))) it found.2 in
      let free = waits a parts.0 in
      let step = inner_is a (enabled (identity_in script a) (acts older a)) it parts.1 in
      let place = get_in (actors_of script) a found.1 in
      let may = may_make a step.0 step.1 in
      subst (IsNext script older) (sym step.2) (record {
        known = (place_get script place.0 a place.1).1;
        live = free.0;
        may = may.0;
        line = subst (λ (o : Option Inner). FollowsLine o (OfItself step.0)) (sym free.1) may.1;
        fate = tt;
      })

  is_next : (it : Item) → IsIn it (pending script older) → IsNext script older it
  unfolding pending
  is_next it h = elim (in_either (filter_map (due_item script older) (sites_of script) ++ filter_map (parcel_item script older) (sent older)) (filter_map (own_item script older) (actors_of script)) it h) [
    | inl first ↦ elim (in_either (filter_map (due_item script older) (sites_of script)) (filter_map (parcel_item script older) (sent older)) it first) [
      | inl line ↦ line_next it line
      | inr parcel ↦ parcel_next it parcel
    ]
    | inr own ↦ own_next it own
  ]

  -- its actor is known and it may happen
  pub pending_may : (it : Item) → IsIn it (pending script older) → (is_known script it.actor ≡ true) × MayHappen script older it.actor it.event
  pending_may it h = let next = is_next it h in (next.known, next.may)

  pub pending_legal : (it : Item) → IsIn it (pending script older) → (e : Entry) → e.actor ≡ it.actor → e.event ≡ it.event → e.outputs ≡ outputs_in script older it.actor it.event → IsLegal script older e
  pending_legal it h e actor event outputs =
      let next = is_next it h in record {
        rules = record {
          known = ap (λ (a : ActorName). is_known script a) actor ∙ next.known;
          live = ap (λ (a : ActorName). is_live older a) actor ∙ next.live;
          may = subst (λ (a : ActorName). MayHappen script older a e.event) (sym actor) (subst (MayHappen script older it.actor) (sym event) next.may);
          outputs = outputs ∙ ap (λ (a : ActorName). outputs_in script older a it.event) (sym actor) ∙ ap (outputs_in script older e.actor) (sym event);
        };
        plan = record {
          line = subst (λ (a : ActorName). FollowsLine (due_of script older a) e.event) (sym actor) (subst (FollowsLine (due_of script older it.actor)) (sym event) next.line);
          fate = subst (FollowsFate script older) (sym event) next.fate;
        };
      }
