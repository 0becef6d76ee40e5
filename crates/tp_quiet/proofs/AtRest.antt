-- In a quiet run without losses and crashes each actor lives, each message was delivered, and nobody has a step to
-- make.
use Rattle.std.proofs.Common.{◌≡◌, ℕ, suc, ◌<◌, ◌≤◌, Bool, inl, inr, true, false, cond, List, [], ◌∷◌, ◌++◌, length, map, Option, Some, None, refl, sym, ap, subst, ◌∙◌, arith}
use Rattle.std.specs.Prelude.{◌==◌, ◌&&◌, ◌-◌, not, is_none, filter, option_map}
use Rattle.std.specs.List.{list_any, filter_map, cons_option}
use Rattle.std.proofs.lemmas.Bool.{and_parts, and_from, cond_both, cond-false, eqb-true}
use Rattle.tp_base.proofs.Each.{each_in}
use Rattle.tp_base.proofs.Members.{in_get, in_left, in_right, map_in}
use Rattle.tp_base.proofs.Ranges.{in_range}
use Rattle.tp_base.specs.Lists.{Each, IsIn}
use Rattle.tp_base.specs.Names.{same_name, same_site}
use Rattle.tp_base.specs.declared.names.ActorName.{ActorName}
use Rattle.tp_base.specs.declared.names.ActorName.TheVariants.{Process, Executor, Session}
use Rattle.tp_base.specs.declared.names.SessionId.{SessionId}
use Rattle.tp_base.specs.declared.names.Site.{Site}
use Rattle.tp_rules.specs.Acts.{Act, Took}
use Rattle.tp_rules.specs.Journal.{acts, act_of, with_act, sent, numbered, output_at, identity_in, is_known, is_live, is_crash, has_crashed, is_delivery_of, IsSent}
use Rattle.tp_rules.specs.Pending.{sites_of, actors_of, due_item, parcel_item, own_item, inner_item, is_waiting, pending}
use Rattle.tp_rules.specs.Plan.{Planned, asked_of, put_in, by_time, plan_of, is_planned, due, due_of, next_line, if_due, entries_of, Fate, Lost, Times, fate_by, fate_of, is_lost_by, repeated_by, times_for_all, first_or, ordinal_of, deliveries, was_lost, left_by, deliveries_left}
use Rattle.tp_rules.specs.Rules.{enabled}
use Rattle.tp_rules.specs.Runs.{IsHistory, IsFreeHistory, FollowsLine, MayHappen, IsFor}
use Rattle.tp_rules.specs.declared.event.Entry.{Entry}
use Rattle.tp_rules.specs.declared.event.Event.{Event}
use Rattle.tp_rules.specs.declared.event.Event.TheVariants.{Deliver, Dropped, Inner as OfItself}
use Rattle.tp_rules.specs.declared.event.Inner.{Inner}
use Rattle.tp_rules.specs.declared.event.Inner.TheVariants.{Submit, Recover, Announce, Declare, Execute, Crash}
use Rattle.tp_rules.specs.declared.event.Item.{Item}
use Rattle.tp_rules.specs.declared.event.Parcel.{Parcel}
use Rattle.tp_rules.proofs.ActsMore.{acts_then}
use Rattle.tp_rules.proofs.Histories.{free_history}
use Rattle.tp_rules.proofs.fit.InRange.{sent_known}
use Rattle.tp_rules.proofs.sent.Parcels.{found_before, sent_output}
use Rattle.tp_rules.proofs.ends.Unannounced.{site_listed}
use Rattle.tp_script.specs.Accepted.{IsAccepted, IsPlanLineOf}
use Rattle.tp_script.specs.declared.script.PlanLine.{PlanLine}
use Rattle.tp_script.specs.declared.script.PlanLine.TheVariants.{Crash as CrashLine, Recover as RecoverLine, Lose, Repeat, RepeatAll}
use Rattle.tp_script.specs.declared.script.Script.{Script}
use Rattle.tp_wire.specs.declared.message.Message.{Message}
use Rattle.tp_quiet.specs.Finished.{is_harm, IsHarmless}
use Rattle.tp_topology.specs.Counting.{up_to}
use Rattle.tp_rules.proofs.lists.UpTo.{in_up_to}

-- lists

append_none : {X : Type 0} (xs ys : List X) → xs ++ ys ≡ [] → (xs ≡ []) × (ys ≡ [])
append_none [] ys e = (refl, e)
append_none (x ∷ xs) ys e = absurd cc

pub none_there : {X Y : Type 0} (f : X → Option Y) (xs : List X) (x : X) → filter_map f xs ≡ [] → IsIn x xs
    → f x ≡ None
none_there f [] x e h = absurd h
none_there f (y ∷ ys) x e h = of_first (f y) refl e h (λ rest there. none_there f ys x rest there)
  where
    of_first : (o : Option _) → f y ≡ o → cons_option o (filter_map f ys) ≡ [] → IsIn x (y ∷ ys)
        → (filter_map f ys ≡ [] → IsIn x ys → f x ≡ None) → f x ≡ None
    of_first None is e (inl same) rest = ap f same ∙ is
    of_first None is e (inr there) rest = rest e there
    of_first (Some z) is e h rest = absurd cc

-- no line crashes a site

abbrev Spares : Planned → Type 0
Spares line = is_crash (OfItself line.inner) ≡ false

put_spares : (x : Planned) (ys : List Planned) → Spares x → Each Spares ys → Each Spares (put_in x ys)
put_spares x [] h k = (h, tt)
put_spares x (y ∷ ys) h k =
    cond_both _ (x ∷ y ∷ ys) (y ∷ put_in x ys) (Each Spares) (λ t. (h, k)) (λ f. (k.0, put_spares x ys h k.1))

time_spares : (xs : List Planned) → Each Spares xs → Each Spares (by_time xs)
time_spares [] h = tt
time_spares (x ∷ xs) h = put_spares x (by_time xs) h.0 (time_spares xs h.1)

lines_spare : (s : Site) (plan : List PlanLine) → list_any is_harm plan ≡ false
    → Each Spares (filter_map (asked_of s) plan)
lines_spare s [] h = tt
lines_spare s (CrashLine site after ∷ plan) h = absurd cc
lines_spare s (RecoverLine site id after ∷ plan) h =
    cond_both (same_site site s) (Some (record { after = after; inner = Recover id })) None
    (λ (o : Option Planned). Each Spares (cons_option o (filter_map (asked_of s) plan)))
    (λ t. (refl, lines_spare s plan h)) (λ f. lines_spare s plan h)
lines_spare s (Lose from to n ∷ plan) h = absurd cc
lines_spare s (Repeat from to n times ∷ plan) h = lines_spare s plan h
lines_spare s (RepeatAll times ∷ plan) h = lines_spare s plan h

module _ (script : Script) (accepted : IsAccepted script) (harmless : IsHarmless script) where
  plan_spares : (s : Site) → Each Spares (plan_of script s)
  unfolding plan_of
  plan_spares s = time_spares (filter_map (asked_of s) script.plan) (lines_spare s script.plan harmless)

  abbrev Spared : Option Inner → Type 0
  Spared None = Unit {0}
  Spared (Some inner) = is_crash (OfItself inner) ≡ false

  due_spares : (older : List Entry) (s : Site) → Spared (due script older s)
  unfolding due
  due_spares older s = of_line (next_line script older s) refl
    where
      of_line : (o : Option Planned) → next_line script older s ≡ o → Spared (if_due (length (entries_of older s)) o)
      of_line None is = tt
      of_line (Some line) is =
          let spared : Spares line = each_in Spares (plan_of script s) line (plan_spares s)
          (in_get (plan_of script s) _ line is) in
          cond_both _ (Some line.inner) None Spared (λ t. spared) (λ f. tt)

  of_name : (older : List Entry) (a : ActorName) → Spared (due_of script older a)
  of_name older (Process s) = due_spares older s
  of_name older (Executor s) = tt
  of_name older (Session s) = tt

  unplanned_spares : (event : Event) → is_planned event ≡ false → is_crash event ≡ false
  unplanned_spares (OfItself Crash) h = absurd cc
  unplanned_spares (OfItself (Submit n)) h = refl
  unplanned_spares (OfItself (Recover id)) h = refl
  unplanned_spares (OfItself Announce) h = refl
  unplanned_spares (OfItself (Declare id)) h = refl
  unplanned_spares (OfItself (Execute id)) h = refl
  unplanned_spares (Deliver entry place) h = refl
  unplanned_spares (Dropped entry place) h = refl

  line_spares : (o : Option Inner) (event : Event) → Spared o → FollowsLine o event → is_crash event ≡ false
  line_spares None event h f = unplanned_spares event f
  line_spares (Some inner) event h f = ap is_crash f ∙ h

  crashed_none : (older : List Entry) → IsHistory script older → (s : Site) → has_crashed older s ≡ false
  crashed_none [] history s = refl
  crashed_none (e ∷ older) history s =
      grind (
        arith,
        line_spares (due_of script older e.actor) e.event
            (of_name older e.actor) history.1.plan.line,
        crashed_none older history.0 s,
      )

  pub live_all : (older : List Entry) → IsHistory script older → (a : ActorName) → is_live older a ≡ true
  live_all older history (Process s) = ap not (crashed_none older history s)
  live_all older history (Executor s) = ap not (crashed_none older history s)
  live_all older history (Session s) = refl

  -- each output is delivered, and at least once

  none_lost : (from to : ActorName) (n : ℕ) (plan : List PlanLine) → list_any is_harm plan ≡ false
      → list_any (is_lost_by from to n) plan ≡ false
  none_lost from to n [] h = refl
  none_lost from to n (CrashLine site after ∷ plan) h = absurd cc
  none_lost from to n (RecoverLine site id after ∷ plan) h = none_lost from to n plan h
  none_lost from to n (Lose a b k ∷ plan) h = absurd cc
  none_lost from to n (Repeat a b k times ∷ plan) h = none_lost from to n plan h
  none_lost from to n (RepeatAll times ∷ plan) h = none_lost from to n plan h

  first_some : (ns : List ℕ) (n : ℕ) → Each (λ k. 1 ≤ k) ns → 1 ≤ n → 1 ≤ first_or ns n
  first_some [] n h k = k
  first_some (m ∷ ms) n h k = h.0

  repeats_some : (from to : ActorName) (n : ℕ) (plan : List PlanLine) → Each (IsPlanLineOf script) plan
      → Each (λ k. 1 ≤ k) (filter_map (repeated_by from to n) plan)
  repeats_some from to n [] h = tt
  repeats_some from to n (CrashLine site after ∷ plan) h = repeats_some from to n plan h.1
  repeats_some from to n (RecoverLine site id after ∷ plan) h = repeats_some from to n plan h.1
  repeats_some from to n (Lose a b k ∷ plan) h = repeats_some from to n plan h.1
  repeats_some from to n (Repeat a b k times ∷ plan) h =
      cond_both (same_name a from && same_name b to && (k == n)) (Some times) None
      (λ (o : Option ℕ). Each (λ k. 1 ≤ k) (cons_option o (filter_map (repeated_by from to n) plan)))
      (λ t. (omega (arith, h.0), repeats_some from to n plan h.1)) (λ f. repeats_some from to n plan h.1)
  repeats_some from to n (RepeatAll times ∷ plan) h = repeats_some from to n plan h.1

  all_some : (plan : List PlanLine) → Each (IsPlanLineOf script) plan
      → Each (λ k. 1 ≤ k) (filter_map times_for_all plan)
  all_some [] h = tt
  all_some (CrashLine site after ∷ plan) h = all_some plan h.1
  all_some (RecoverLine site id after ∷ plan) h = all_some plan h.1
  all_some (Lose a b k ∷ plan) h = all_some plan h.1
  all_some (Repeat a b k times ∷ plan) h = all_some plan h.1
  all_some (RepeatAll times ∷ plan) h = (omega (arith, h.0), all_some plan h.1)

  -- an output of which nothing is left was delivered
  was_delivered : (older : List Entry) (p : Parcel) → deliveries_left script older p ≡ 0
      → 0 < deliveries older p.entry p.place
  unfolding deliveries_left fate_of
  was_delivered older p none =
      let from = p.message.from in
      let to = p.message.to in
      let n = ordinal_of older p in
      let times : ℕ = first_or (filter_map (repeated_by from to n) script.plan)
      (first_or (filter_map times_for_all script.plan) 1) in
      let some : 1 ≤ times = first_some _ _ (repeats_some from to n script.plan accepted.plan)
      (first_some _ 1 (all_some script.plan accepted.plan) (omega arith)) in
      let fate : fate_by script.plan from to n ≡ Times times = cond-false
      (list_any (is_lost_by from to n) script.plan) Lost (Times times) (none_lost from to n script.plan harmless) in
      let left : times - deliveries older p.entry p.place ≡ 0 = sym
      (ap (λ (f : Fate). left_by f (deliveries older p.entry p.place) (was_lost older p.entry p.place)) fate)
      ∙ none in
      omega arith

  -- a delivery is an act of the addressee
  pub record Taken (older : List Entry) (entry place : ℕ) : Type 0 where
    pub m : Message
    pub at : output_at older entry place ≡ Some m
    pub took : IsIn (Took m) (acts older m.to)

  delivery_is : (entry place : ℕ) (event : Event) → is_delivery_of entry place event ≡ true
      → event ≡ Deliver entry place
  delivery_is entry place (Deliver e p) h =
      let both = and_parts (e == entry) (p == place) h in
      let one : e ≡ entry = eqb-true e entry both.0 in
      let two : p ≡ place = eqb-true p place both.1 in cc
  delivery_is entry place (Dropped e p) h = absurd cc
  delivery_is entry place (OfItself inner) h = absurd cc

  acts_stay : (e : Entry) (older : List Entry) (a : ActorName) (act : Act) → IsIn act (acts older a)
      → IsIn act (acts (e ∷ older) a)
  acts_stay e older a act h =
      cond_both (same_name e.actor a) (with_act (act_of older e.event) (acts older a)) (acts older a) (IsIn act)
      (λ t. more (act_of older e.event)) (λ f. h)
    where
      more : (o : Option Act) → IsIn act (with_act o (acts older a))
      more None = h
      more (Some new) = inr h

  taken : (older : List Entry) → IsFreeHistory script older → (entry place : ℕ) → 0 < deliveries older entry place
      → Taken older entry place
  taken [] history entry place some = absurd (omega arith)
  taken (e ∷ older) history entry place some =
      of_test (is_delivery_of entry place e.event) refl some (λ more. taken older history.0 entry place more)
    where
      here : (o : Option Message) → output_at older entry place ≡ o → IsFor e.actor o
          → e.event ≡ Deliver entry place → Taken (e ∷ older) entry place
      here None is for event = absurd for
      here (Some m) is for event = record {
        m = m;
        at = found_before older e entry place m is;
        took =
            subst (IsIn (Took m)) (sym (acts_then older e m.to (Took m) (sym for) (ap (act_of older) event ∙ ap
            (option_map Took) is))) (inl refl);
      }

      of_test : (b : Bool) → is_delivery_of entry place e.event ≡ b
          → 0 < length (cond b (e ∷ filter (λ x. is_delivery_of entry place x.event) older)
          (filter (λ x. is_delivery_of entry place x.event) older)) →
          (0 < deliveries older entry place → Taken older entry place) → Taken (e ∷ older) entry place
      of_test true is some rest =
          let event = delivery_is entry place e.event is in
          here (output_at older entry place) refl (subst (MayHappen script older e.actor) event history.1.may) event
      of_test false is some rest =
          let old = rest some in
          record {
            m = old.m;
            at = found_before older e entry place old.m old.at;
            took = acts_stay e older old.m.to
                (Took old.m) old.took;
          }

  -- what was sent is a parcel

  pub record InParcel (ps : List Parcel) (m : Message) : Type 0 where
    pub parcel : Parcel
    pub there : IsIn parcel ps
    pub is : parcel.message ≡ m

  in_numbered : (n k : ℕ) (ms : List Message) (m : Message) → IsIn m ms → InParcel (numbered n k ms) m
  in_numbered n k [] m h = absurd h
  in_numbered n k (x ∷ ms) m
      (inl same) = record { parcel = record { entry = n; place = k; message = x }; there = inl refl; is = sym same }
  in_numbered n k (x ∷ ms) m (inr later) =
      let rest = in_numbered n
      (suc k) ms m later in record { parcel = rest.parcel; there = inr rest.there; is = rest.is }

  in_sent : (older : List Entry) (m : Message) → IsSent older m → InParcel (sent older) m
  in_sent [] m h = absurd h
  in_sent (e ∷ older) m (inl here) =
      let new = in_numbered (suc (length older)) 1 e.outputs m here in
      record { parcel = new.parcel; there = in_right (sent older) _ new.parcel new.there; is = new.is }
  in_sent (e ∷ older) m (inr before) =
      let old = in_sent older m before in
      record { parcel = old.parcel; there = in_left (sent older) _ old.parcel old.there; is = old.is }

  -- all actors are listed
  abbrev Sessions : List ActorName
  Sessions = map (λ s. Session (record { 0 = s })) (up_to (length script.homes))

  abbrev Processes : List ActorName
  Processes = map (λ s. Process s) (sites_of script)

  abbrev Executors : List ActorName
  Executors = map (λ s. Executor s) (sites_of script)

  listed : (a : ActorName) → is_known script a ≡ true → IsIn a (actors_of script)
  unfolding actors_of
  listed (Process s) h =
      in_left (Sessions ++ Processes) Executors (Process s) (in_right Sessions Processes (Process s)
      (map_in (λ (x : Site). Process x) (sites_of script) s (site_listed script s h)))
  listed (Executor s) h =
      in_right (Sessions ++ Processes) Executors (Executor s)
      (map_in (λ (x : Site). Executor x) (sites_of script) s (site_listed script s h))
  listed (Session s) h = in_left (Sessions ++ Processes) Executors (Session s) (in_left Sessions Processes (Session s)
      (map_in (λ (n : ℕ). Session (record { 0 = n })) (up_to (length script.homes)) s.0 (session_listed s h)))
    where
      session_listed : (s : SessionId) → is_known script (Session s) ≡ true → IsIn s.0 (up_to (length script.homes))
      session_listed s h = let range = in_range 1 (length script.homes) s.0 h in
          in_up_to (length script.homes) s.0 range.0 range.1

  pub record IsAtRest (older : List Entry) : Type 0 where
    pub took : (m : Message) → IsSent older m → IsIn (Took m) (acts older m.to)
    pub still : (a : ActorName) → is_known script a ≡ true → enabled (identity_in script a) (acts older a) ≡ None

  inner_none : (a : ActorName) (o : Option Inner) → inner_item a o ≡ None → o ≡ None
  inner_none a None e = refl
  inner_none a (Some inner) e = absurd cc

  if_true : {X : Type 0} (b : Bool) (o : Option X) → b ≡ true → cond b o None ≡ None → o ≡ None
  if_true true o is e = e
  if_true false o is e = absurd cc

  no_less : (b : Bool) (x : Item) → cond b (Some x) None ≡ None → b ≡ false
  no_less true x e = absurd cc
  no_less false x e = refl

  pub record Parts (older : List Entry) : Type 0 where
    pub lines : filter_map (due_item script older) (sites_of script) ≡ []
    pub parcels : filter_map (parcel_item script older) (sent older) ≡ []
    pub own : filter_map (own_item script older) (actors_of script) ≡ []

  parts_of : (older : List Entry) → pending script older ≡ [] → Parts older
  unfolding pending
  parts_of older quiet =
      let one = append_none (filter_map (due_item script older) (sites_of script) ++ filter_map
      (parcel_item script older) (sent older)) _ quiet in
      let two = append_none (filter_map (due_item script older) (sites_of script)) _ one.0 in
      record { lines = two.0; parcels = two.1; own = one.1 }

  pub at_rest : (older : List Entry) → IsHistory script older → pending script older ≡ [] → IsAtRest older
  at_rest older history quiet = record { took = took; still = still }
    where
      parts : Parts older
      parts = parts_of older quiet

      undue : (a : ActorName) → is_known script a ≡ true → is_none (due_of script older a) ≡ true
      undue (Process s) h =
          ap is_none (inner_none (Process s) (due script older s)
          (if_true (is_live older (Process s)) _ (live_all older history (Process s))
          (none_there (due_item script older) (sites_of script) s parts.lines (site_listed script s h))))
      undue (Executor s) h = refl
      undue (Session s) h = refl

      waits : (a : ActorName) → is_known script a ≡ true → is_waiting script older a ≡ true
      waits a h = and_from (is_live older a) (is_none (due_of script older a)) (live_all older history a) (undue a h)

      took : (m : Message) → IsSent older m → IsIn (Took m) (acts older m.to)
      took m h =
          let in_it = in_sent older m h in
          let p = in_it.parcel in
          let known : is_known script p.message.to ≡ true = each_in
          (λ (q : Parcel). is_known script q.message.to ≡ true) (sent older) p
          (sent_known script accepted older (free_history script older history)) in_it.there in
          let none = no_less _ _ (none_there (parcel_item script older) (sent older) p parts.parcels in_it.there) in
          let zero : deliveries_left script older p ≡ 0 = grind (arith, none, waits p.message.to known) in
          let t = taken older (free_history script older history) p.entry p.place (was_delivered older p zero) in
          let same : t.m ≡ m = (let e : Some t.m ≡ Some p.message = sym t.at
          ∙ sent_output older p in_it.there in let is = in_it.is in cc) in
          subst (λ (x : Message). IsIn (Took x) (acts older x.to)) same t.took

      still : (a : ActorName) → is_known script a ≡ true → enabled (identity_in script a) (acts older a) ≡ None
      still a h =
          inner_none a _ (if_true (is_waiting script older a) _ (waits a h)
          (none_there (own_item script older) (actors_of script) a parts.own (listed a h)))
