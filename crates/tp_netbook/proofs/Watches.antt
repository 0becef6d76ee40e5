-- What the watches of a netbook say of the sites' processes, before and after an entry.
use Rattle.std.proofs.Common.{◌≡◌, ℕ, zero, suc, ◌+◌, ◌-◌, ◌<◌, ◌≤◌, ◌^◌, inl, inr, Bool, true, false, cond, List, [], ◌∷◌, ◌++◌, length, map, take, Option, Some, None, refl, sym, ap, subst, ◌∙◌, arith}
use Rattle.std.proofs.lemmas.Bool.{and_parts, cases_Bool, cases_eq, cases_lt, cond-false, cond-true}
use Rattle.std.proofs.lemmas.List.{length-append, take_all}
use Rattle.std.proofs.lemmas.Option.{slice_get-map, slice_get_within}
use Rattle.tp_base.proofs.Ends.{slice_get_left, slice_get_right}
use Rattle.std.specs.Prelude.{filter_map, is_none, not, ◌&&◌, ◌||◌, filter, option_map, slice_get}
use Rattle.tp_base.proofs.SameNames.{same_name_not, same_name_refl}
use Rattle.tp_base.specs.Names.{same_name}
use Rattle.tp_base.specs.declared.names.ActorName.{ActorName}
use Rattle.tp_base.specs.declared.names.ActorName.TheVariants.{Process, Executor, Session}
use Rattle.tp_base.specs.declared.names.Site.{Site}
use Rattle.tp_netbook.proofs.Places.{get_sites, sites_get}
use Rattle.tp_netbook.proofs.Rosters.{take_next}
use Rattle.tp_netbook.specs.Netbook.{AreCounted, AreWatches, IsCounted, IsCountedAt, IsWatch, are_free, has_no_line, is_alive, is_free, is_free_there, is_undue, if_now, line_due, line_item, lives, planned_of, watch_of}
use Rattle.tp_netbook.specs.Places.{place_of_site}
use Rattle.tp_netbook.specs.declared.line.Line.{Line}
use Rattle.tp_netbook.specs.declared.netbook.Netbook.{Netbook}
use Rattle.tp_netbook.specs.declared.watch.Watch.{Watch}
use Rattle.tp_rules.proofs.lists.Tallies.{count_no, count_yes, filter_length, filter_no, filter_yes}
use Rattle.tp_rules.specs.Journal.{has_crashed, is_crash, is_known, is_live}
use Rattle.tp_rules.specs.Pending.{due_item, inner_item, sites_of}
use Rattle.tp_rules.specs.Plan.{Planned, due, due_of, entries_of, if_due, is_planned, plan_of}
use Rattle.tp_rules.specs.declared.event.Entry.{Entry}
use Rattle.tp_rules.specs.declared.event.Inner.{Inner}
use Rattle.tp_script.specs.declared.script.Script.{Script}
use Rattle.tp_topology.specs.Shape.{is_site_of}

none_within : {X : Type 0} (xs : List X) (k : ℕ) → k < length xs → slice_get xs k ≡ None → ⊥
none_within [] k lt e = omega arith
none_within (x ∷ xs) zero lt e = absurd cc
none_within (x ∷ xs) (suc k) lt e = none_within xs k (omega arith) e

-- one watch

module _ (script : Script) (older : List Entry) (w : Watch) (s : Site) (is : IsWatch script older w s) where
  now_is : (made : ℕ) (o : Option Line) → if_now made o ≡ if_due made (option_map planned_of o)
  now_is made None = refl
  now_is made (Some line) = refl

  pub due_is : line_due w ≡ due script older s
  unfolding due
  due_is =
      now_is w.made (slice_get w.lines.items w.came)
      ∙ ap (if_due w.made) (sym (slice_get-map planned_of w.lines.items w.came))
      ∙ ap (λ (n : ℕ). if_due n (slice_get (map planned_of w.lines.items) w.came)) is.made
      ∙ ap (λ (n : ℕ). if_due (length (entries_of older s)) (slice_get (map planned_of w.lines.items) n)) is.came
      ∙ ap (λ (l : List Planned). if_due (length (entries_of older s)) (slice_get l (length (filter (λ e. is_planned e.event) (entries_of older s))))) is.lines

  pub line_is : line_item w ≡ due_item script older s
  line_is =
      ap (λ (b : Bool). cond b (inner_item (Process w.site) (line_due w)) None) is.live
      ∙ ap (λ (t : Site). cond (is_live older (Process s)) (inner_item (Process t) (line_due w)) None) is.site
      ∙ ap (λ (o : Option Inner). cond (is_live older (Process s)) (inner_item (Process s) o) None) due_is

-- all of them

kept_alike : {X Y Z : Type 0} (f : X → Option Z) (g : Y → Option Z) (xs : List X) (ys : List Y) → length xs ≡ length ys
    → ((k : ℕ) (x : X) (y : Y) → slice_get xs k ≡ Some x → slice_get ys k ≡ Some y → f x ≡ g y) → filter_map f xs ≡ filter_map g ys
kept_alike f g [] [] many each = refl
kept_alike f g [] (y ∷ ys) many each = absurd cc
kept_alike f g (x ∷ xs) [] many each = absurd cc
kept_alike f g (x ∷ xs) (y ∷ ys) many each =
    let here : f x ≡ g y = each zero x y refl refl in
    let same : length xs ≡ length ys = omega arith in
    rw (here, kept_alike f g xs ys same (λ k a b p q. each (suc k) a b p q)) refl

pub lines_are : (script : Script) (older : List Entry) (ws : List Watch) → AreWatches script older ws → filter_map line_item ws ≡ filter_map (due_item script older) (sites_of script)
lines_are script older ws are = kept_alike line_item (due_item script older) ws (sites_of script) are.many (λ k w s p q. line_is script older w s (are.each k w s p q))

all_free : (ws : List Watch) → are_free ws ≡ true → (k : ℕ) (w : Watch) → slice_get ws k ≡ Some w → is_free_there w ≡ true
all_free [] free k w at = absurd cc
all_free (v ∷ vs) free zero w at =
    let same : v ≡ w = cc in
    ap is_free_there (sym same) ∙ (and_parts (is_free_there v) (are_free vs) free).0
all_free (v ∷ vs) free (suc k) w at = all_free vs (and_parts (is_free_there v) (are_free vs) free).1 k w at

module _ (script : Script) (older : List Entry) (book : Netbook) (topology : book.topology ≡ script.topology) (are : AreWatches script older book.sites.items) where
  -- the watch of a site of the shape
  pub watch_is : (s : Site) → is_site_of script.topology s ≡ true → (w : Watch) × (watch_of book s ≡ Some w) × IsWatch script older w s
  watch_is s known = of (slice_get book.sites.items (place_of_site script.topology s)) refl
    where
      there : slice_get (sites_of script) (place_of_site script.topology s) ≡ Some s
      there = get_sites script s known

      same : watch_of book s ≡ slice_get book.sites.items (place_of_site script.topology s)
      same = ap (λ t. slice_get book.sites.items (place_of_site t s)) topology

      of : (o : Option Watch) → slice_get book.sites.items (place_of_site script.topology s) ≡ o → (w : Watch) × (watch_of book s ≡ Some w) × IsWatch script older w s
      of (Some w) e = (w, same ∙ e, are.each (place_of_site script.topology s) w s e there)
      of None e =
          let within : place_of_site script.topology s < length (sites_of script) = slice_get_within (sites_of script) (place_of_site script.topology s) s there in
          absurd (none_within book.sites.items (place_of_site script.topology s) (omega (arith, are.many)) e)

  lives_is : (s : Site) → is_site_of script.topology s ≡ true → lives (watch_of book s) ≡ not (has_crashed older s)
  lives_is s known = let found = watch_is s known in ap lives found.1 ∙ found.2.live

  pub alive_is : (a : ActorName) → is_known script a ≡ true → is_alive book a ≡ is_live older a
  alive_is (Process s) known = lives_is s known
  alive_is (Executor s) known = lives_is s known
  alive_is (Session s) known = refl

  pub undue_is : (a : ActorName) → is_known script a ≡ true → is_undue book a ≡ is_none (due_of script older a)
  undue_is (Process s) known = let found = watch_is s known in ap has_no_line found.1 ∙ ap is_none (due_is script older found.0 s found.2)
  undue_is (Executor s) known = refl
  undue_is (Session s) known = refl

  -- an actor of the script, where every site lives and no line is due
  pub free_site : are_free book.sites.items ≡ true → (a : ActorName) → is_known script a ≡ true → is_free book a ≡ true
  free_site free (Process s) known =
      let found = watch_is s known in
      ap (λ (o : Option Watch). lives o && has_no_line o) found.1 ∙ all_free book.sites.items free (place_of_site book.topology s) found.0 found.1
  free_site free (Executor s) known =
      let found = watch_is s known in
      let both = and_parts found.0.live (is_none (line_due found.0)) (all_free book.sites.items free (place_of_site book.topology s) found.0 found.1) in
      ap (λ (o : Option Watch). lives o && true) found.1 ∙ ap (λ (b : Bool). b && true) both.0
  free_site free (Session s) known = refl

-- before the first entry

abbrev pub AreNew : Script → List Watch → List Site → Type 0
AreNew script ws ss = (length ws ≡ length ss) × ((k : ℕ) (w : Watch) (s : Site) → slice_get ws k ≡ Some w → slice_get ss k ≡ Some s → IsWatch script [] w s)

pub no_watches : (script : Script) (ws : List Watch) → ws ≡ [] → AreNew script ws []
no_watches script ws none = (ap length none, λ k w s at there. absurd cc)

pub new_more : (script : Script) (ws ws' : List Watch) (ss : List Site) (i : ℕ) (w : Watch) (s : Site) → AreNew script ws (take i ss) → slice_get ss i ≡ Some s → ws' ≡ ws ++ w ∷ []
    → w.site ≡ s → w.live ≡ true → w.made ≡ 0 → map planned_of w.lines.items ≡ plan_of script s → w.came ≡ 0 → AreNew script ws' (take (i + 1) ss)
new_more script ws ws' ss i w s are at more site live made lines came = subst (λ l. AreNew script l (take (i + 1) ss)) (sym more) (subst (AreNew script (ws ++ w ∷ [])) (sym (take_next ss i s at)) (many, each))
  where
    many : length (ws ++ w ∷ []) ≡ length (take i ss ++ s ∷ [])
    many = omega (arith, length-append ws (w ∷ []), length-append (take i ss) (s ∷ []), are.0)

    each : (k : ℕ) (v : Watch) (t : Site) → slice_get (ws ++ w ∷ []) k ≡ Some v → slice_get (take i ss ++ s ∷ []) k ≡ Some t → IsWatch script [] v t
    each k v t there of = elim (cases_lt k (length ws)) [
      | inl before ↦ are.1 k v t (sym (slice_get_left ws (w ∷ []) k before) ∙ there) (sym (slice_get_left (take i ss) (s ∷ []) k (omega (arith, are.0))) ∙ of)
      | inr past ↦
          let place : k ≡ length ws + (k - length ws) = omega arith in
          let place' : k ≡ length (take i ss) + (k - length ws) = omega (arith, are.0) in
          last (k - length ws) (sym (slice_get_right ws (w ∷ []) (k - length ws) k place) ∙ there) (sym (slice_get_right (take i ss) (s ∷ []) (k - length ws) k place') ∙ of)
    ]
      where
        last : (j : ℕ) → slice_get (w ∷ []) j ≡ Some v → slice_get (s ∷ []) j ≡ Some t → IsWatch script [] v t
        last zero p q =
            let same : w ≡ v = cc in
            let same' : s ≡ t = cc in
            subst (λ x. IsWatch script [] x t) same (subst (IsWatch script [] w) same' (record { site = site; live = live; made = made; lines = lines; came = came }))
        last (suc j) p q = absurd cc

pub all_new : (script : Script) (ws : List Watch) (ss : List Site) (i : ℕ) → AreNew script ws (take i ss) → length ss ≤ i → ss ≡ sites_of script → AreWatches script [] ws
all_new script ws ss i are past is =
    let all : take i ss ≡ sites_of script = take_all i ss past ∙ is in
    let new : AreNew script ws (sites_of script) = subst (AreNew script ws) all are in
    record { many = new.0; each = new.1 }

-- after one more entry

entries_more : (older : List Entry) (e : Entry) (s : Site) → same_name e.actor (Process s) ≡ true → entries_of (e ∷ older) s ≡ e ∷ entries_of older s
entries_more older e s is = filter_yes (λ (x : Entry). same_name x.actor (Process s)) e older is

entries_same : (older : List Entry) (e : Entry) (s : Site) → same_name e.actor (Process s) ≡ false → entries_of (e ∷ older) s ≡ entries_of older s
entries_same older e s apart = filter_no (λ (x : Entry). same_name x.actor (Process s)) e older apart

entries_few : (older : List Entry) (s : Site) → length (entries_of older s) ≤ length older
entries_few older s = filter_length (λ (x : Entry). same_name x.actor (Process s)) older

came_few : (older : List Entry) (s : Site) → length (filter (λ e. is_planned e.event) (entries_of older s)) ≤ length older
came_few older s =
    let some = filter_length (λ (e : Entry). is_planned e.event) (entries_of older s) in
    omega (arith, some, entries_few older s)

came_more : (e : Entry) (xs : List Entry) → length (filter (λ x. is_planned x.event) (e ∷ xs)) ≡ cond (is_planned e.event) (length (filter (λ x. is_planned x.event) xs) + 1) (length (filter (λ x. is_planned x.event) xs))
came_more e xs = elim (cases_Bool (is_planned e.event)) [
  | inl t ↦
      let count : length (filter (λ x. is_planned x.event) (e ∷ xs)) ≡ suc (length (filter (λ x. is_planned x.event) xs)) = count_yes (λ (x : Entry). is_planned x.event) e xs t in
      let one : suc (length (filter (λ x. is_planned x.event) xs)) ≡ length (filter (λ x. is_planned x.event) xs) + 1 = omega arith in
      count ∙ one ∙ sym (cond-true (is_planned e.event) (length (filter (λ x. is_planned x.event) xs) + 1) (length (filter (λ x. is_planned x.event) xs)) t)
  | inr f ↦
      count_no (λ (x : Entry). is_planned x.event) e xs f
      ∙ sym (cond-false (is_planned e.event) (length (filter (λ x. is_planned x.event) xs) + 1) (length (filter (λ x. is_planned x.event) xs)) f)
]

-- whether a site lives after an entry
crashed_yes : (older : List Entry) (e : Entry) (s : Site) → same_name e.actor (Process s) ≡ true → not (has_crashed (e ∷ older) s) ≡ (not (has_crashed older s) && not (is_crash e.event))
crashed_yes older e s is = by (is_crash e.event) (has_crashed older s) (same_name e.actor (Process s)) is
  where
    by : (c h n : Bool) → n ≡ true → not ((n && c) || h) ≡ (not h && not c)
    by true true n e = rw e refl
    by true false n e = rw e refl
    by false true n e = rw e refl
    by false false n e = rw e refl

crashed_no : (older : List Entry) (e : Entry) (s : Site) → same_name e.actor (Process s) ≡ false → has_crashed (e ∷ older) s ≡ has_crashed older s
crashed_no older e s apart = rw apart refl

module _ (script : Script) (older : List Entry) (e : Entry) (w : Watch) (s : Site) (is : IsWatch script older w s) where
  pub watch_same : same_name e.actor (Process s) ≡ false → IsWatch script (e ∷ older) w s
  watch_same apart =
      let entries = entries_same older e s apart in record {
        site = is.site;
        live = is.live ∙ ap (λ (b : Bool). not b) (sym (crashed_no older e s apart));
        made = is.made ∙ ap length (sym entries);
        lines = is.lines;
        came = is.came ∙ ap (λ (l : List Entry). length (filter (λ x. is_planned x.event) l)) (sym entries);
      }

  pub watch_more : (w' : Watch) → same_name e.actor (Process s) ≡ true → length older + 1 < 2 ^ 64 → IsCounted e.event w w' → IsWatch script (e ∷ older) w' s
  watch_more w' own short counted =
      let entries = entries_more older e s own in
      let many : length (e ∷ entries_of older s) ≡ w.made + 1 = omega (arith, is.made) in
      let few : w.made + 1 < 2 ^ 64 = omega (arith, is.made, entries_few older s) in
      let came_few : w.came + 1 < 2 ^ 64 = omega (arith, is.came, came_few older s) in record {
        site = counted.site ∙ is.site;
        live = counted.live ∙ ap (λ (b : Bool). b && not (is_crash e.event)) is.live ∙ sym (crashed_yes older e s own);
        made = counted.made few ∙ sym many ∙ ap length (sym entries);
        lines = ap (map planned_of) counted.lines ∙ is.lines;
        came = counted.came came_few ∙ ap (λ (n : ℕ). cond (is_planned e.event) (n + 1) n) is.came ∙ sym (came_more e (entries_of older s))
            ∙ ap (λ (l : List Entry). length (filter (λ x. is_planned x.event) l)) (sym entries);
      }

pub watches_more : (script : Script) (older : List Entry) (e : Entry) (book : Netbook) (ws : List Watch) → book.topology ≡ script.topology
    → AreWatches script older book.sites.items → is_known script e.actor ≡ true → length older + 1 < 2 ^ 64 → AreCounted e.actor e.event book book.sites.items ws → AreWatches script (e ∷ older) ws
watches_more script older e book ws topology are known short counted = record {
  many = counted.many ∙ are.many;
  each = λ k w' s at site. let found = counted.each k w' at in by e.actor refl known k w' s found.0 (are.each k found.0 s found.1 site) site found.2;
}
  where
    by : (a : ActorName) → e.actor ≡ a → is_known script e.actor ≡ true → (k : ℕ) (w' : Watch) (s : Site) (w : Watch) → IsWatch script older w s → slice_get (sites_of script) k ≡ Some s
        → IsCountedAt e.actor e.event book k w w' → IsWatch script (e ∷ older) w' s
    by (Process t) is of k w' s w watch site counts = elim (cases_eq k (place_of_site book.topology t)) [
      | inl here ↦
          let at : slice_get (sites_of script) k ≡ Some t = ap (slice_get (sites_of script)) (here ∙ ap (λ (shape : _). place_of_site shape t) topology) ∙ get_sites script t (ap (is_known script) (sym is) ∙ of) in
          let same : s ≡ t = let both : Some s ≡ Some t = sym site ∙ at in cc in
          let own : same_name e.actor (Process s) ≡ true = ap (λ (a : ActorName). same_name a (Process s)) (is ∙ ap (λ (x : Site). Process x) (sym same)) ∙ same_name_refl (Process s) in
          watch_more script older e w s watch w' own short ((subst (λ a. IsCountedAt a e.event book k w w') is counts).0 here)
      | inr apart ↦
          let place : k ≡ place_of_site script.topology s = (sites_get script k s site).0 in
          let other : same_name e.actor (Process s) ≡ false = same_name_not e.actor (Process s) (λ (q : e.actor ≡ Process s). apart (place ∙ ap (λ shape. place_of_site shape s) (sym topology) ∙ ap (place_of_site book.topology) (one (sym q ∙ is)))) in
          subst (λ v. IsWatch script (e ∷ older) v s) (sym ((subst (λ a. IsCountedAt a e.event book k w w') is counts).1 apart)) (watch_same script older e w s watch other)
    ]
      where
        one : {s t : Site} → Process s ≡ Process t → s ≡ t
        one q = cc
    by (Executor t) is of k w' s w watch site counts =
        let other : same_name e.actor (Process s) ≡ false = ap (λ (a : ActorName). same_name a (Process s)) is in
        subst (λ v. IsWatch script (e ∷ older) v s) (sym (subst (λ a. IsCountedAt a e.event book k w w') is counts)) (watch_same script older e w s watch other)
    by (Session t) is of k w' s w watch site counts =
        let other : same_name e.actor (Process s) ≡ false = ap (λ (a : ActorName). same_name a (Process s)) is in
        subst (λ v. IsWatch script (e ∷ older) v s) (sym (subst (λ a. IsCountedAt a e.event book k w w') is counts)) (watch_same script older e w s watch other)
