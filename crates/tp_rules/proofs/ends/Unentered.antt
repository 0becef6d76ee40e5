-- How many crash and recover lines have no entry yet: an entry never adds to it, and the entry of a due line takes one away.
-- Used for the end of runs.
use Rattle.std.proofs.Common.{◌≡◌, ℕ, suc, ◌+◌, ◌<◌, ◌≤◌, inl, inr, Bool, true, false, List, [], ◌∷◌, Option, Some, None, length, cond, refl, sym, ap, subst, ◌∙◌, arith}
use Rattle.std.specs.Prelude.{filter, filter_map, ◌&&◌, nat_le}
use Rattle.std.proofs.lemmas.Bool.{cond_both, cases_Bool, and_parts, and_from, and_left, and_right}
use Rattle.tp_base.specs.Names.{same_name, same_site}
use Rattle.tp_base.proofs.SameNames.{same_name_is}
use Rattle.tp_base.specs.declared.names.ActorName.{ActorName}
use Rattle.tp_base.specs.declared.names.ActorName.TheVariants.{Process, Executor, Session}
use Rattle.tp_base.specs.declared.names.Site.{Site}
use Rattle.tp_rules.specs.Addresses.{site}
use Rattle.tp_rules.specs.Left.{is_event_line, unentered}
use Rattle.tp_rules.specs.Plan.{is_planned, due_of, due, plan_of, next_line, if_due, entries_of, asked_of, put_in, by_time, Planned}
use Rattle.tp_rules.specs.Runs.{MayHappen, FollowsLine, IsLegal, IsHistory}
use Rattle.tp_rules.specs.declared.event.Entry.{Entry}
use Rattle.tp_rules.specs.declared.event.Event.{Event}
use Rattle.tp_rules.specs.declared.event.Event.TheVariants.{Deliver, Dropped, Inner as OfItself}
use Rattle.tp_rules.specs.declared.event.Inner.{Inner}
use Rattle.tp_rules.specs.declared.event.Inner.TheVariants.{Submit, Recover, Announce, Declare, Execute, Crash}
use Rattle.tp_script.specs.declared.script.PlanLine.{PlanLine}
use Rattle.tp_script.specs.declared.script.PlanLine.TheVariants.{Crash as CrashLine, Recover as RecoverLine, Lose, Repeat, RepeatAll}
use Rattle.tp_script.specs.declared.script.Script.{Script}
use Rattle.tp_rules.proofs.ends.SitesCounted.{often, often_none, often_more, one_if, fewer_sites}
use Rattle.tp_rules.proofs.lists.Tallies.{count_yes, count_no, filter_yes, filter_no}
use Rattle.std.proofs.lemmas.Option.{slice_get_within}
use Rattle.std.specs.List.{cons_option}

pub unentered_stays : (script : Script) (older : List Entry) (e : Entry) → unentered script (e ∷ older) ≤ unentered script older
unentered_stays script older e = elim (cases_Bool (is_planned e.event)) [
  | inl t ↦ omega (arith, count_yes (λ (x : Entry). is_planned x.event) e older t)
  | inr f ↦ omega (arith, count_no (λ (x : Entry). is_planned x.event) e older f)
]

-- the site of a crash or recover line
abbrev line_site : PlanLine → Option Site
line_site (CrashLine site after) = Some site
line_site (RecoverLine site id after) = Some site
line_site (Lose from to n) = None
line_site (Repeat from to n times) = None
line_site (RepeatAll times) = None

put_in_length : (x : Planned) (xs : List Planned) → length (put_in x xs) ≡ suc (length xs)
put_in_length x [] = refl
put_in_length x (y ∷ ys) = cond_both (nat_le x.after y.after) (x ∷ y ∷ ys) (y ∷ put_in x ys) (λ (l : List Planned). length l ≡ suc (suc (length ys)))
    (λ e. refl) (λ e. ap (λ (n : ℕ). suc n) (put_in_length x ys))

by_time_length : (xs : List Planned) → length (by_time xs) ≡ length xs
by_time_length [] = refl
by_time_length (x ∷ xs) = put_in_length x (by_time xs) ∙ ap (λ (n : ℕ). suc n) (by_time_length xs)

one_asked : (b : Bool) (x : Planned) (xs : List Planned) → length (cons_option (cond b (Some x) None) xs) ≡ one_if b + length xs
one_asked true x xs = omega arith
one_asked false x xs = omega arith

asked_often : (s : Site) (lines : List PlanLine) → length (filter_map (asked_of s) lines) ≡ often s (filter_map line_site lines)
asked_often s [] = sym (often_none s)
asked_often s (CrashLine site after ∷ lines) =
    let x : Planned = record { after = after; inner = Crash } in
    omega (arith, one_asked (same_site site s) x (filter_map (asked_of s) lines), often_more s site (filter_map line_site lines), asked_often s lines)
asked_often s (RecoverLine site id after ∷ lines) =
    let x : Planned = record { after = after; inner = Recover id } in
    omega (arith, one_asked (same_site site s) x (filter_map (asked_of s) lines), often_more s site (filter_map line_site lines), asked_often s lines)
asked_often s (Lose from to n ∷ lines) = asked_often s lines
asked_often s (Repeat from to n times ∷ lines) = asked_often s lines
asked_often s (RepeatAll times ∷ lines) = asked_often s lines

lines_length : (lines : List PlanLine) → length (filter_map line_site lines) ≡ length (filter is_event_line lines)
lines_length [] = refl
lines_length (CrashLine site after ∷ lines) = ap (λ (n : ℕ). suc n) (lines_length lines)
lines_length (RecoverLine site id after ∷ lines) = ap (λ (n : ℕ). suc n) (lines_length lines)
lines_length (Lose from to n ∷ lines) = lines_length lines
lines_length (Repeat from to n times ∷ lines) = lines_length lines
lines_length (RepeatAll times ∷ lines) = lines_length lines

plan_length : (script : Script) (s : Site) → length (plan_of script s) ≡ often s (filter_map line_site script.plan)
unfolding plan_of
plan_length script s = by_time_length (filter_map (asked_of s) script.plan) ∙ asked_often s script.plan

-- the site of a crash or recovery
abbrev site_of : ActorName → Option Site
site_of (Process s) = Some s
site_of (Executor s) = None
site_of (Session s) = None

abbrev planned_site : Entry → Option Site
planned_site e = cond (is_planned e.event) (site_of e.actor) None

abbrev planned_at : List Entry → Site → ℕ
planned_at older s = length (filter (λ e. is_planned e.event) (entries_of older s))

one_planned : (s : Site) (b : Bool) (a : ActorName) (sites : List Site) →
    often s (cons_option (cond b (site_of a) None) sites) ≡ one_if (b && same_name a (Process s)) + often s sites
one_planned s true (Process x) sites = often_more s x sites
one_planned s true (Executor x) sites = omega arith
one_planned s true (Session x) sites = omega arith
one_planned s false a sites = omega arith

one_entered : (s : Site) (e : Entry) (older : List Entry) →
    planned_at (e ∷ older) s ≡ one_if (is_planned e.event && same_name e.actor (Process s)) + planned_at older s
one_entered s e older = elim (cases_Bool (same_name e.actor (Process s))) [
  | inl t ↦
      let here : entries_of (e ∷ older) s ≡ e ∷ entries_of older s = filter_yes (λ (x : Entry). same_name x.actor (Process s)) e older t in
      let moved : planned_at (e ∷ older) s ≡ length (filter (λ (x : Entry). is_planned x.event) (e ∷ entries_of older s)) =
      ap (λ (l : List Entry). length (filter (λ (x : Entry). is_planned x.event) l)) here in
      elim (cases_Bool (is_planned e.event)) [
        | inl p ↦
            let one : one_if (is_planned e.event && same_name e.actor (Process s)) ≡ 1 = ap one_if (and_from _ _ p t) in
            omega (arith, count_yes (λ (x : Entry). is_planned x.event) e (entries_of older s) p)
        | inr q ↦
            let none : one_if (is_planned e.event && same_name e.actor (Process s)) ≡ 0 = ap one_if (and_left _ (same_name e.actor (Process s)) q) in
            omega (arith, count_no (λ (x : Entry). is_planned x.event) e (entries_of older s) q)
      ]
  | inr f ↦
      let here : entries_of (e ∷ older) s ≡ entries_of older s = filter_no (λ (x : Entry). same_name x.actor (Process s)) e older f in
      let moved : planned_at (e ∷ older) s ≡ planned_at older s =
      ap (λ (l : List Entry). length (filter (λ (x : Entry). is_planned x.event) l)) here in
      let none : one_if (is_planned e.event && same_name e.actor (Process s)) ≡ 0 = ap one_if (and_right (is_planned e.event) _ f) in
      omega arith
]

planned_often : (s : Site) (older : List Entry) → often s (filter_map planned_site older) ≡ planned_at older s
planned_often s [] = often_none s
planned_often s (e ∷ older) =
    omega (arith, one_planned s (is_planned e.event) e.actor (filter_map planned_site older), one_entered s e older, planned_often s older)

-- crashes and recoveries are of processes
planned_actor : (script : Script) (older : List Entry) (actor : ActorName) (event : Event) → MayHappen script older actor event →
    is_planned event ≡ true →
    (s : Site) × (actor ≡ Process s)
planned_actor script older actor (Deliver entry place) may e = absurd cc
planned_actor script older actor (Dropped entry place) may e = absurd cc
planned_actor script older actor (OfItself (Submit n)) may e = absurd cc
planned_actor script older actor (OfItself Announce) may e = absurd cc
planned_actor script older actor (OfItself (Declare id)) may e = absurd cc
planned_actor script older actor (OfItself (Execute id)) may e = absurd cc
planned_actor script older (Process s) (OfItself (Recover id)) may e = (s, refl)
planned_actor script older (Executor s) (OfItself (Recover id)) may e = absurd may
planned_actor script older (Session s) (OfItself (Recover id)) may e = absurd may
planned_actor script older (Process s) (OfItself Crash) may e = (s, refl)
planned_actor script older (Executor s) (OfItself Crash) may e = absurd may
planned_actor script older (Session s) (OfItself Crash) may e = absurd may

planned_one : (b : Bool) (a : ActorName) (sites : List Site) → (b ≡ true → (s : Site) × (a ≡ Process s)) →
    length (cons_option (cond b (site_of a) None) sites) ≡ one_if b + length sites
planned_one true (Process x) sites h = omega arith
planned_one true (Executor x) sites h = let found = h refl in absurd (let wrong = found.1 in cc)
planned_one true (Session x) sites h = let found = h refl in absurd (let wrong = found.1 in cc)
planned_one false a sites h = omega arith

planned_length : (script : Script) (older : List Entry) → IsHistory script older →
    length (filter_map planned_site older) ≡ length (filter (λ e. is_planned e.event) older)
planned_length script [] h = refl
planned_length script (e ∷ older) h =
    let rest = planned_length script older h.0 in
    let one =
    planned_one (is_planned e.event) e.actor (filter_map planned_site older) (λ t. planned_actor script older e.actor e.event h.1.rules.may t) in
    elim (cases_Bool (is_planned e.event)) [
      | inl t ↦ let is : one_if (is_planned e.event) ≡ 1 = ap one_if t in omega (arith, count_yes (λ (x : Entry). is_planned x.event) e older t)
      | inr f ↦ let isnt : one_if (is_planned e.event) ≡ 0 = ap one_if f in omega (arith, count_no (λ (x : Entry). is_planned x.event) e older f)
    ]

-- a line is due where not all of the site's are entered
due_less : (script : Script) (older : List Entry) (s : Site) (inner : Inner) → due script older s ≡ Some inner →
    planned_at older s < length (plan_of script s)
unfolding due
due_less script older s inner e = of_line (next_line script older s) refl e
  where
    of_line : (o : Option Planned) → next_line script older s ≡ o → if_due (length (entries_of older s)) o ≡ Some inner →
        planned_at older s < length (plan_of script s)
    of_line None is f = absurd cc
    of_line (Some line) is f = slice_get_within (plan_of script s) (planned_at older s) line is

-- the entry of a plan line is due
planned_due : (script : Script) (older : List Entry) (s : Site) (o : Option Inner) (event : Event) → due script older s ≡ o → FollowsLine o event →
    is_planned event ≡ true →
    planned_at older s < length (plan_of script s)
planned_due script older s None event is follows e = absurd cc
planned_due script older s (Some inner) event is follows e = due_less script older s inner is

pub entry_less : (script : Script) (older : List Entry) (e : Entry) (s : Site) → IsLegal script older e → e.actor ≡ Process s →
    is_planned e.event ≡ true →
    planned_at older s < length (plan_of script s)
entry_less script older e s legal actor planned =
    planned_due script older s (due script older s) e.event refl
    (subst (λ (a : ActorName). FollowsLine (due_of script older a) e.event) actor legal.plan.line) planned

planned_within : (script : Script) (older : List Entry) → IsHistory script older → (s : Site) → planned_at older s ≤ length (plan_of script s)
planned_within script [] h s = omega arith
planned_within script (e ∷ older) h s = elim (cases_Bool (is_planned e.event && same_name e.actor (Process s))) [
  | inl t ↦
      let parts = and_parts (is_planned e.event) (same_name e.actor (Process s)) t in
      let one : one_if (is_planned e.event && same_name e.actor (Process s)) ≡ 1 = ap one_if t in
      omega (arith, one_entered s e older, entry_less script older e s h.1 (same_name_is e.actor (Process s) parts.1) parts.0)
  | inr f ↦
      let none : one_if (is_planned e.event && same_name e.actor (Process s)) ≡ 0 = ap one_if f in
      omega (arith, one_entered s e older, planned_within script older h.0 s)
]

-- the entry of a plan line takes one away
pub unentered_falls : (script : Script) (older : List Entry) (e : Entry) → IsHistory script older → IsLegal script older e →
    is_planned e.event ≡ true →
    unentered script (e ∷ older) < unentered script older
unentered_falls script older e h legal planned =
    let actor = planned_actor script older e.actor e.event legal.rules.may planned in
    let s = actor.0 in
    let shorter = fewer_sites (filter_map planned_site older) (filter_map line_site script.plan) s
    (λ x. omega (arith, planned_often x older, plan_length script x, planned_within script older h x))
    (omega (arith, planned_often s older, plan_length script s, entry_less script older e s legal actor.1 planned)) in
    omega (arith, planned_length script older h, lines_length script.plan, count_yes (λ (x : Entry). is_planned x.event) e older planned)
