-- A site turns only where the plan has a line for it, and keeps its lines. Used for the outputs that are put into the inboxes of such sites.
use Rattle.std.proofs.Common.{◌≡◌, ℕ, inl, inr, Bool, true, false, List, [], ◌∷◌, length, Option, Some, None, refl, sym, ap, subst, ◌∙◌, arith}
use Rattle.std.proofs.lemmas.Bool.{cases_Bool, cases_eq, ltb-false}
use Rattle.std.specs.Prelude.{◌⊎◌, ◌&&◌, ◌||◌, is_none, nat_lt, not, slice_get}
use Rattle.tp_base.specs.declared.names.ActorName.{ActorName}
use Rattle.tp_base.specs.declared.names.ActorName.TheVariants.{Process, Executor, Session}
use Rattle.tp_base.specs.declared.names.Site.{Site}
use Rattle.tp_netbook.proofs.Watches.{due_is, watch_is}
use Rattle.tp_netbook.specs.Netbook.{AreCounted, AreWatches, IsCounted, IsCountedAt, IsCrashAt, differs, TurnsByPlan, has_lines, if_now, line_due, may_turn, turned}
use Rattle.tp_netbook.specs.Places.{place_of_site}
use Rattle.tp_netbook.specs.declared.line.Line.{Line}
use Rattle.tp_netbook.specs.declared.netbook.Netbook.{Netbook}
use Rattle.tp_netbook.specs.declared.watch.Watch.{Watch}
use Rattle.tp_rules.specs.Journal.{is_crash, is_known}
use Rattle.tp_rules.specs.Plan.{due_of, is_planned}
use Rattle.tp_rules.specs.Runs.{FollowsLine}
use Rattle.tp_rules.specs.declared.event.Entry.{Entry}
use Rattle.tp_rules.specs.declared.event.Event.{Event}
use Rattle.tp_rules.specs.declared.event.Event.TheVariants.{Deliver, Dropped, Inner as OfItself}
use Rattle.tp_rules.specs.declared.event.Inner.{Inner}
use Rattle.tp_rules.specs.declared.event.Inner.TheVariants.{Submit, Recover, Announce, Declare, Execute, Crash}
use Rattle.tp_script.specs.declared.script.Script.{Script}

no_item : {X : Type 0} (xs : List X) (i : ℕ) → nat_lt 0 (length xs) ≡ false → slice_get xs i ≡ None
no_item [] i e = refl
no_item (x ∷ xs) i e = absurd (omega (arith, ltb-false 0 (length (x ∷ xs)) e))

no_line : (w : Watch) → has_lines (Some w) ≡ false → line_due w ≡ None
no_line w none = ap (if_now w.made) (no_item w.lines.items w.came none)

-- a watch turns by a line, or by a crash
pub turned_by : (event : Event) (w w' : Watch) → IsCounted event w w' → turned w w' ≡ true → (has_lines (Some w) ≡ true) ⊎ (is_crash event ≡ true)
turned_by event w w' counted turns = elim (cases_Bool (has_lines (Some w))) [
  | inl some ↦ inl some
  | inr none ↦
      let due : is_none (line_due w) ≡ true = ap is_none (no_line w none) in
      let due' : is_none (line_due w') ≡ true = ap is_none (no_line w' (ap (λ (l : List Line). nat_lt 0 (length l)) counted.lines ∙ none)) in
      let is : turned w w' ≡ (differs w.live (w.live && not (is_crash event)) || differs true true) =
      ap (λ (b : Bool). differs w.live b || differs (is_none (line_due w)) (is_none (line_due w'))) counted.live
      ∙ ap (λ (b : Bool). differs w.live (w.live && not (is_crash event)) || differs b (is_none (line_due w'))) due
      ∙ ap (λ (b : Bool). differs w.live (w.live && not (is_crash event)) || differs true b) due' in
      inr (by w.live (is_crash event) (sym is ∙ turns))
]
  where
    by : (live crash : Bool) → (differs live (live && not crash) || differs true true) ≡ true → crash ≡ true
    by true true e = refl
    by true false e = absurd cc
    by false true e = refl
    by false false e = absurd cc

pub turns_by_plan : (actor : ActorName) (event : Event) (b : Netbook) (s : Site) (place : ℕ) (w w' : Watch) → actor ≡ Process s → place ≡ place_of_site b.topology s
    → slice_get b.sites.items place ≡ Some w → IsCounted event w w' → turned w w' ≡ true → TurnsByPlan actor event (Some place) b
turns_by_plan actor event b s place w w' is where' at counted turns home same =
    let here : place ≡ home = cc in
    elim (turned_by event w w' counted turns) [
      | inl some ↦ inl (ap (may_turn b) (sym here) ∙ ap has_lines at ∙ some)
      | inr crash ↦ inr (s, is, sym here ∙ where', crash)
    ]

crash_planned : (event : Event) → is_crash event ≡ true → is_planned event ≡ true
crash_planned (Deliver entry place) e = absurd cc
crash_planned (Dropped entry place) e = absurd cc
crash_planned (OfItself (Submit n)) e = absurd cc
crash_planned (OfItself (Recover id)) e = absurd cc
crash_planned (OfItself Announce) e = absurd cc
crash_planned (OfItself (Declare id)) e = absurd cc
crash_planned (OfItself (Execute id)) e = absurd cc
crash_planned (OfItself Crash) e = refl

lines_for : (w : Watch) (event : Event) → is_crash event ≡ true → FollowsLine (line_due w) event → has_lines (Some w) ≡ true
lines_for w event crash follows = elim (cases_Bool (has_lines (Some w))) [
  | inl some ↦ some
  | inr none ↦
      let unplanned : is_planned event ≡ false = subst (λ (o : Option Inner). FollowsLine o event) (no_line w none) follows in
      let planned : is_planned event ≡ true = crash_planned event crash in
      absurd cc
]

-- whoever turns in a run has a line
module _ (script : Script) (older : List Entry) (e : Entry) (b : Netbook) (topology : b.topology ≡ script.topology) (are : AreWatches script older b.sites.items)
    (known : is_known script e.actor ≡ true) (follows : FollowsLine (due_of script older e.actor) e.event) where
  pub turns_listed : (home : ℕ) → (may_turn b home ≡ true) ⊎ IsCrashAt e.actor e.event b home → may_turn b home ≡ true
  turns_listed home (inl may) = may
  turns_listed home (inr (s, actor, place, crash)) =
      let found = watch_is script older b topology are s (ap (is_known script) (sym actor) ∙ known) in
      let due = subst (λ (o : Option Inner). FollowsLine o e.event) (sym (due_is script older found.0 s found.2)) (subst (λ (a : ActorName). FollowsLine (due_of script older a) e.event) actor follows) in
      ap (λ (k : ℕ). may_turn b k) place ∙ ap has_lines found.1 ∙ lines_for found.0 e.event crash due

-- the lines stay as an entry is counted
module _ (actor : ActorName) (event : Event) (b : Netbook) (before after : List Watch) (counted : AreCounted actor event b before after) (k : ℕ) where
  lines_at : (actor : ActorName) (w w' : Watch) → IsCountedAt actor event b k w w' → w'.lines.items ≡ w.lines.items
  lines_at (Process s) w w' at = elim (cases_eq k (place_of_site b.topology s)) [
    | inl here ↦ (at.0 here).lines
    | inr apart ↦ ap (λ (x : Watch). x.lines.items) (at.1 apart)
  ]
  lines_at (Executor s) w w' at = ap (λ (x : Watch). x.lines.items) at
  lines_at (Session s) w w' at = ap (λ (x : Watch). x.lines.items) at

  pub lines_stay : has_lines (slice_get after k) ≡ true → has_lines (slice_get before k) ≡ true
  lines_stay = of (slice_get after k) refl
    where
      of : (o : Option Watch) → slice_get after k ≡ o → has_lines o ≡ true → has_lines (slice_get before k) ≡ true
      of None at e = absurd cc
      of (Some w') at e =
          let found = counted.each k w' at in
          ap has_lines found.1 ∙ ap (λ (l : List Line). nat_lt 0 (length l)) (sym (lines_at actor found.0 w' found.2)) ∙ e
