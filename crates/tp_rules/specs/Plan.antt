-- The plan: when a site's lines are due, and what becomes of each output.
use Rattle.std.specs.Prelude.{ℕ, ◌-◌, ◌==◌, ◌&&◌, ◌||◌, nat_lt, nat_le, Bool, true, false, cond, List, [], ◌∷◌, Option, Some, None, length, filter, filter_map, slice_get}
use Rattle.std.specs.List.{list_any}
use Rattle.tp_base.specs.Names.{same_name, same_site}
use Rattle.tp_base.specs.declared.names.ActorName.{ActorName}
use Rattle.tp_base.specs.declared.names.ActorName.TheVariants.{Process, Executor, Session}
use Rattle.tp_base.specs.declared.names.Site.{Site}
use Rattle.tp_rules.specs.Journal.{sent, is_delivery_of, is_loss_of}
use Rattle.tp_rules.specs.declared.event.Entry.{Entry}
use Rattle.tp_rules.specs.declared.event.Event.{Event}
use Rattle.tp_rules.specs.declared.event.Event.TheVariants.{Inner as OfItself}
use Rattle.tp_rules.specs.declared.event.Inner.{Inner}
use Rattle.tp_rules.specs.declared.event.Inner.TheVariants.{Recover, Crash}
use Rattle.tp_rules.specs.declared.event.Parcel.{Parcel}
use Rattle.tp_script.specs.declared.script.PlanLine.{PlanLine}
use Rattle.tp_script.specs.declared.script.PlanLine.TheVariants.{Crash as CrashLine, Recover as RecoverLine, Lose, Repeat, RepeatAll}
use Rattle.tp_script.specs.declared.script.Script.{Script}

-- a crash or recovery that is asked of a process, once it has made so many entries
pub record Planned : Type 0 where
  pub after : ℕ
  pub inner : Inner

-- what a plan line asks of a site's process
abbrev pub asked_of : Site → PlanLine → Option Planned
asked_of s (CrashLine site after) = cond (same_site site s) (Some (record { after = after; inner = Crash })) None
asked_of s (RecoverLine site id after) = cond (same_site site s) (Some (record { after = after; inner = Recover id })) None
asked_of s _ = None

-- in front of the first that is asked no earlier
abbrev pub put_in : Planned → List Planned → List Planned
put_in x [] = x ∷ []
put_in x (y ∷ ys) = cond (nat_le x.after y.after) (x ∷ y ∷ ys) (y ∷ put_in x ys)

abbrev pub by_time : List Planned → List Planned
by_time [] = []
by_time (x ∷ xs) = put_in x (by_time xs)

-- a site's lines by their numbers, ties in the order of the script
unfoldable pub plan_of : Script → Site → List Planned
plan_of script s = by_time (filter_map (asked_of s) script.plan)

abbrev pub is_planned : Event → Bool
is_planned (OfItself Crash) = true
is_planned (OfItself (Recover id)) = true
is_planned _ = false

-- the entries of a site's process
abbrev pub entries_of : List Entry → Site → List Entry
entries_of older s = filter (λ e. same_name e.actor (Process s)) older

-- the site's first line that has no entry yet
abbrev pub next_line : Script → List Entry → Site → Option Planned
next_line script older s =
    slice_get (plan_of script s) (length (filter (λ e. is_planned e.event) (entries_of older s)))

abbrev pub if_due : ℕ → Option Planned → Option Inner
if_due made None = None
if_due made (Some line) = cond (nat_le line.after made) (Some line.inner) None

-- the line of a site that is due: its process has made as many entries as its number says
unfoldable pub due : Script → List Entry → Site → Option Inner
due script older s = if_due (length (entries_of older s)) (next_line script older s)

-- processes alone have due lines
abbrev pub due_of : Script → List Entry → ActorName → Option Inner
due_of script older (Process s) = due script older s
due_of script older (Executor s) = None
due_of script older (Session s) = None

-- an output is lost, or delivered so often
pub data Fate : Type 0 where
  Lost : Fate
  Times : ℕ → Fate

abbrev pub is_lost_by : ActorName → ActorName → ℕ → PlanLine → Bool
is_lost_by from to n (Lose a b ordinal) = same_name a from && same_name b to && (ordinal == n)
is_lost_by from to n _ = false

abbrev pub repeated_by : ActorName → ActorName → ℕ → PlanLine → Option ℕ
repeated_by from to n (Repeat a b ordinal times) = cond (same_name a from && same_name b to && (ordinal == n)) (Some times) None
repeated_by from to n _ = None

abbrev pub times_for_all : PlanLine → Option ℕ
times_for_all (RepeatAll times) = Some times
times_for_all _ = None

abbrev pub first_or : List ℕ → ℕ → ℕ
first_or [] n = n
first_or (m ∷ ms) n = m

-- by a `drop` line that names it, else a `repeat` line that names it, else `repeat all`, else once
abbrev pub fate_by : List PlanLine → ActorName → ActorName → ℕ → Fate
fate_by plan from to n = cond (list_any (is_lost_by from to n) plan)
    Lost
    (Times (first_or (filter_map (repeated_by from to n) plan) (first_or (filter_map times_for_all plan) 1)))

-- whether an output goes between the same two actors, no later than another
abbrev pub is_counted_to : Parcel → Parcel → Bool
is_counted_to parcel other =
    same_name other.message.from parcel.message.from && same_name other.message.to parcel.message.to
    && (nat_lt other.entry parcel.entry || ((other.entry == parcel.entry) && nat_le other.place parcel.place))

-- an output's number among all between its two actors, from 1
abbrev pub ordinal_of : List Entry → Parcel → ℕ
ordinal_of older parcel = length (filter (is_counted_to parcel) (sent older))

unfoldable pub fate_of : Script → List Entry → Parcel → Fate
fate_of script older parcel = fate_by script.plan parcel.message.from parcel.message.to (ordinal_of older parcel)

abbrev pub deliveries : List Entry → ℕ → ℕ → ℕ
deliveries older entry place = length (filter (λ e. is_delivery_of entry place e.event) older)

abbrev pub was_lost : List Entry → ℕ → ℕ → Bool
was_lost older entry place = list_any (λ e. is_loss_of entry place e.event) older

-- how often an output of this fate may still be delivered; a lost one counts once until it was lost
abbrev pub left_by : Fate → ℕ → Bool → ℕ
left_by Lost delivered lost = cond lost 0 1
left_by (Times n) delivered lost = n - delivered

unfoldable pub deliveries_left : Script → List Entry → Parcel → ℕ
deliveries_left script older parcel =
    left_by (fate_of script older parcel) (deliveries older parcel.entry parcel.place) (was_lost older parcel.entry parcel.place)
