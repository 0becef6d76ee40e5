-- What a netbook keeps of a journal, and which steps it says may come next.
use Rattle.std.specs.Prelude.{ℕ, ◌≡◌, ◌≢◌, ◌⊎◌, ◌+◌, ◌^◌, ◌<◌, ◌&&◌, ◌||◌, not, nat_le, nat_lt, is_none, Bool, true, false, cond, List, [], ◌∷◌, ◌++◌, Option, Some, None, filter, filter_map, length, map, reverse, set, slice_get}
use Rattle.std.specs.List.{list_all, zip}
use Rattle.tp_base.specs.declared.names.ActorName.{ActorName}
use Rattle.tp_base.specs.declared.names.ActorName.TheVariants.{Process, Executor, Session}
use Rattle.tp_base.specs.declared.names.Site.{Site}
use Rattle.tp_base.specs.Lists.{Each, IsIn}
use Rattle.tp_bits.specs.Bits.{AreBits}
use Rattle.tp_fates.specs.Fates.{AreCountsFor, AreFates}
use Rattle.tp_netbook.specs.Outputs.{StandsAfter, event_of, new_output, output_of, starts_of}
use Rattle.tp_netbook.specs.Places.{place_of_site}
use Rattle.tp_fates.specs.Routes.{next_number}
use Rattle.tp_netbook.specs.declared.line.Line.{Line}
use Rattle.tp_netbook.specs.declared.netbook.Netbook.{Netbook}
use Rattle.tp_netbook.specs.declared.output.Inbox.{Inbox}
use Rattle.tp_netbook.specs.declared.output.Output.{Output}
use Rattle.tp_netbook.specs.declared.watch.Watch.{Watch}
use Rattle.tp_rules.specs.Journal.{acts, identity_in, is_crash, is_live, sent}
use Rattle.tp_rules.specs.Pending.{actors_of, inner_item, item, sites_of}
use Rattle.tp_rules.specs.Plan.{Planned, entries_of, fate_by, is_planned, plan_of}
use Rattle.tp_rules.specs.Rules.{enabled}
use Rattle.tp_rules.specs.declared.event.Entry.{Entry}
use Rattle.tp_rules.specs.declared.event.Event.{Event}
use Rattle.tp_rules.specs.declared.event.Inner.{Inner}
use Rattle.tp_rules.specs.declared.event.Item.{Item}
use Rattle.tp_rules.specs.declared.event.Parcel.{Parcel}
use Rattle.tp_script.specs.declared.script.PlanLine.{PlanLine}
use Rattle.tp_script.specs.declared.script.Script.{Script}
use Rattle.tp_topology.specs.Shape.{Shape}

-- a line of a netbook as the plan has it
abbrev pub planned_of : Line → Planned
planned_of line = record { after = line.after; inner = line.inner }

-- a netbook watches a site's process: whether it lives, how many entries it made, its plan lines and how many of them came
pub record IsWatch (script : Script) (older : List Entry) (w : Watch) (s : Site) : Type 0 where
  pub site : w.site ≡ s
  pub live : w.live ≡ is_live older (Process s)
  pub made : w.made ≡ length (entries_of older s)
  pub lines : map planned_of w.lines.items ≡ plan_of script s
  pub came : w.came ≡ length (filter (λ e. is_planned e.event) (entries_of older s))

-- one of each site, in order
pub record AreWatches (script : Script) (older : List Entry) (ws : List Watch) : Type 0 where
  pub many : length ws ≡ length (sites_of script)
  pub each : (k : ℕ) (w : Watch) (s : Site) → slice_get ws k ≡ Some w → slice_get (sites_of script) k ≡ Some s → IsWatch script older w s

-- the step of its own that each actor of the script may make, in their order
abbrev pub AreNext : Script → List Entry → List (Option Inner) → Type 0
AreNext script journal next = next ≡ map (λ a. enabled (identity_in script a) (acts (reverse journal) a)) (actors_of script)

-- what the netbook itself says

abbrev pub if_now : ℕ → Option Line → Option Inner
if_now made None = None
if_now made (Some line) = cond (nat_le line.after made) (Some line.inner) None

abbrev pub line_due : Watch → Option Inner
line_due w = if_now w.made (slice_get w.lines.items w.came)

-- a live process's due line
abbrev pub line_item : Watch → Option Item
line_item w = cond w.live (inner_item (Process w.site) (line_due w)) None

abbrev pub lives : Option Watch → Bool
lives None = false
lives (Some w) = w.live

abbrev pub has_no_line : Option Watch → Bool
has_no_line None = false
has_no_line (Some w) = is_none (line_due w)

abbrev pub watch_of : Netbook → Site → Option Watch
watch_of book s = slice_get book.sites.items (place_of_site book.topology s)

abbrev pub is_alive : Netbook → ActorName → Bool
is_alive book (Process s) = lives (watch_of book s)
is_alive book (Executor s) = lives (watch_of book s)
is_alive book (Session s) = true

abbrev pub is_undue : Netbook → ActorName → Bool
is_undue book (Process s) = has_no_line (watch_of book s)
is_undue book (Executor s) = true
is_undue book (Session s) = true

-- an actor that lives and has no line due
abbrev pub is_free : Netbook → ActorName → Bool
is_free book a = is_alive book a && is_undue book a

-- a site that lives and has no line due, and whether all are so
abbrev pub is_free_there : Watch → Bool
is_free_there w = w.live && is_none (line_due w)

abbrev pub are_free : List Watch → Bool
are_free watches = list_all is_free_there watches

abbrev pub due_items : List Watch → List Item
due_items watches = filter_map line_item watches

abbrev pub lines : Netbook → List Item
lines book = due_items book.sites.items

-- an output may be delivered or lost now
abbrev pub is_ready : Netbook → Output → Bool
is_ready book o = is_free book o.to && nat_lt 0 o.left

abbrev pub output_item : Output → Item
output_item o = item o.to (event_of o)

abbrev pub delivery_item : Netbook → Output → Option Item
delivery_item book o = cond (is_ready book o) (Some (output_item o)) None

abbrev pub deliveries : Netbook → List Item
deliveries book = filter_map (delivery_item book) book.outputs.items

abbrev pub own_item : Netbook → ActorName × Option Inner → Option Item
own_item book own = cond (is_free book own.0) (inner_item own.0 own.1) None

abbrev pub own_items : Netbook → List (Option Inner) → List Item
own_items book next = filter_map (own_item book) (zip book.roster.items next)

-- what a netbook keeps

-- each of its actors is free
abbrev pub AreAllFree : Netbook → Type 0
AreAllFree book = Each (λ a. is_free book a ≡ true) book.roster.items

-- its actors are free where it says that all are
abbrev pub IsFreeRight : Netbook → Type 0
IsFreeRight book = book.all_free ≡ true → AreAllFree book

-- it has marked the outputs that may be delivered or lost now
abbrev pub AreReady : Netbook → Type 0
AreReady book = AreBits (map (is_ready book) book.outputs.items) book.ready

-- the place of an actor's site, if it is at one
abbrev pub home_of : Shape → ActorName → Option ℕ
home_of shape (Process s) = Some (place_of_site shape s)
home_of shape (Executor s) = Some (place_of_site shape s)
home_of shape (Session s) = None

-- the plan has a line for the site at a place
abbrev pub has_lines : Option Watch → Bool
has_lines None = false
has_lines (Some w) = nat_lt 0 (length w.lines.items)

abbrev pub may_turn : Netbook → ℕ → Bool
may_turn book home = has_lines (slice_get book.sites.items home)

-- each output to a site that has a line in the plan is in the site's inbox, if there is one
abbrev pub AreListed : Netbook → Type 0
AreListed book = (i : ℕ) (o : Output) (home : ℕ) (inbox : Inbox) → slice_get book.outputs.items i ≡ Some o → home_of book.topology o.to ≡ Some home
    → may_turn book home ≡ true → slice_get book.inboxes.items home ≡ Some inbox → IsIn i inbox.places.items

-- each output is found by its entry and its place there
abbrev pub ArePlaced : Netbook → Type 0
ArePlaced book = (i : ℕ) (o : Output) → slice_get book.outputs.items i ≡ Some o → StandsAfter book.starts.items o.entry o.place i

-- a netbook stands for a journal
pub record IsNetbook (script : Script) (journal : List Entry) (book : Netbook) : Type 0 where
  pub topology : book.topology ≡ script.topology
  pub sites : AreWatches script (reverse journal) book.sites.items
  pub roster : book.roster.items ≡ actors_of script
  pub fates : AreFates script.plan book.fates
  pub routes : AreCountsFor book.fates (sent (reverse journal)) book.routes
  pub outputs : book.outputs.items ≡ map (output_of script (reverse journal)) (sent (reverse journal))
  pub starts : book.starts.items ≡ starts_of (reverse journal)
  pub inboxes : length book.inboxes.items ≡ length (sites_of script)
  pub listed : AreListed book
  pub ready : AreReady book
  pub due : book.due ≡ length (lines book)
  pub all_free : book.all_free ≡ are_free book.sites.items
  pub entries : book.entries ≡ length journal

-- how an entry changes it

-- a watch before and after an event of its process
pub record IsCounted (event : Event) (before after : Watch) : Type 0 where
  pub site : after.site ≡ before.site
  pub live : after.live ≡ (before.live && not (is_crash event))
  pub made : before.made + 1 < 2 ^ 64 → after.made ≡ before.made + 1
  pub lines : after.lines.items ≡ before.lines.items
  pub came : before.came + 1 < 2 ^ 64 → after.came ≡ cond (is_planned event) (before.came + 1) before.came

abbrev pub IsCountedAt : ActorName → Event → Netbook → ℕ → Watch → Watch → Type 0
IsCountedAt (Process s) event book k before after =
    (k ≡ place_of_site book.topology s → IsCounted event before after) × (k ≢ place_of_site book.topology s → after ≡ before)
IsCountedAt (Executor s) event book k before after = after ≡ before
IsCountedAt (Session s) event book k before after = after ≡ before

-- the watches before and after an entry
pub record AreCounted (actor : ActorName) (event : Event) (book : Netbook) (before after : List Watch) : Type 0 where
  pub many : length after ≡ length before
  pub each : (k : ℕ) (w' : Watch) → slice_get after k ≡ Some w' → (w : Watch) × (slice_get before k ≡ Some w) × IsCountedAt actor event book k w w'

abbrev pub differs : Bool → Bool → Bool
differs true b = not b
differs false b = b

-- whether the site lives, or whether no line is due, has changed
abbrev pub turned : Watch → Watch → Bool
turned before after = differs before.live after.live || differs (is_none (line_due before)) (is_none (line_due after))

-- who is free has changed at one site at most
abbrev pub Turns : Option ℕ → Netbook → Netbook → Type 0
Turns turned old new = (a : ActorName) → (is_free new a ≡ is_free old a)
    ⊎ ((home : ℕ) × (turned ≡ Some home) × (home_of old.topology a ≡ Some home) × (home < length old.sites.items))

-- a site turns only where the plan has a line for it, or where it crashes
abbrev pub IsCrashAt : ActorName → Event → Netbook → ℕ → Type 0
IsCrashAt actor event book home = (s : Site) × (actor ≡ Process s) × (home ≡ place_of_site book.topology s) × (is_crash event ≡ true)

abbrev pub TurnsByPlan : ActorName → Event → Option ℕ → Netbook → Type 0
TurnsByPlan actor event turned book = (home : ℕ) → turned ≡ Some home → (may_turn book home ≡ true) ⊎ IsCrashAt actor event book home

-- an output is in the inbox of the site that turned
abbrev pub IsListed : Netbook → Option ℕ → ℕ → Type 0
IsListed book turned i = (home : ℕ) × (inbox : Inbox) × (turned ≡ Some home) × (slice_get book.inboxes.items home ≡ Some inbox) × IsIn i inbox.places.items

-- it has marked the outputs that may be delivered or lost now, but for those in the inbox of the site that turned
abbrev pub AreReadyBut : Netbook → Option ℕ → Type 0
AreReadyBut book turned = (bits : List Bool) × AreBits bits book.ready × (length bits ≡ length book.outputs.items)
    × ((i : ℕ) (o : Output) → slice_get book.outputs.items i ≡ Some o → (slice_get bits i ≡ Some (is_ready book o)) ⊎ IsListed book turned i)

abbrev pub mark_by : Option Bool → ℕ → List Bool → List Bool
mark_by None place bits = bits
mark_by (Some bit) place bits = set bits place bit

-- an output's place is put into an inbox, if there is one
abbrev pub Lists : Option ℕ → ℕ → List Inbox → List Inbox → Type 0
Lists home place old new = (length new ≡ length old) × ((k : ℕ) (inbox : Inbox) → slice_get new k ≡ Some inbox → (before : Inbox) × (slice_get old k ≡ Some before)
    × ((i : ℕ) → (IsIn i before.places.items) ⊎ ((i ≡ place) × (home ≡ Some k)) → IsIn i inbox.places.items))

-- the marks with one of them made anew
abbrev pub marked : Netbook → ℕ → List Bool → List Bool
marked book place bits = mark_by (slice_get (map (is_ready book) book.outputs.items) place) place bits

-- all stays but the outputs, their marks, inboxes and counts
pub record KeepsRest (old new : Netbook) : Type 0 where
  pub topology : new.topology ≡ old.topology
  pub sites : new.sites ≡ old.sites
  pub roster : new.roster ≡ old.roster
  pub fates : new.fates ≡ old.fates
  pub starts : new.starts ≡ old.starts
  pub due : new.due ≡ old.due
  pub all_free : new.all_free ≡ old.all_free
  pub entries : new.entries ≡ old.entries

-- the marks and the inboxes stay right
pub record KeepsMarks (old new : Netbook) : Type 0 where
  pub ready : AreReady old → AreReady new
  pub listed : AreListed old → AreListed new
  pub inboxes : length new.inboxes.items ≡ length old.inboxes.items

-- an output as it is added, with the fate that its number has
abbrev pub added : List PlanLine → List Parcel → Parcel → Output
added plan before p = new_output p.entry p.place p.message.to (fate_by plan p.message.from p.message.to (next_number before p))

-- the outputs that are added, of those that are sent after others
abbrev pub new_outputs : List PlanLine → List Parcel → List Parcel → List Output
new_outputs plan before [] = []
new_outputs plan before (p ∷ ps) = added plan before p ∷ new_outputs plan (before ++ p ∷ []) ps

-- the places of outputs fit into two bytes
abbrev pub HavePlaces : List Parcel → Type 0
HavePlaces ps = Each (λ p. p.place < 2 ^ 16) ps

-- outputs are counted and added
abbrev pub Adds : List Parcel → Netbook → Netbook → Type 0
Adds ps old new = (plan : List PlanLine) (before : List Parcel) → AreFates plan old.fates → AreCountsFor old.fates before old.routes → length before + length ps < 2 ^ 128
    → HavePlaces ps → (new.outputs.items ≡ old.outputs.items ++ new_outputs plan before ps) × AreCountsFor old.fates (before ++ ps) new.routes
