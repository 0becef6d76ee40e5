-- What one actor may do next, by the messages that it was given and its own entries, the newest first.
use Rattle.std.specs.Prelude.{ℕ, ◌≡◌, ◌+◌, ◌^◌, ◌<◌, ◌==◌, ◌&&◌, not, nat_lt, Bool, true, cond, List, [], ◌∷◌, ◌++◌, Option, Some, None, filter, length, reverse}
use Rattle.tp_base.specs.Lists.{Ascends, Each, IsIn}
use Rattle.tp_base.specs.Names.{same_name}
use Rattle.tp_base.specs.declared.names.ActorName.{ActorName}
use Rattle.tp_base.specs.declared.names.ActorName.TheVariants.{Process, Executor, Session}
use Rattle.tp_fates.specs.Fates.{AreCountsFor, AreFates}
use Rattle.tp_netbook.specs.Netbook.{IsCounted, IsWatch, line_due}
use Rattle.tp_fates.specs.Deliveries.{loses}
use Rattle.tp_netbook.specs.Outputs.{event_of, passed}
use Rattle.tp_fates.specs.Routes.{next_number}
use Rattle.tp_netbook.specs.declared.inbox.Inbox.{Inbox}
use Rattle.tp_netbook.specs.declared.inbox.Waiting.{Waiting}
use Rattle.tp_netbook.specs.declared.output.Output.{Output}
use Rattle.tp_netbook.specs.declared.watch.Watch.{Watch}
use Rattle.tp_rules.specs.Journal.{is_live, output_at, sent}
use Rattle.tp_rules.specs.Plan.{Fate, deliveries, deliveries_left, due_of, fate_by, left_by, was_lost}
use Rattle.tp_rules.specs.Runs.{FollowsFate, FollowsLine, IsFor}
use Rattle.tp_rules.specs.declared.event.Entry.{Entry}
use Rattle.tp_rules.specs.declared.event.Event.{Event}
use Rattle.tp_rules.specs.declared.event.Event.TheVariants.{Deliver, Dropped, Inner as OfItself}
use Rattle.tp_rules.specs.declared.event.Inner.{Inner}
use Rattle.tp_rules.specs.declared.event.Parcel.{Parcel}
use Rattle.tp_script.specs.declared.script.Script.{Script}
use Rattle.tp_wire.specs.declared.message.Message.{Message}

-- the fate of a message by its number among those given before
abbrev pub fate_after : Script → List Parcel → Parcel → Fate
fate_after script before p = fate_by script.plan p.message.from p.message.to (next_number before p)

abbrev pub output_with : Fate → List Entry → Parcel → Output
output_with fate own p = record {
  entry = p.entry;
  place = p.place;
  to = p.message.to;
  lost = loses fate;
  left = left_by fate (deliveries own p.entry p.place) (was_lost own p.entry p.place);
}

-- a message waits while a delivery or its loss is left
abbrev pub waits : Output → Message → List Waiting
waits o m = cond (nat_lt 0 o.left) (record { output = o; message = m } ∷ []) []

-- those of some messages that wait, in order
abbrev pub waiting_among : Script → List Entry → List Parcel → List Parcel → List Waiting
waiting_among script own before [] = []
waiting_among script own before (p ∷ ps) =
    waits (output_with (fate_after script before p) own p) p.message ++ waiting_among script own (before ++ p ∷ []) ps

-- only a process is told of a crash of its site, which is its own entry
abbrev pub lives_yet : List Entry → ActorName → Bool
lives_yet own (Process s) = is_live own (Process s)
lives_yet own (Executor s) = true
lives_yet own (Session s) = true

abbrev pub line_or_first : Option Inner → List Waiting → Option Event
line_or_first (Some inner) ws = Some (OfItself inner)
line_or_first None [] = None
line_or_first None (w ∷ ws) = Some (event_of w.output)

-- the line that is due, or else what becomes of the oldest message that waits
abbrev pub next_event : Script → ActorName → List Parcel → List Entry → Option Event
next_event script a parcels own = cond (lives_yet own a) (line_or_first (due_of script own a) (waiting_among script own [] parcels)) None

-- a message by its numbers, where it is the oldest that waits
abbrev pub message_for : List Waiting → ℕ → ℕ → Option Message
message_for [] entry place = None
message_for (w ∷ ws) entry place = cond ((w.output.entry == entry) && (w.output.place == place)) (Some w.message) None

-- an entry is the one that comes next, or a step that the actor makes by itself
abbrev pub MayBeDone : Event → Option Event → Type 0
MayBeDone (Deliver entry place) next = next ≡ Some (Deliver entry place)
MayBeDone (Dropped entry place) next = next ≡ Some (Dropped entry place)
MayBeDone (OfItself inner) next = Unit {0}

-- two messages stand at different places
abbrev pub elsewhere : Parcel → Parcel → Bool
elsewhere p q = not ((p.entry == q.entry) && (p.place == q.place))

-- an event is a step of the actor's own, or delivers or loses one of these messages
abbrev pub IsOfGiven : List Parcel → Event → Type 0
IsOfGiven parcels (Deliver entry place) = (p : Parcel) × IsIn p parcels × (p.entry ≡ entry) × (p.place ≡ place)
IsOfGiven parcels (Dropped entry place) = (p : Parcel) × IsIn p parcels × (p.entry ≡ entry) × (p.place ≡ place)
IsOfGiven parcels (OfItself inner) = Unit {0}

-- a process's watch
abbrev pub IsWatchOf : Script → List Entry → ActorName → Option Watch → Type 0
IsWatchOf script own (Process s) (Some w) = IsWatch script own w s
IsWatchOf script own (Process s) None = ⊥
IsWatchOf script own (Executor s) (Some w) = ⊥
IsWatchOf script own (Executor s) None = Unit {0}
IsWatchOf script own (Session s) (Some w) = ⊥
IsWatchOf script own (Session s) None = Unit {0}

-- an inbox stands for an actor that was given these messages, in order, and made these entries, the newest first
pub record IsInbox (script : Script) (actor : ActorName) (parcels : List Parcel) (own : List Entry) (inbox : Inbox) : Type 0 where
  pub watch : IsWatchOf script own actor inbox.watch
  pub fates : AreFates script.plan inbox.fates
  pub routes : AreCountsFor inbox.fates parcels inbox.routes
  pub waiting : inbox.waiting.items ≡ waiting_among script own [] parcels
  pub apart : Ascends elsewhere parcels
  pub told : Each (λ e. IsOfGiven parcels e.event) own

-- in a journal

abbrev pub entries_by : ActorName → List Entry → List Entry
entries_by a older = filter (λ e. same_name e.actor a) older

abbrev pub sent_to : ActorName → List Entry → List Parcel
sent_to a older = filter (λ p. same_name p.message.to a) (sent older)

-- an inbox was given all that a journal sends to the actor, and told of all that the actor entered there
abbrev pub StandsIn : Script → List Entry → ActorName → Inbox → Type 0
StandsIn script journal a inbox = IsInbox script a (sent_to a (reverse journal)) (entries_by a (reverse journal)) inbox

abbrev pub IsSentTo : ActorName → List Entry → Event → Type 0
IsSentTo a older (Deliver entry place) = IsFor a (output_at older entry place)
IsSentTo a older (Dropped entry place) = IsFor a (output_at older entry place)
IsSentTo a older (OfItself inner) = Unit {0}

-- an event is the actor's line that is due, or else delivers or loses a message to it as the plan says
pub record FollowsNext (script : Script) (older : List Entry) (a : ActorName) (event : Event) : Type 0 where
  pub sent : IsSentTo a older event
  pub line : FollowsLine (due_of script older a) event
  pub fate : FollowsFate script older event

-- no line of the actor is due, and nothing is left of any message to it
pub record HasNoneLeft (script : Script) (older : List Entry) (a : ActorName) : Type 0 where
  pub line : due_of script older a ≡ None
  pub messages : (p : Parcel) → IsIn p (sent older) → p.message.to ≡ a → deliveries_left script older p ≡ 0

-- how messages and entries change it

-- it stands for what it was given before and then these, whatever that was
abbrev pub Takes : List Parcel → Inbox → Inbox → Type 0
Takes ps old new = (script : Script) (actor : ActorName) (before : List Parcel) (own : List Entry) → IsInbox script actor before own old
    → Ascends elsewhere (before ++ ps) → length before + length ps < 2 ^ 128 → IsInbox script actor (before ++ ps) own new

-- it stands for one more entry by an event
abbrev pub HasDone : Event → Inbox → Inbox → Type 0
HasDone event old new = (script : Script) (actor : ActorName) (parcels : List Parcel) (own : List Entry) (e : Entry) → IsInbox script actor parcels own old
    → e.actor ≡ actor → e.event ≡ event → MayBeDone event (next_event script actor parcels own) → length own + 1 < 2 ^ 64
    → IsInbox script actor parcels (e ∷ own) new

-- what it says comes next
abbrev pub coming : Option Watch → List Waiting → Option Event
coming None ws = line_or_first None ws
coming (Some w) ws = cond w.live (line_or_first (line_due w) ws) None

abbrev pub AreCountedBy : Event → Option Watch → Option Watch → Type 0
AreCountedBy event None None = Unit {0}
AreCountedBy event None (Some w') = ⊥
AreCountedBy event (Some w) None = ⊥
AreCountedBy event (Some w) (Some w') = IsCounted event w w'

-- the oldest message once an event has delivered or lost it
abbrev pub settled : Event → List Waiting → List Waiting
settled event [] = []
settled event (w ∷ ws) = waits (passed event w.output) w.message ++ ws
