-- What a ledger keeps of a journal: who lives, which lines are due, and what is left of each output.
use Rattle.std.specs.Prelude.{ℕ, ◌≡◌, ◌≢◌, ◌+◌, ◌^◌, ◌<◌, ◌&&◌, nat_lt, Bool, true, false, cond, List, [], ◌∷◌, ◌++◌, Option, Some, None, length, option_map, reverse, slice_get}
use Rattle.tp_base.specs.declared.names.ActorName.{ActorName}
use Rattle.tp_base.specs.declared.names.ActorName.TheVariants.{Process, Executor, Session}
use Rattle.tp_base.specs.declared.names.Site.{Site}
use Rattle.tp_fates.specs.Fates.{AreCountsFor, AreFates}
use Rattle.tp_netbook.specs.Netbook.{AreWatches, IsCounted, line_due, lives}
use Rattle.tp_fates.specs.Deliveries.{first_left, is_of, left_in, loses, same_slot, taken}
use Rattle.tp_netbook.specs.Places.{place_of_site}
use Rattle.tp_fates.specs.Routes.{next_number}
use Rattle.tp_fates.specs.declared.deliveries.Left.{Left}
use Rattle.tp_fates.specs.declared.deliveries.Slot.{Slot}
use Rattle.tp_netbook.specs.declared.ledger.Ledger.{Ledger}
use Rattle.tp_netbook.specs.declared.watch.Watch.{Watch}
use Rattle.tp_rules.specs.Journal.{output_at, sent}
use Rattle.tp_rules.specs.Plan.{deliveries_left, fate_by, fate_of}
use Rattle.tp_rules.specs.declared.event.Entry.{Entry}
use Rattle.tp_rules.specs.declared.event.Event.{Event}
use Rattle.tp_rules.specs.declared.event.Event.TheVariants.{Deliver, Dropped, Inner as OfItself}
use Rattle.tp_rules.specs.declared.event.Inner.{Inner}
use Rattle.tp_rules.specs.declared.event.Parcel.{Parcel}
use Rattle.tp_script.specs.declared.script.PlanLine.{PlanLine}
use Rattle.tp_script.specs.declared.script.Script.{Script}
use Rattle.tp_wire.specs.declared.message.Message.{Message}

abbrev pub left_of : Script → List Entry → Parcel → Left
left_of script older p = record { lost = loses (fate_of script older p); times = deliveries_left script older p }

abbrev pub parcel_at : Slot → Message → Parcel
parcel_at slot m = record { entry = slot.entry; place = slot.place; message = m }

-- whether it may come now, where it is to come
abbrev pub may_come : Bool → Option Left → Bool
may_come loss None = true
may_come loss (Some left) = is_of loss left && nat_lt 0 left.times

-- a ledger stands for a journal
pub record IsLedger (script : Script) (journal : List Entry) (ledger : Ledger) : Type 0 where
  pub topology : ledger.topology ≡ script.topology
  pub sites : AreWatches script (reverse journal) ledger.sites.items
  pub fates : AreFates script.plan ledger.fates
  pub routes : AreCountsFor ledger.fates (sent (reverse journal)) ledger.routes
  pub left : (slot : Slot) → left_in ledger.deliveries slot
      ≡ option_map (λ m. left_of script (reverse journal) (parcel_at slot m)) (output_at (reverse journal) slot.entry slot.place)
  pub entries : ledger.entries ≡ length journal

-- what the ledger itself says

abbrev pub watch_of : Ledger → Site → Option Watch
watch_of ledger s = slice_get ledger.sites.items (place_of_site ledger.topology s)

abbrev pub is_alive : Ledger → ActorName → Bool
is_alive ledger (Process s) = lives (watch_of ledger s)
is_alive ledger (Executor s) = lives (watch_of ledger s)
is_alive ledger (Session s) = true

abbrev pub line_of : Option Watch → Option Inner
line_of None = None
line_of (Some w) = line_due w

abbrev pub due_line : Ledger → ActorName → Option Inner
due_line ledger (Process s) = line_of (watch_of ledger s)
due_line ledger (Executor s) = None
due_line ledger (Session s) = None

-- whether what an event takes is left
abbrev pub is_left : Ledger → Event → Bool
is_left ledger (Deliver entry place) = may_come false (left_in ledger.deliveries (record { entry = entry; place = place }))
is_left ledger (Dropped entry place) = may_come true (left_in ledger.deliveries (record { entry = entry; place = place }))
is_left ledger (OfItself inner) = true

-- how an entry changes it

-- an event as it takes from what is left
abbrev pub left_after : Event → Slot → Option Left → Option Left
left_after (Deliver entry place) slot left = cond (same_slot (record { entry = entry; place = place }) slot) (option_map (taken false) left) left
left_after (Dropped entry place) slot left = cond (same_slot (record { entry = entry; place = place }) slot) (option_map (taken true) left) left
left_after (OfItself inner) slot left = left

-- what is left once outputs are sent, one after the other
abbrev pub left_with : List PlanLine → List Parcel → List Parcel → Slot → Option Left → Option Left
left_with plan before [] slot left = left
left_with plan before (p ∷ ps) slot left = left_with plan (before ++ p ∷ []) ps slot
    (cond (same_slot (record { entry = p.entry; place = p.place }) slot)
    (Some (first_left (fate_by plan p.message.from p.message.to (next_number before p)))) left)

-- all stays but what is left and the counts of the routes
pub record KeepsPlan (old new : Ledger) : Type 0 where
  pub topology : new.topology ≡ old.topology
  pub sites : new.sites ≡ old.sites
  pub fates : new.fates ≡ old.fates
  pub entries : new.entries ≡ old.entries

-- outputs are counted and added
abbrev pub Sends : List Parcel → Ledger → Ledger → Type 0
Sends ps old new = (plan : List PlanLine) (before : List Parcel) → AreFates plan old.fates → AreCountsFor old.fates before old.routes → length before + length ps < 2 ^ 128
    → ((slot : Slot) → left_in new.deliveries slot ≡ left_with plan before ps slot (left_in old.deliveries slot)) × AreCountsFor old.fates (before ++ ps) new.routes

-- the watches before and after an event at one place
pub record AreSeenAt (place : ℕ) (event : Event) (before after : List Watch) : Type 0 where
  pub many : length after ≡ length before
  pub here : (w' : Watch) → slice_get after place ≡ Some w' → (w : Watch) × (slice_get before place ≡ Some w) × IsCounted event w w'
  pub others : (k : ℕ) → k ≢ place → slice_get after k ≡ slice_get before k

-- the watches before and after an event of an actor
abbrev pub AreSeen : ActorName → Event → Ledger → List Watch → List Watch → Type 0
AreSeen (Process s) event ledger before after = AreSeenAt (place_of_site ledger.topology s) event before after
AreSeen (Executor s) event ledger before after = after ≡ before
AreSeen (Session s) event ledger before after = after ≡ before
