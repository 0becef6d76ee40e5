-- What a netbook keeps of an output, where it stands among all, and what an event does to it.
use Rattle.std.specs.Prelude.{ℕ, ◌≡◌, ◌+◌, ◌-◌, ◌==◌, ◌&&◌, not, Bool, false, cond, min, List, [], ◌∷◌, ◌++◌, Some, length, slice_get}
use Rattle.tp_base.specs.declared.names.ActorName.{ActorName}
use Rattle.tp_fates.specs.Deliveries.{loses}
use Rattle.tp_netbook.specs.declared.output.Output.{Output}
use Rattle.tp_rules.specs.Journal.{sent}
use Rattle.tp_rules.specs.Plan.{Fate, deliveries_left, fate_of, left_by}
use Rattle.tp_rules.specs.declared.event.Entry.{Entry}
use Rattle.tp_rules.specs.declared.event.Event.{Event}
use Rattle.tp_rules.specs.declared.event.Event.TheVariants.{Deliver, Dropped, Inner as OfItself}
use Rattle.tp_rules.specs.declared.event.Parcel.{Parcel}
use Rattle.tp_script.specs.declared.script.Script.{Script}

abbrev pub output_of : Script → List Entry → Parcel → Output
output_of script older p = record {
  entry = p.entry;
  place = p.place;
  to = p.message.to;
  lost = loses (fate_of script older p);
  left = deliveries_left script older p;
}

-- one that was just sent
abbrev pub new_output : ℕ → ℕ → ActorName → Fate → Output
new_output entry place to fate = record { entry = entry; place = place; to = to; lost = loses fate; left = left_by fate 0 false }

-- as it is kept in few bytes
abbrev pub packed : Output → Output
packed o = record { entry = o.entry; place = min o.place 65535; to = o.to; lost = o.lost; left = o.left }

-- what may come next of it
abbrev pub event_of : Output → Event
event_of o = cond o.lost (Dropped o.entry o.place) (Deliver o.entry o.place)

-- whether an event delivers it, or loses it, as its fate says
abbrev pub is_named : Event → Output → Bool
is_named (Deliver entry place) o = not o.lost && ((entry == o.entry) && (place == o.place))
is_named (Dropped entry place) o = o.lost && ((entry == o.entry) && (place == o.place))
is_named (OfItself inner) o = false

-- an output after an event
abbrev pub passed : Event → Output → Output
passed event o = record { entry = o.entry; place = o.place; to = o.to; lost = o.lost; left = cond (is_named event o) (o.left - 1) o.left }

-- the place among all outputs of the one that an event delivers or loses, by how many were sent before each entry
abbrev pub StandsAfter : List ℕ → ℕ → ℕ → ℕ → Type 0
StandsAfter starts entry place i = (start : ℕ) × (slice_get starts (entry - 1) ≡ Some start) × (i + 1 ≡ start + place)

abbrev pub StandsAt : List ℕ → Event → ℕ → Type 0
StandsAt starts (Deliver entry place) i = StandsAfter starts entry place i
StandsAt starts (Dropped entry place) i = StandsAfter starts entry place i
StandsAt starts (OfItself inner) i = ⊥

-- how many outputs were sent before each entry
abbrev pub starts_of : List Entry → List ℕ
starts_of [] = []
starts_of (e ∷ older) = starts_of older ++ length (sent older) ∷ []
