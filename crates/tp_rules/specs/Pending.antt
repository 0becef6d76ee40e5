-- The steps that may come next, in their order, and the journals in which the picks choose among them.
use Rattle.std.specs.Prelude.{ℕ, ◌≡◌, ◌%◌, nat_lt, ◌&&◌, Bool, cond, List, [], ◌∷◌, ◌++◌, Option, Some, None, is_none, length, map, filter_map, reverse, slice_get, unwrap_or}
use Rattle.std.specs.List.{flat_map}
use Rattle.tp_base.specs.declared.names.ActorName.{ActorName}
use Rattle.tp_base.specs.declared.names.ActorName.TheVariants.{Process, Executor, Session}
use Rattle.tp_base.specs.declared.names.Site.{Site}
use Rattle.tp_rules.specs.Journal.{acts, identity_in, is_live, ranks_of, sent}
use Rattle.tp_rules.specs.Plan.{Fate, Lost, Times, due, due_of, fate_of, deliveries_left}
use Rattle.tp_rules.specs.Rules.{enabled}
use Rattle.tp_rules.specs.Runs.{outputs_in}
use Rattle.tp_rules.specs.declared.event.Entry.{Entry}
use Rattle.tp_rules.specs.declared.event.Event.{Event}
use Rattle.tp_rules.specs.declared.event.Event.TheVariants.{Deliver, Dropped, Inner as OfItself}
use Rattle.tp_rules.specs.declared.event.Inner.{Inner}
use Rattle.tp_rules.specs.declared.event.Item.{Item}
use Rattle.tp_rules.specs.declared.event.Parcel.{Parcel}
use Rattle.tp_script.specs.declared.script.Script.{Script}
use Rattle.tp_topology.specs.Counting.{up_to}

abbrev pub item : ActorName → Event → Item
item actor event = record { actor = actor; event = event }

abbrev pub inner_item : ActorName → Option Inner → Option Item
inner_item actor None = None
inner_item actor (Some inner) = Some (item actor (OfItself inner))

-- all sites, ascending
abbrev pub sites_of : Script → List Site
sites_of script = flat_map (ranks_of script) (up_to script.topology.partitions)

-- the sessions, the processes, the executors, each ascending
unfoldable pub actors_of : Script → List ActorName
actors_of script =
    map (λ s. Session (record { 0 = s })) (up_to (length script.homes))
    ++ map (λ s. Process s) (sites_of script) ++ map (λ s. Executor s) (sites_of script)

-- a live process's due line
abbrev pub due_item : Script → List Entry → Site → Option Item
due_item script older s = cond (is_live older (Process s)) (inner_item (Process s) (due script older s)) None

-- live, and no line is due
abbrev pub is_waiting : Script → List Entry → ActorName → Bool
is_waiting script older actor = is_live older actor && is_none (due_of script older actor)

abbrev pub event_by : Fate → Parcel → Event
event_by Lost parcel = Dropped parcel.entry parcel.place
event_by (Times n) parcel = Deliver parcel.entry parcel.place

-- an output's delivery or loss, while some are left
abbrev pub parcel_item : Script → List Entry → Parcel → Option Item
parcel_item script older parcel =
    cond (is_waiting script older parcel.message.to && nat_lt 0 (deliveries_left script older parcel))
    (Some (item parcel.message.to (event_by (fate_of script older parcel) parcel)))
    None

-- a step that an actor may make by itself
abbrev pub own_item : Script → List Entry → ActorName → Option Item
own_item script older actor =
    cond (is_waiting script older actor) (inner_item actor (enabled (identity_in script actor) (acts older actor))) None

-- the lines that are due, then the outputs that are left, then the actors' own steps
unfoldable pub pending : Script → List Entry → List Item
pending script older =
    filter_map (due_item script older) (sites_of script)
    ++ filter_map (parcel_item script older) (sent older)
    ++ filter_map (own_item script older) (actors_of script)

-- nothing is pending
unfoldable pub IsQuiet : Script → List Entry → Type 0
IsQuiet script journal = pending script (reverse journal) ≡ []

-- the index of the step that comes next: by the next pick, or 0 where the picks are used up
abbrev pub index_next : Script → List Entry → ℕ
index_next script older = unwrap_or (slice_get script.picks (length older)) 0 % length (pending script older)

-- an entry takes the item that the next pick chooses, and sends what the rules say
pub record IsPicked (script : Script) (older : List Entry) (e : Entry) : Type 0 where
  pub item : slice_get (pending script older) (index_next script older) ≡ Some (item e.actor e.event)
  pub outputs : e.outputs ≡ outputs_in script older e.actor e.event

abbrev pub IsPickedHistory : Script → List Entry → Type 0
IsPickedHistory script [] = Unit {0}
IsPickedHistory script (e ∷ older) = IsPickedHistory script older × IsPicked script older e

-- each entry of the journal is the one that the picks choose
unfoldable pub IsPickedRun : Script → List Entry → Type 0
IsPickedRun script journal = IsPickedHistory script (reverse journal)
