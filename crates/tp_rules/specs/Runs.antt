-- Which journals follow the rules, with the plan of the script and without.
use Rattle.std.specs.Prelude.{◌≡◌, ◌<◌, true, false, List, [], ◌∷◌, Option, Some, None, reverse}
use Rattle.tp_base.specs.declared.names.ActorName.{ActorName}
use Rattle.tp_base.specs.Lists.{Each}
use Rattle.tp_wire.specs.Ranges.{IsInRange}
use Rattle.tp_rules.specs.Acts.{Act}
use Rattle.tp_rules.specs.Journal.{output_at, act_of, acts, identity_in, is_known, is_live}
use Rattle.tp_rules.specs.Plan.{due_of, fate_of, deliveries_left, Fate, Lost, Times, is_planned}
use Rattle.tp_rules.specs.Rules.{outputs_of, MayMake}
use Rattle.tp_rules.specs.declared.event.Entry.{Entry}
use Rattle.tp_rules.specs.declared.event.Event.{Event}
use Rattle.tp_rules.specs.declared.event.Event.TheVariants.{Deliver, Dropped, Inner as OfItself}
use Rattle.tp_rules.specs.declared.event.Inner.{Inner}
use Rattle.tp_rules.specs.declared.event.Parcel.{Parcel}
use Rattle.tp_script.specs.declared.script.Script.{Script}
use Rattle.tp_wire.specs.declared.message.Message.{Message}

-- a message stands at that place, and this is its addressee
abbrev pub IsFor : ActorName → Option Message → Type 0
IsFor actor None = ⊥
IsFor actor (Some m) = m.to ≡ actor

-- a delivery or loss is of an output to the actor, and a step of its own may be made
abbrev pub MayHappen : Script → List Entry → ActorName → Event → Type 0
MayHappen script older actor (Deliver entry place) = IsFor actor (output_at older entry place)
MayHappen script older actor (Dropped entry place) = IsFor actor (output_at older entry place)
MayHappen script older actor (OfItself inner) = MayMake (identity_in script actor) (acts older actor) inner

abbrev pub outputs_by : Script → List Entry → ActorName → Option Act → List Message
outputs_by script older actor None = []
outputs_by script older actor (Some act) = outputs_of (identity_in script actor) (acts older actor) act

-- what an event of an actor sends: a message lost sends nothing
abbrev pub outputs_in : Script → List Entry → ActorName → Event → List Message
outputs_in script older actor event = outputs_by script older actor (act_of older event)

-- an entry follows the rules, whatever the plan: its actor is one of the script's and lives, its event
-- may happen, and it sends what the rules say
pub record FollowsRules (script : Script) (older : List Entry) (e : Entry) : Type 0 where
  pub known : is_known script e.actor ≡ true
  pub live : is_live older e.actor ≡ true
  pub may : MayHappen script older e.actor e.event
  pub outputs : e.outputs ≡ outputs_in script older e.actor e.event

abbrev pub IsLost : Fate → Type 0
IsLost Lost = Unit {0}
IsLost (Times n) = ⊥

-- an output may still be delivered, or lost, as its fate says
abbrev pub FollowsFate : Script → List Entry → Event → Type 0
FollowsFate script older (Deliver entry place) = (m : Message) → output_at older entry place ≡ Some m →
    let parcel : Parcel = record { entry = entry; place = place; message = m } in
    (¬ IsLost (fate_of script older parcel)) × (0 < deliveries_left script older parcel)
FollowsFate script older (Dropped entry place) = (m : Message) → output_at older entry place ≡ Some m →
    let parcel : Parcel = record { entry = entry; place = place; message = m } in
    IsLost (fate_of script older parcel) × (0 < deliveries_left script older parcel)
FollowsFate script older (OfItself inner) = Unit {0}

-- where a line is due, the event is that line's; a crash or recovery comes by no other way
abbrev pub FollowsLine : Option Inner → Event → Type 0
FollowsLine (Some inner) event = event ≡ OfItself inner
FollowsLine None event = is_planned event ≡ false

pub record FollowsPlan (script : Script) (older : List Entry) (e : Entry) : Type 0 where
  pub line : FollowsLine (due_of script older e.actor) e.event
  pub fate : FollowsFate script older e.event

pub record IsLegal (script : Script) (older : List Entry) (e : Entry) : Type 0 where
  pub rules : FollowsRules script older e
  pub plan : FollowsPlan script older e

-- each entry is legal after those before it, the newest first
abbrev pub IsHistory : Script → List Entry → Type 0
IsHistory script [] = Unit {0}
IsHistory script (e ∷ older) = IsHistory script older × IsLegal script older e

-- each entry follows the rules after those before it
abbrev pub IsFreeHistory : Script → List Entry → Type 0
IsFreeHistory script [] = Unit {0}
IsFreeHistory script (e ∷ older) = IsFreeHistory script older × FollowsRules script older e

-- a journal in its own order is a run of the script
unfoldable pub IsRun : Script → List Entry → Type 0
IsRun script journal = IsHistory script (reverse journal)

-- the same without the plan: any losses, repeats, orders, recoveries and crashes
unfoldable pub IsFreeRun : Script → List Entry → Type 0
IsFreeRun script journal = IsFreeHistory script (reverse journal)

-- each message that an entry of the journal sends is in the ranges of the wire format
abbrev pub AreInRange : List Entry → Type 0
AreInRange journal = Each (λ e. Each IsInRange e.outputs) journal
