-- Why an entry is illegal after those before it.
use Rattle.std.specs.Prelude.{ℕ, ◌≡◌, ◌≢◌, ◌-◌, ◌<◌, false, List, Some, None, take}
use Rattle.tp_base.specs.Tables.{nth}
use Rattle.tp_base.specs.declared.names.ActorName.{ActorName}
use Rattle.tp_check.specs.declared.verdict.EntryCause.{EntryCause}
use Rattle.tp_check.specs.declared.verdict.EntryCause.TheVariants.{Stranger, Dead, Message as NoMessage, Addressee, Plan, NotEnabled, Outputs}
use Rattle.tp_rules.specs.Journal.{acts, identity_in, is_known, is_live, output_at}
use Rattle.tp_rules.specs.Rules.{MayMake}
use Rattle.tp_rules.specs.Runs.{FollowsPlan, outputs_in}
use Rattle.tp_rules.specs.declared.event.Entry.{Entry}
use Rattle.tp_rules.specs.declared.event.Event.{Event}
use Rattle.tp_rules.specs.declared.event.Event.TheVariants.{Deliver, Dropped, Inner as OfItself}
use Rattle.tp_script.specs.declared.script.Script.{Script}
use Rattle.tp_wire.specs.declared.message.Message.{Message}

-- a delivery or a loss of a message that no earlier entry sent
abbrev pub IsUnsent : List Entry → Event → Type 0
IsUnsent older (Deliver entry place) = output_at older entry place ≡ None
IsUnsent older (Dropped entry place) = output_at older entry place ≡ None
IsUnsent older (OfItself inner) = ⊥

-- one of a message to another actor
abbrev pub IsForAnother : List Entry → ActorName → Event → Type 0
IsForAnother older actor (Deliver entry place) = (m : Message) × (output_at older entry place ≡ Some m) × (m.to ≢ actor)
IsForAnother older actor (Dropped entry place) = (m : Message) × (output_at older entry place ≡ Some m) × (m.to ≢ actor)
IsForAnother older actor (OfItself inner) = ⊥

-- a step of its own that the actor may not make
abbrev pub IsBarred : Script → List Entry → ActorName → Event → Type 0
IsBarred script older actor (Deliver entry place) = ⊥
IsBarred script older actor (Dropped entry place) = ⊥
IsBarred script older actor (OfItself inner) = ¬ MayMake (identity_in script actor) (acts older actor) inner

-- two lists differ at this place, from 1, and at none before it; where one ends, it has nothing there
pub record DifferFirst (given right : List Message) (place : ℕ) : Type 0 where
  pub before : take (place - 1) given ≡ take (place - 1) right
  pub there : nth given place ≢ nth right place

-- a cause says this of an entry
abbrev pub HasFlaw : Script → List Entry → Entry → EntryCause → Type 0
HasFlaw script older e Stranger = is_known script e.actor ≡ false
HasFlaw script older e Dead = is_live older e.actor ≡ false
HasFlaw script older e NoMessage = IsUnsent older e.event
HasFlaw script older e Addressee = IsForAnother older e.actor e.event
HasFlaw script older e Plan = ¬ FollowsPlan script older e
HasFlaw script older e NotEnabled = IsBarred script older e.actor e.event
HasFlaw script older e (Outputs place) = DifferFirst e.outputs (outputs_in script older e.actor e.event) place

-- the order of the causes
abbrev pub order : EntryCause → ℕ
order Stranger = 1
order Dead = 2
order NoMessage = 3
order Addressee = 4
order Plan = 5
order NotEnabled = 6
order (Outputs place) = 7

-- the cause of an entry is its first flaw
pub record IsCause (script : Script) (older : List Entry) (e : Entry) (cause : EntryCause) : Type 0 where
  pub flaw : HasFlaw script older e cause
  pub first : (earlier : EntryCause) → order earlier < order cause → ¬ HasFlaw script older e earlier
