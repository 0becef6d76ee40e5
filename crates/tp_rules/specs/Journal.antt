-- Journals, the newest entry first: what was sent, and who did what. Entries and places count from 1.
use Rattle.std.specs.Prelude.{ℕ, suc, ◌⊎◌, ◌==◌, ◌&&◌, not, Bool, true, false, cond, List, [], ◌∷◌, ◌++◌, Option, Some, None, length, option_map, map, unwrap_or}
use Rattle.std.specs.List.{list_any}
use Rattle.tp_base.specs.Limits.{is_from}
use Rattle.tp_base.specs.Lists.{IsIn}
use Rattle.tp_base.specs.Names.{same_name}
use Rattle.tp_base.specs.Tables.{nth}
use Rattle.tp_base.specs.declared.names.ActorName.{ActorName}
use Rattle.tp_base.specs.declared.names.ActorName.TheVariants.{Process, Executor, Session}
use Rattle.tp_base.specs.declared.names.SessionId.{SessionId}
use Rattle.tp_base.specs.declared.names.Site.{Site}
use Rattle.tp_ops.specs.declared.command.Command.{Command}
use Rattle.tp_rules.specs.Acts.{Act, Took, Did, Client, Identity, ProcessAt, ExecutorAt, SessionOf}
use Rattle.tp_rules.specs.Addresses.{site}
use Rattle.tp_rules.specs.declared.event.Entry.{Entry}
use Rattle.tp_rules.specs.declared.event.Event.{Event}
use Rattle.tp_rules.specs.declared.event.Event.TheVariants.{Deliver, Dropped, Inner as OfItself}
use Rattle.tp_rules.specs.declared.event.Inner.TheVariants.{Crash}
use Rattle.tp_rules.specs.declared.event.Parcel.{Parcel}
use Rattle.tp_script.specs.Accepted.{commands_by}
use Rattle.tp_script.specs.declared.script.Script.{Script}
use Rattle.tp_topology.specs.Counting.{up_to}
use Rattle.tp_topology.specs.Shape.{is_site_of}
use Rattle.tp_wire.specs.declared.message.Message.{Message}

-- the output at a place of an entry
abbrev pub output_at : List Entry → ℕ → ℕ → Option Message
output_at [] entry place = None
output_at (e ∷ older) entry place = cond (entry == suc (length older)) (nth e.outputs place) (output_at older entry place)

-- an event as an act: a message lost is none
abbrev pub act_of : List Entry → Event → Option Act
act_of older (Deliver entry place) = option_map Took (output_at older entry place)
act_of older (Dropped entry place) = None
act_of older (OfItself inner) = Some (Did inner)

abbrev pub with_act : Option Act → List Act → List Act
with_act None acts = acts
with_act (Some act) acts = act ∷ acts

-- the acts of an actor, the newest first; each message is looked up in the entries before
abbrev pub acts : List Entry → ActorName → List Act
acts [] a = []
acts (e ∷ older) a = cond (same_name e.actor a) (with_act (act_of older e.event) (acts older a)) (acts older a)

-- a message was sent
abbrev pub IsSent : List Entry → Message → Type 0
IsSent [] m = ⊥
IsSent (e ∷ older) m = IsIn m e.outputs ⊎ IsSent older m

abbrev pub numbered : ℕ → ℕ → List Message → List Parcel
numbered entry place [] = []
numbered entry place (m ∷ ms) = record { entry = entry; place = place; message = m } ∷ numbered entry (suc place) ms

-- all outputs, in the order of the journal
abbrev pub sent : List Entry → List Parcel
sent [] = []
sent (e ∷ older) = sent older ++ numbered (suc (length older)) 1 e.outputs

-- the commands of a session, in order
abbrev pub commands_of : Script → SessionId → List Command
commands_of script s = commands_by s.0 script.commands

abbrev pub session_home : Script → SessionId → ℕ
session_home script s = unwrap_or (option_map (λ home. home.0) (nth script.homes s.0)) 0

-- a session has one open command at a time
abbrev pub client_of : Script → SessionId → Client
client_of script s = record { session = s; home = session_home script s; window = 1; commands = commands_of script s }

-- what the script makes an actor with
abbrev pub identity_in : Script → ActorName → Identity
identity_in script (Process s) = ProcessAt script.topology s
identity_in script (Executor s) = ExecutorAt script.topology s
identity_in script (Session s) = SessionOf script.topology (client_of script s)

-- whether an actor is of the script's shape and sessions
abbrev pub is_known : Script → ActorName → Bool
is_known script (Process s) = is_site_of script.topology s
is_known script (Executor s) = is_site_of script.topology s
is_known script (Session s) = is_from 1 (length script.homes) s.0

abbrev pub is_crash : Event → Bool
is_crash (OfItself Crash) = true
is_crash _ = false

-- whether a site has crashed
abbrev pub has_crashed : List Entry → Site → Bool
has_crashed older s = list_any (λ e. same_name e.actor (Process s) && is_crash e.event) older

-- a session, or an actor whose site has not crashed
abbrev pub is_live : List Entry → ActorName → Bool
is_live older (Process s) = not (has_crashed older s)
is_live older (Executor s) = not (has_crashed older s)
is_live older (Session s) = true

-- whether an event delivers an output
abbrev pub is_delivery_of : ℕ → ℕ → Event → Bool
is_delivery_of entry place (Deliver e p) = (e == entry) && (p == place)
is_delivery_of entry place _ = false

-- whether an event loses an output
abbrev pub is_loss_of : ℕ → ℕ → Event → Bool
is_loss_of entry place (Dropped e p) = (e == entry) && (p == place)
is_loss_of entry place _ = false

-- the sites of a partition, ascending
abbrev pub ranks_of : Script → ℕ → List Site
ranks_of script p = map (site p) (up_to script.topology.replicas)
