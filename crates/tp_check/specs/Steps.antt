-- What the checker tests of an entry, one after the other.
use Rattle.std.specs.Prelude.{◌≡◌, true, cond, List, Option, Some, None}
use Rattle.tp_base.specs.Names.{same_name}
use Rattle.tp_base.specs.declared.names.ActorName.{ActorName}
use Rattle.tp_check.specs.declared.verdict.EntryCause.{EntryCause}
use Rattle.tp_check.specs.declared.verdict.EntryCause.TheVariants.{Message as NoMessage, Addressee}
use Rattle.tp_rules.specs.Acts.{Act, Identity}
use Rattle.tp_rules.specs.Journal.{is_known, is_live, output_at}
use Rattle.tp_rules.specs.Rules.{enabled}
use Rattle.tp_rules.specs.Runs.{FollowsPlan, MayHappen}
use Rattle.tp_rules.specs.declared.event.Entry.{Entry}
use Rattle.tp_rules.specs.declared.event.Event.{Event}
use Rattle.tp_rules.specs.declared.event.Event.TheVariants.{Deliver, Dropped, Inner as OfItself}
use Rattle.tp_rules.specs.declared.event.Inner.TheVariants.{Recover, Crash}
use Rattle.tp_script.specs.declared.script.Script.{Script}
use Rattle.tp_wire.specs.declared.message.Message.{Message}

-- what is wrong with a delivery or a loss to an actor, by the output at its place
abbrev pub output_flaw : ActorName → Option Message → Option EntryCause
output_flaw actor None = Some NoMessage
output_flaw actor (Some m) = cond (same_name m.to actor) None (Some Addressee)

abbrev pub message_flaw : List Entry → ActorName → Event → Option EntryCause
message_flaw older actor (Deliver entry place) = output_flaw actor (output_at older entry place)
message_flaw older actor (Dropped entry place) = output_flaw actor (output_at older entry place)
message_flaw older actor (OfItself inner) = None

-- a step of its own, if it is one, is the one that the actor may make, or one that a plan asks for
abbrev pub IsAble : Identity → List Act → Event → Type 0
IsAble actor acts (Deliver entry place) = Unit {0}
IsAble actor acts (Dropped entry place) = Unit {0}
IsAble actor acts (OfItself (Recover id)) = Unit {0}
IsAble actor acts (OfItself Crash) = Unit {0}
IsAble actor acts (OfItself inner) = enabled actor acts ≡ Some inner

-- the step may come next, whatever it sends
pub record IsAllowed (script : Script) (older : List Entry) (e : Entry) : Type 0 where
  pub known : is_known script e.actor ≡ true
  pub live : is_live older e.actor ≡ true
  pub may : MayHappen script older e.actor e.event
  pub plan : FollowsPlan script older e
