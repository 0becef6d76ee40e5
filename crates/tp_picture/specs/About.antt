-- Which messages and entries are about a command.
use Rattle.std.specs.List.{list_any}
use Rattle.std.specs.Prelude.{Bool, true, false, ◌||◌, List, Option, Some, None}
use Rattle.tp_base.specs.Names.{same_id}
use Rattle.tp_base.specs.declared.names.ActorName.{ActorName}
use Rattle.tp_base.specs.declared.names.CommandId.{CommandId}
use Rattle.tp_journal.specs.Entered.{output_in}
use Rattle.tp_picture.specs.Signs.{sign_of, sign_of_step}
use Rattle.tp_rules.specs.Journal.{is_crash}
use Rattle.tp_rules.specs.declared.event.Entry.{Entry}
use Rattle.tp_rules.specs.declared.event.Event.{Event}
use Rattle.tp_rules.specs.declared.event.Event.TheVariants.{Deliver, Dropped, Inner as OfItself}
use Rattle.tp_wire.specs.declared.message.Body.{Body}
use Rattle.tp_wire.specs.declared.message.Body.TheVariants.{MPromises}
use Rattle.tp_wire.specs.declared.message.Message.{Message}

abbrev pub names : CommandId → Option CommandId → Bool
names id None = false
names id (Some i) = same_id i id

-- an announcement is about the commands whose promises are attached
abbrev pub has_pair : CommandId → Body → Bool
has_pair id (MPromises lo hi pairs) = list_any (λ pair. same_id pair.id id) pairs
has_pair id _ = false

abbrev pub is_about : CommandId → Message → Bool
is_about id m = has_pair id m.body || names id (sign_of m.body).id

abbrev pub is_sent_about : CommandId → Option Message → Bool
is_sent_about id None = false
is_sent_about id (Some m) = is_about id m

-- a crash is about each command
abbrev pub is_event_about : List Entry → CommandId → ActorName → Event → Bool
is_event_about journal id a (Deliver entry place) = is_sent_about id (output_in journal entry place)
is_event_about journal id a (Dropped entry place) = is_sent_about id (output_in journal entry place)
is_event_about journal id a (OfItself inner) = is_crash (OfItself inner) || names id (sign_of_step a inner).id

-- an entry is about a command where its event is, or a message that it sends
abbrev pub is_entry_about : List Entry → CommandId → Entry → Bool
is_entry_about journal id e = is_event_about journal id e.actor e.event || list_any (is_about id) e.outputs

-- all, where no command is chosen
abbrev pub is_chosen_message : Option CommandId → Message → Bool
is_chosen_message None m = true
is_chosen_message (Some id) m = is_about id m

abbrev pub is_chosen_entry : List Entry → Option CommandId → Entry → Bool
is_chosen_entry journal None e = true
is_chosen_entry journal (Some id) e = is_entry_about journal id e
