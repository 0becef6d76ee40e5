-- The reply to a command by the rules of its session.
use Rattle.std.specs.Prelude.{List, Option}
use Rattle.tp_base.specs.declared.names.ActorName.TheVariants.{Session}
use Rattle.tp_base.specs.declared.names.CommandId.{CommandId}
use Rattle.tp_ops.specs.declared.operation.Answer.{Answer}
use Rattle.tp_rules.specs.Journal.{acts, client_of}
use Rattle.tp_rules.specs.Session as session
use Rattle.tp_rules.specs.declared.event.Entry.{Entry}
use Rattle.tp_script.specs.declared.script.Script.{Script}

-- the state of a command's session after a journal
abbrev pub session_of : Script → List Entry → CommandId → session.SessionState
session_of script older id =
    session.state_after script.topology (client_of script id.session) (acts older (Session id.session))

-- what the session itself answers
abbrev pub session_reply_to : Script → List Entry → CommandId → Option (List Answer)
session_reply_to script older id =
    session.reply script.topology (client_of script id.session) (session_of script older id) id.number
