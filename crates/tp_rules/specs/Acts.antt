-- What actors are, and what they do.
use Rattle.std.specs.Prelude.{ℕ, List}
use Rattle.tp_base.specs.declared.names.ActorName.{ActorName}
use Rattle.tp_base.specs.declared.names.ActorName.TheVariants.{Process, Executor, Session}
use Rattle.tp_base.specs.declared.names.SessionId.{SessionId}
use Rattle.tp_base.specs.declared.names.Site.{Site}
use Rattle.tp_ops.specs.declared.command.Command.{Command}
use Rattle.tp_rules.specs.declared.event.Inner.{Inner}
use Rattle.tp_topology.specs.Shape.{Shape}
use Rattle.tp_wire.specs.declared.message.Message.{Message}

-- an event of an actor, with the message itself in the place of its numbers
pub data Act : Type 0 where
  Took : Message → Act
  Did : Inner → Act

-- what a session is: its home rank, how many of its commands may be open, and its commands
pub record Client : Type 0 where
  pub session : SessionId
  pub home : ℕ
  pub window : ℕ
  pub commands : List Command

-- what an actor is made with
pub data Identity : Type 0 where
  ProcessAt : Shape → Site → Identity
  ExecutorAt : Shape → Site → Identity
  SessionOf : Shape → Client → Identity

abbrev pub name_in : Identity → ActorName
name_in (ProcessAt shape site) = Process site
name_in (ExecutorAt shape site) = Executor site
name_in (SessionOf shape client) = Session client.session
