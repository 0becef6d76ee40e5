-- What is told of an event: its kind, and of a message the command, the stamp and the ballot that it names.
use Rattle.std.specs.Prelude.{ℕ, List, Option, Some, None, option_map}
use Rattle.tp_base.specs.declared.names.ActorName.{ActorName}
use Rattle.tp_base.specs.declared.names.ActorName.TheVariants.{Process, Executor, Session}
use Rattle.tp_base.specs.declared.names.CommandId.{CommandId}
use Rattle.tp_journal.specs.Entered.{output_in}
use Rattle.tp_picture.specs.declared.sign.Kind.{Kind}
use Rattle.tp_picture.specs.declared.sign.Kind.TheVariants as kinds
use Rattle.tp_picture.specs.declared.sign.Sign.{Sign}
use Rattle.tp_rules.specs.declared.event.Entry.{Entry}
use Rattle.tp_rules.specs.declared.event.Event.{Event}
use Rattle.tp_rules.specs.declared.event.Event.TheVariants.{Deliver, Dropped, Inner as OfItself}
use Rattle.tp_rules.specs.declared.event.Inner.{Inner}
use Rattle.tp_rules.specs.declared.event.Inner.TheVariants.{Submit, Recover, Announce, Declare, Execute, Crash}
use Rattle.tp_wire.specs.declared.message.Body.{Body}
use Rattle.tp_wire.specs.declared.message.Body.TheVariants.{MSubmit, MPropose, MPayload, MProposeAck, MBump, MConsensus, MConsensusAck, MCommit, MRec, MRecAck, MPromises, MCommitted, MStable, MResult}
use Rattle.tp_wire.specs.declared.message.Message.{Message}

abbrev pub sign : Kind → Option CommandId → Option ℕ → Option ℕ → Sign
sign kind id stamp ballot = record { kind = kind; id = id; stamp = stamp; ballot = ballot }

-- of a message; an announcement's stamp is the last that it promises
unfoldable pub sign_of : Body → Sign
sign_of (MSubmit c) = sign kinds.Submit (Some c.id) None None
sign_of (MPropose c floor) = sign kinds.Propose (Some c.id) (Some floor.0) None
sign_of (MPayload c) = sign kinds.Payload (Some c.id) None None
sign_of (MProposeAck id t) = sign kinds.ProposeAck (Some id) (Some t.0) None
sign_of (MBump id t) = sign kinds.Bump (Some id) (Some t.0) None
sign_of (MConsensus c t b) = sign kinds.Consensus (Some c.id) (Some t.0) (Some b)
sign_of (MConsensusAck id b) = sign kinds.ConsensusAck (Some id) None (Some b)
sign_of (MCommit c p t) = sign kinds.Commit (Some c.id) (Some t.0) None
sign_of (MRec c b) = sign kinds.Rec (Some c.id) None (Some b)
sign_of (MRecAck id t made a b) = sign kinds.RecAck (Some id) (Some t.0) (Some b)
sign_of (MPromises lo hi pairs) = sign kinds.Promises None (Some hi) None
sign_of (MCommitted c t) = sign kinds.Committed (Some c.id) (Some t.0) None
sign_of (MStable id) = sign kinds.Stable (Some id) None None
sign_of (MResult id p answers) = sign kinds.Result (Some id) None None

-- the command of a number of an actor, if it is a session
abbrev pub submitted : ActorName → ℕ → Option CommandId
submitted (Session s) n = Some (record { session = s; number = n })
submitted (Process s) n = None
submitted (Executor s) n = None

-- of an actor's own step
abbrev pub sign_of_step : ActorName → Inner → Sign
sign_of_step a (Submit n) = sign kinds.Submits (submitted a n) None None
sign_of_step a (Recover id) = sign kinds.Recovers (Some id) None None
sign_of_step a Announce = sign kinds.Announces None None None
sign_of_step a (Declare id) = sign kinds.Declares (Some id) None None
sign_of_step a (Execute id) = sign kinds.Executes (Some id) None None
sign_of_step a Crash = sign kinds.Crashes None None None

abbrev pub sign_of_message : Option Message → Option Sign
sign_of_message message = option_map (λ m. sign_of m.body) message

-- of an event; of a message that no entry sent nothing is told
abbrev pub sign_of_event : List Entry → ActorName → Event → Option Sign
sign_of_event journal a (Deliver entry place) = sign_of_message (output_in journal entry place)
sign_of_event journal a (Dropped entry place) = sign_of_message (output_in journal entry place)
sign_of_event journal a (OfItself inner) = Some (sign_of_step a inner)
