-- The one spelling of a message: its kind, its sender, its addressee and its fields.
use Rattle.std.specs.List.{flat_map}
use Rattle.std.specs.Prelude.{ℕ, List, [], ◌∷◌, ◌++◌, length}
use Rattle.tp_base.specs.Fields.{big_endian}
use Rattle.tp_base.specs.declared.names.ActorName.{ActorName}
use Rattle.tp_base.specs.declared.names.ActorName.TheVariants.{Process, Executor, Session}
use Rattle.tp_base.specs.declared.names.CommandId.{CommandId}
use Rattle.tp_base.specs.declared.names.Made.{Made}
use Rattle.tp_base.specs.declared.names.Made.TheVariants.{Proposal, Recovery}
use Rattle.tp_base.specs.declared.names.Pair.{Pair}
use Rattle.tp_ops.specs.declared.command.Command.{Command}
use Rattle.tp_ops.specs.declared.operation.Answer.{Answer}
use Rattle.tp_ops.specs.declared.operation.Answer.TheVariants.{Missing, Value, Yes, No}
use Rattle.tp_ops.specs.declared.operation.Op.{Op}
use Rattle.tp_ops.specs.declared.operation.Op.TheVariants.{Get, Put, Del, Cas}
use Rattle.tp_wire.specs.declared.message.Body.{Body}
use Rattle.tp_wire.specs.declared.message.Body.TheVariants.{MSubmit, MPropose, MPayload, MProposeAck, MBump, MConsensus, MConsensusAck, MCommit, MRec, MRecAck, MPromises, MCommitted, MStable, MResult}
use Rattle.tp_wire.specs.declared.message.Message.{Message}

-- parts one after the other
abbrev pub joined : List (List ℕ) → List ℕ
joined [] = []
joined (part ∷ parts) = part ++ joined parts

-- ---- names and numbers

abbrev pub byte : ℕ → List ℕ
byte n = n ∷ []

abbrev pub four : ℕ → List ℕ
four n = big_endian 4 n

abbrev pub eight : ℕ → List ℕ
eight n = big_endian 8 n

-- a process or an executor is its site; the kind of a message tells which
unfoldable pub actor : ActorName → List ℕ
actor (Process site) = joined (byte site.partition.0 ∷ byte site.rank.0 ∷ [])
actor (Executor site) = joined (byte site.partition.0 ∷ byte site.rank.0 ∷ [])
actor (Session session) = byte session.0

unfoldable pub id : CommandId → List ℕ
id i = joined (byte i.session.0 ∷ four i.number ∷ [])

abbrev pub made_byte : Made → List ℕ
made_byte Proposal = byte 0
made_byte Recovery = byte 1

unfoldable pub pair : Pair → List ℕ
pair p = joined (id p.id ∷ eight p.stamp.0 ∷ [])

unfoldable pub pairs : List Pair → List ℕ
pairs ps = joined (four (length ps) ∷ flat_map pair ps ∷ [])

-- ---- commands and answers

-- a key or a value: its length and its bytes
unfoldable pub text : List ℕ → List ℕ
text bytes = joined (byte (length bytes) ∷ bytes ∷ [])

unfoldable pub op : Op → List ℕ
op (Get key) = joined (byte 1 ∷ text key ∷ [])
op (Put key value) = joined (byte 2 ∷ text key ∷ text value ∷ [])
op (Del key) = joined (byte 3 ∷ text key ∷ [])
op (Cas key old new) = joined (byte 4 ∷ text key ∷ text old ∷ text new ∷ [])

unfoldable pub command : Command → List ℕ
command c = joined (id c.id ∷ byte c.home.0 ∷ byte (length c.ops) ∷ flat_map op c.ops ∷ [])

unfoldable pub answer : Answer → List ℕ
answer Missing = byte 1
answer (Value value) = joined (byte 2 ∷ text value ∷ [])
answer Yes = byte 3
answer No = byte 4

unfoldable pub answers : List Answer → List ℕ
answers as_told = joined (byte (length as_told) ∷ flat_map answer as_told ∷ [])

-- ---- messages

abbrev pub kind_of : Body → ℕ
kind_of (MSubmit c) = 1
kind_of (MPropose c floor) = 2
kind_of (MPayload c) = 3
kind_of (MProposeAck i t) = 4
kind_of (MBump i t) = 5
kind_of (MConsensus c t b) = 6
kind_of (MConsensusAck i b) = 7
kind_of (MCommit c q t) = 8
kind_of (MRec c b) = 9
kind_of (MRecAck i t made a b) = 10
kind_of (MPromises lo hi ps) = 11
kind_of (MCommitted c t) = 12
kind_of (MStable i) = 13
kind_of (MResult i q told) = 14

abbrev pub fields_of : Body → List (List ℕ)
fields_of (MSubmit c) = command c ∷ []
fields_of (MPropose c floor) = command c ∷ eight floor.0 ∷ []
fields_of (MPayload c) = command c ∷ []
fields_of (MProposeAck i t) = id i ∷ eight t.0 ∷ []
fields_of (MBump i t) = id i ∷ eight t.0 ∷ []
fields_of (MConsensus c t b) = command c ∷ eight t.0 ∷ eight b ∷ []
fields_of (MConsensusAck i b) = id i ∷ eight b ∷ []
fields_of (MCommit c q t) = command c ∷ byte q.0 ∷ eight t.0 ∷ []
fields_of (MRec c b) = command c ∷ eight b ∷ []
fields_of (MRecAck i t made a b) = id i ∷ eight t.0 ∷ made_byte made ∷ eight a ∷ eight b ∷ []
fields_of (MPromises lo hi ps) = eight lo ∷ eight hi ∷ pairs ps ∷ []
fields_of (MCommitted c t) = command c ∷ eight t.0 ∷ []
fields_of (MStable i) = id i ∷ []
fields_of (MResult i q told) = id i ∷ byte q.0 ∷ answers told ∷ []

unfoldable pub bytes_of : Message → List ℕ
bytes_of m = joined (byte (kind_of m.body) ∷ actor m.from ∷ actor m.to ∷ fields_of m.body)
