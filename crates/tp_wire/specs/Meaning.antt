-- What bytes say: a message, or the first fault from the left with its place. Each field names where it begins, so no
-- place is reckoned.
use Rattle.std.specs.Prelude.{ℕ, zero, suc, ◌+◌, ◌-◌, ◌==◌, nat_le, if◌then◌else◌, List, [], ◌∷◌, length, take, min, Option, Some, None, Result, Ok, Err}
use Rattle.tp_base.specs.Fields.{At, big_endian_value, left, past}
use Rattle.tp_base.specs.Limits.{STAMP_LIMIT, is_from}
use Rattle.tp_base.specs.Tables.{nth}
use Rattle.tp_base.specs.declared.names.ActorName.{ActorName}
use Rattle.tp_base.specs.declared.names.ActorName.TheVariants.{Process, Executor, Session}
use Rattle.tp_base.specs.declared.names.CommandId.{CommandId}
use Rattle.tp_base.specs.declared.names.Made.{Made}
use Rattle.tp_base.specs.declared.names.Made.TheVariants.{Proposal, Recovery}
use Rattle.tp_base.specs.declared.names.Pair.{Pair}
use Rattle.tp_base.specs.declared.names.PartitionId.{PartitionId}
use Rattle.tp_base.specs.declared.names.Site.{Site}
use Rattle.tp_base.specs.declared.names.Stamp.{Stamp}
use Rattle.tp_ops.specs.declared.command.Command.{Command}
use Rattle.tp_ops.specs.declared.operation.Answer.{Answer}
use Rattle.tp_ops.specs.declared.operation.Answer.TheVariants.{Missing, Value, Yes, No}
use Rattle.tp_ops.specs.declared.operation.Op.{Op}
use Rattle.tp_ops.specs.declared.operation.Op.TheVariants.{Get, Put, Del, Cas}
use Rattle.tp_text.specs.Steps.{◌>>=◌, ◌>>◌, need}
use Rattle.tp_wire.specs.declared.fault.WireCause.{WireCause}
use Rattle.tp_wire.specs.declared.fault.WireCause.TheVariants.{Short, Kind, Range, Trailing}
use Rattle.tp_wire.specs.declared.fault.WireFault.{WireFault}
use Rattle.tp_wire.specs.declared.message.Body.{Body}
use Rattle.tp_wire.specs.declared.message.Body.TheVariants.{MSubmit, MPropose, MPayload, MProposeAck, MBump, MConsensus, MConsensusAck, MCommit, MRec, MRecAck, MPromises, MCommitted, MStable, MResult}
use Rattle.tp_wire.specs.declared.message.Message.{Message}

abbrev pub fault_at : WireCause → At → WireFault
fault_at cause at = record { place = at.place; cause = cause }

-- what reads a field: its value and where it ends, or a fault
abbrev pub Reader : Type 0 → Type 0
Reader A = At → Result (A × At) WireFault

-- ---- fields

-- so many bytes; where they aren't all there, the field is short
unfoldable pub bytes_at : ℕ → Reader (List ℕ)
bytes_at n at = do
  need (nat_le n (length (left at))) (fault_at Short at)
  Ok (take n (left at), past n at)

-- a number of so many bytes
unfoldable pub value_at : ℕ → Reader ℕ
value_at width at = do
  bytes ← bytes_at width at
  Ok (big_endian_value bytes.0, bytes.1)

-- a number of so many bytes, from low to high
unfoldable pub number_at : ℕ → ℕ → ℕ → Reader ℕ
number_at width low high at = do
  n ← value_at width at
  need (is_from low high n.0) (fault_at Range at)
  Ok n

-- a length in one byte, from low to high, and so many bytes: two fields
unfoldable pub text_at : ℕ → ℕ → Reader (List ℕ)
text_at low high at = do
  len ← number_at 1 low high at
  bytes_at len.0 len.1

abbrev pub or_fault : {X : Type 0} → WireFault → Option X → Result X WireFault
or_fault fault None = Err fault
or_fault fault (Some x) = Ok x

-- a byte that says which of the readers reads what follows; another byte is this fault
unfoldable pub choice_at : {A : Type 0} → WireCause → List (Reader A) → Reader A
choice_at cause readers at = do
  byte ← value_at 1 at
  reader ← or_fault (fault_at cause at) (nth readers byte.0)
  reader byte.1

-- so many, one after the other
unfoldable pub times_at : {A : Type 0} → Reader A → ℕ → Reader (List A)
times_at reader zero at = Ok ([], at)
times_at reader (suc n) at = do
  first ← reader at
  others ← times_at reader n first.1
  Ok (first.0 ∷ others.0, others.1)

-- ---- names and numbers

-- the greatest stamp, and the greatest ballot
abbrev pub most : ℕ
most = STAMP_LIMIT - 1

unfoldable pub site_at : Reader Site
site_at at = do
  partition ← number_at 1 1 4 at
  rank ← number_at 1 1 7 partition.1
  Ok (record { partition = record { 0 = partition.0 }; rank = record { 0 = rank.0 } }, rank.1)

unfoldable pub process_at : Reader ActorName
process_at at = do
  site ← site_at at
  Ok (Process site.0, site.1)

unfoldable pub executor_at : Reader ActorName
executor_at at = do
  site ← site_at at
  Ok (Executor site.0, site.1)

unfoldable pub session_at : Reader ActorName
session_at at = do
  session ← number_at 1 1 16 at
  Ok (Session (record { 0 = session.0 }), session.1)

unfoldable pub id_at : Reader CommandId
id_at at = do
  session ← number_at 1 1 16 at
  number ← number_at 4 1 1000 session.1
  Ok (record { session = record { 0 = session.0 }; number = number.0 }, number.1)

unfoldable pub partition_at : Reader PartitionId
partition_at at = do
  n ← number_at 1 1 4 at
  Ok (record { 0 = n.0 }, n.1)

unfoldable pub stamp_at : Reader Stamp
stamp_at at = do
  n ← number_at 8 1 most at
  Ok (record { 0 = n.0 }, n.1)

abbrev pub ballot_at : Reader ℕ
ballot_at at = number_at 8 1 most at

abbrev pub made_of : ℕ → Made
made_of n = if n == 0 then Proposal else Recovery

unfoldable pub made_at : Reader Made
made_at at = do
  n ← number_at 1 0 1 at
  Ok (made_of n.0, n.1)

-- ---- commands and answers

abbrev pub key_at : Reader (List ℕ)
key_at at = text_at 1 32 at

abbrev pub text_value_at : Reader (List ℕ)
text_value_at at = text_at 0 64 at

unfoldable pub get_at : Reader Op
get_at at = do
  key ← key_at at
  Ok (Get key.0, key.1)

unfoldable pub put_at : Reader Op
put_at at = do
  key ← key_at at
  value ← text_value_at key.1
  Ok (Put key.0 value.0, value.1)

unfoldable pub del_at : Reader Op
del_at at = do
  key ← key_at at
  Ok (Del key.0, key.1)

unfoldable pub cas_at : Reader Op
cas_at at = do
  key ← key_at at
  old ← text_value_at key.1
  new ← text_value_at old.1
  Ok (Cas key.0 old.0 new.0, new.1)

-- 1 get, 2 put, 3 del, 4 cas
unfoldable pub op_at : Reader Op
op_at at = choice_at Range (get_at ∷ put_at ∷ del_at ∷ cas_at ∷ []) at

unfoldable pub ops_at : Reader (List Op)
ops_at at = do
  count ← number_at 1 1 16 at
  times_at op_at count.0 count.1

unfoldable pub command_at : Reader Command
command_at at = do
  id ← id_at at
  home ← number_at 1 1 7 id.1
  ops ← ops_at home.1
  Ok (record { id = id.0; home = record { 0 = home.0 }; ops = ops.0 }, ops.1)

-- nothing more is said
abbrev pub just : {A : Type 0} → A → Reader A
just x at = Ok (x, at)

unfoldable pub value_answer_at : Reader Answer
value_answer_at at = do
  value ← text_value_at at
  Ok (Value value.0, value.1)

-- 1 missing, 2 a value, 3 yes, 4 no
unfoldable pub answer_at : Reader Answer
answer_at at = choice_at Range (just Missing ∷ value_answer_at ∷ just Yes ∷ just No ∷ []) at

unfoldable pub answers_at : Reader (List Answer)
answers_at at = do
  count ← number_at 1 1 16 at
  times_at answer_at count.0 count.1

-- ---- pairs of an announcement

unfoldable pub pair_at : ℕ → ℕ → Reader Pair
pair_at low high at = do
  id ← id_at at
  stamp ← number_at 8 low high id.1
  Ok (record { id = id.0; stamp = record { 0 = stamp.0 } }, stamp.1)

-- so many pairs, each stamp above the one before, and up to hi
unfoldable pub pairs_from : ℕ → ℕ → ℕ → Reader (List Pair)
pairs_from zero last hi at = Ok ([], at)
pairs_from (suc n) last hi at = do
  first ← pair_at (last + 1) hi at
  others ← pairs_from n first.0.stamp.0 hi first.1
  Ok (first.0 ∷ others.0, others.1)

unfoldable pub pairs_at : ℕ → ℕ → Reader (List Pair)
pairs_at lo hi at = do
  count ← number_at 4 0 (min (hi - lo) 1000) at
  pairs_from count.0 lo hi count.1

-- ---- messages

abbrev pub sent : ActorName → ActorName → Body → Message
sent from to body = record { from = from; to = to; body = body }

unfoldable pub submit_at : Reader Message
submit_at at = do
  from ← session_at at
  to ← process_at from.1
  c ← command_at to.1
  Ok (sent from.0 to.0 (MSubmit c.0), c.1)

unfoldable pub propose_at : Reader Message
propose_at at = do
  from ← process_at at
  to ← process_at from.1
  c ← command_at to.1
  floor ← stamp_at c.1
  Ok (sent from.0 to.0 (MPropose c.0 floor.0), floor.1)

unfoldable pub payload_at : Reader Message
payload_at at = do
  from ← process_at at
  to ← process_at from.1
  c ← command_at to.1
  Ok (sent from.0 to.0 (MPayload c.0), c.1)

unfoldable pub propose_ack_at : Reader Message
propose_ack_at at = do
  from ← process_at at
  to ← process_at from.1
  id ← id_at to.1
  stamp ← stamp_at id.1
  Ok (sent from.0 to.0 (MProposeAck id.0 stamp.0), stamp.1)

unfoldable pub bump_at : Reader Message
bump_at at = do
  from ← process_at at
  to ← process_at from.1
  id ← id_at to.1
  stamp ← stamp_at id.1
  Ok (sent from.0 to.0 (MBump id.0 stamp.0), stamp.1)

unfoldable pub consensus_at : Reader Message
consensus_at at = do
  from ← process_at at
  to ← process_at from.1
  c ← command_at to.1
  stamp ← stamp_at c.1
  ballot ← ballot_at stamp.1
  Ok (sent from.0 to.0 (MConsensus c.0 stamp.0 ballot.0), ballot.1)

unfoldable pub consensus_ack_at : Reader Message
consensus_ack_at at = do
  from ← process_at at
  to ← process_at from.1
  id ← id_at to.1
  ballot ← ballot_at id.1
  Ok (sent from.0 to.0 (MConsensusAck id.0 ballot.0), ballot.1)

unfoldable pub commit_at : Reader Message
commit_at at = do
  from ← process_at at
  to ← process_at from.1
  c ← command_at to.1
  partition ← partition_at c.1
  stamp ← stamp_at partition.1
  Ok (sent from.0 to.0 (MCommit c.0 partition.0 stamp.0), stamp.1)

unfoldable pub rec_at : Reader Message
rec_at at = do
  from ← process_at at
  to ← process_at from.1
  c ← command_at to.1
  ballot ← ballot_at c.1
  Ok (sent from.0 to.0 (MRec c.0 ballot.0), ballot.1)

unfoldable pub rec_ack_at : Reader Message
rec_ack_at at = do
  from ← process_at at
  to ← process_at from.1
  id ← id_at to.1
  stamp ← stamp_at id.1
  made ← made_at stamp.1
  accepted ← number_at 8 0 most made.1
  ballot ← ballot_at accepted.1
  Ok (sent from.0 to.0 (MRecAck id.0 stamp.0 made.0 accepted.0 ballot.0), ballot.1)

unfoldable pub promises_at : Reader Message
promises_at at = do
  from ← process_at at
  to ← executor_at from.1
  lo ← number_at 8 0 (most - 1) to.1
  hi ← number_at 8 (lo.0 + 1) most lo.1
  pairs ← pairs_at lo.0 hi.0 hi.1
  Ok (sent from.0 to.0 (MPromises lo.0 hi.0 pairs.0), pairs.1)

unfoldable pub committed_at : Reader Message
committed_at at = do
  from ← process_at at
  to ← executor_at from.1
  c ← command_at to.1
  stamp ← stamp_at c.1
  Ok (sent from.0 to.0 (MCommitted c.0 stamp.0), stamp.1)

unfoldable pub stable_at : Reader Message
stable_at at = do
  from ← executor_at at
  to ← executor_at from.1
  id ← id_at to.1
  Ok (sent from.0 to.0 (MStable id.0), id.1)

unfoldable pub result_at : Reader Message
result_at at = do
  from ← executor_at at
  to ← session_at from.1
  id ← id_at to.1
  partition ← partition_at id.1
  told ← answers_at partition.1
  Ok (sent from.0 to.0 (MResult id.0 partition.0 told.0), told.1)

-- the fourteen kinds, in the order of their bytes
abbrev pub kinds : List (Reader Message)
kinds =
    submit_at ∷
    propose_at ∷
    payload_at ∷
    propose_ack_at ∷
    bump_at ∷
    consensus_at ∷
    consensus_ack_at ∷
    commit_at ∷
    rec_at ∷
    rec_ack_at ∷
    promises_at ∷
    committed_at ∷
    stable_at ∷
    result_at ∷
    []

unfoldable pub message_at : Reader Message
message_at at = choice_at Kind kinds at

-- nothing follows
unfoldable pub ended_at : At → Result (Unit {0}) WireFault
ended_at at = need (length (left at) == 0) (fault_at Trailing at)

abbrev pub start : List ℕ → At
start bytes = record { input = bytes; place = 0 }

unfoldable pub message_of : List ℕ → Result Message WireFault
message_of bytes = do
  message ← message_at (start bytes)
  ended_at message.1
  Ok message.0
