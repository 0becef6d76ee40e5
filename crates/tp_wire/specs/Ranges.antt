-- Which messages have bytes: each number in its range, each list no longer than its limit, and the
-- sorts of sender and addressee that the kind has.
use Rattle.std.specs.Prelude.{ℕ, ◌+◌, ◌-◌, ◌^◌, ◌≤◌, ◌<◌, List, [], ◌∷◌, length}
use Rattle.tp_base.specs.Limits.{IsFrom, IsSite, IsSession, IsId}
use Rattle.tp_base.specs.Lists.{Each}
use Rattle.tp_base.specs.declared.names.ActorName.{ActorName}
use Rattle.tp_base.specs.declared.names.ActorName.TheVariants.{Process, Executor, Session}
use Rattle.tp_base.specs.declared.names.Pair.{Pair}
use Rattle.tp_ops.specs.Limits.{IsCommand, IsAnswer}
use Rattle.tp_wire.specs.declared.message.Body.{Body}
use Rattle.tp_wire.specs.declared.message.Body.TheVariants.{MSubmit, MPropose, MPayload, MProposeAck, MBump, MConsensus, MConsensusAck, MCommit, MRec, MRecAck, MPromises, MCommitted, MStable, MResult}
use Rattle.tp_wire.specs.declared.message.Message.{Message}

-- stamps and ballots
abbrev pub IsNumber : ℕ → Type 0
IsNumber n = IsFrom 1 (2 ^ 48 - 1) n

-- each stamp above the one before, in lo + 1 to hi
abbrev pub IsAttached : ℕ → ℕ → List Pair → Type 0
IsAttached lo hi [] = Unit {0}
IsAttached lo hi (pair ∷ pairs) = IsId pair.id × IsFrom (lo + 1) hi pair.stamp.0 × IsAttached pair.stamp.0 hi pairs

abbrev pub IsProcess : ActorName → Type 0
IsProcess (Process site) = IsSite site
IsProcess _ = ⊥

abbrev pub IsExecutor : ActorName → Type 0
IsExecutor (Executor site) = IsSite site
IsExecutor _ = ⊥

abbrev pub IsClient : ActorName → Type 0
IsClient (Session session) = IsSession session
IsClient _ = ⊥

-- what a message of each kind may say, and who sends it to whom
abbrev pub IsBody : ActorName → ActorName → Body → Type 0
IsBody from to (MSubmit c) = IsClient from × IsProcess to × IsCommand c
IsBody from to (MPropose c floor) = IsProcess from × IsProcess to × IsCommand c × IsNumber floor.0
IsBody from to (MPayload c) = IsProcess from × IsProcess to × IsCommand c
IsBody from to (MProposeAck id t) = IsProcess from × IsProcess to × IsId id × IsNumber t.0
IsBody from to (MBump id t) = IsProcess from × IsProcess to × IsId id × IsNumber t.0
IsBody from to (MConsensus c t b) = IsProcess from × IsProcess to × IsCommand c × IsNumber t.0 × IsNumber b
IsBody from to (MConsensusAck id b) = IsProcess from × IsProcess to × IsId id × IsNumber b
IsBody from to (MCommit c q t) = IsProcess from × IsProcess to × IsCommand c × IsFrom 1 4 q.0 × IsNumber t.0
IsBody from to (MRec c b) = IsProcess from × IsProcess to × IsCommand c × IsNumber b
IsBody from to (MRecAck id t made a b) = IsProcess from × IsProcess to × IsId id × IsNumber t.0 × IsFrom 0 (2 ^ 48 - 1) a × IsNumber b
IsBody from to (MPromises lo hi pairs) =
    IsProcess from × IsExecutor to × (lo < hi) × IsNumber hi × (length pairs ≤ 1000) × IsAttached lo hi pairs
IsBody from to (MCommitted c t) = IsProcess from × IsExecutor to × IsCommand c × IsNumber t.0
IsBody from to (MStable id) = IsExecutor from × IsExecutor to × IsId id
IsBody from to (MResult id q answers) =
    IsExecutor from × IsClient to × IsId id × IsFrom 1 4 q.0 × IsFrom 1 16 (length answers) × Each IsAnswer answers

-- in the ranges of the wire format
abbrev pub IsInRange : Message → Type 0
IsInRange m = IsBody m.from m.to m.body
