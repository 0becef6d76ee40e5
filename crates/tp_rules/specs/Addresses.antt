-- Who sends to whom, and which messages an actor takes at all.
use Rattle.std.specs.Prelude.{ℕ, ◌==◌, ◌&&◌, not, Bool, true, List, map, filter}
use Rattle.tp_base.specs.Limits.{is_from}
use Rattle.tp_base.specs.declared.names.ActorName.{ActorName}
use Rattle.tp_base.specs.declared.names.ActorName.TheVariants.{Process, Executor, Session}
use Rattle.tp_base.specs.declared.names.Site.{Site}
use Rattle.tp_ops.specs.declared.command.Command.{Command}
use Rattle.tp_ops.specs.Parts.{is_accessed}
use Rattle.tp_topology.specs.Counting.{up_to}
use Rattle.tp_topology.specs.Shape.{Shape, is_site_of}
use Rattle.tp_wire.specs.declared.message.Body.{Body}
use Rattle.tp_wire.specs.declared.message.Body.TheVariants.{MSubmit, MPropose, MPayload, MProposeAck, MBump, MConsensus, MConsensusAck, MCommit, MRec, MRecAck, MPromises, MCommitted, MStable, MResult}
use Rattle.tp_wire.specs.declared.message.Message.{Message}

abbrev pub site : ℕ → ℕ → Site
site partition rank = record { partition = record { 0 = partition }; rank = record { 0 = rank } }

abbrev pub message : ActorName → ActorName → Body → Message
message from to body = record { from = from; to = to; body = body }

-- the messages that one body makes to several actors
abbrev pub to_each : ActorName → List ActorName → Body → List Message
to_each from names body = map (λ to. message from to body) names

-- the partitions that a command accesses, ascending
abbrev pub accessed : Shape → Command → List ℕ
accessed shape c = filter (is_accessed shape.partitions c) (up_to shape.partitions)

-- the accessed partitions but for one
abbrev pub others_accessed : Shape → Command → ℕ → List ℕ
others_accessed shape c p = filter (λ q. not (q == p)) (accessed shape c)

abbrev pub processes_of : Shape → ℕ → List ActorName
processes_of shape p = map (λ rank. Process (site p rank)) (up_to shape.replicas)

abbrev pub executors_of : Shape → ℕ → List ActorName
executors_of shape p = map (λ rank. Executor (site p rank)) (up_to shape.replicas)

-- the rank of the site that a message comes from
abbrev pub rank_of : ActorName → ℕ
rank_of (Process s) = s.rank.0
rank_of (Executor s) = s.rank.0
rank_of (Session id) = 0

-- the partition of the site that a message comes from
abbrev pub partition_of : ActorName → ℕ
partition_of (Process s) = s.partition.0
partition_of (Executor s) = s.partition.0
partition_of (Session id) = 0

abbrev pub is_name_of : Shape → ActorName → Bool
is_name_of shape (Process s) = is_site_of shape s
is_name_of shape (Executor s) = is_site_of shape s
is_name_of shape (Session id) = true

-- a command whose home is a rank, and that accesses a partition
abbrev pub is_command_at : Shape → ℕ → Command → Bool
is_command_at shape p c = is_from 1 shape.replicas c.home.0 && is_accessed shape.partitions c p

-- no partition or rank is outside the shape, and a command accesses the partition
abbrev pub is_body_at : Shape → ℕ → Body → Bool
is_body_at shape p (MSubmit c) = is_command_at shape p c
is_body_at shape p (MPropose c floor) = is_command_at shape p c
is_body_at shape p (MPayload c) = is_command_at shape p c
is_body_at shape p (MProposeAck id t) = true
is_body_at shape p (MBump id t) = true
is_body_at shape p (MConsensus c t b) = is_command_at shape p c
is_body_at shape p (MConsensusAck id b) = true
is_body_at shape p (MCommit c q t) = is_command_at shape p c && is_from 1 shape.partitions q.0
is_body_at shape p (MRec c b) = is_command_at shape p c
is_body_at shape p (MRecAck id t made a b) = true
is_body_at shape p (MPromises lo hi pairs) = true
is_body_at shape p (MCommitted c t) = is_command_at shape p c
is_body_at shape p (MStable id) = true
is_body_at shape p (MResult id q answers) = is_from 1 shape.partitions q.0
