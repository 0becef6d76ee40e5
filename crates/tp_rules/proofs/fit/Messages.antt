-- Messages in the ranges of the wire format, to an actor of the script, whose commands are the script's; and what of a script's
-- shape they need. Each message that a run sends is such a one.
use Rattle.std.proofs.Common.{◌≡◌, ℕ, true, arith}
use Rattle.std.proofs.lemmas.Bool.{and_parts, leb-true}
use Rattle.std.specs.Prelude.{nat_le}
use Rattle.tp_base.proofs.Each.{each_in, each_weaker}
use Rattle.tp_base.proofs.Ranges.{in_range, range_in}
use Rattle.tp_base.specs.Limits.{IsFrom, IsSite, is_from}
use Rattle.tp_base.specs.Lists.{Each, IsIn}
use Rattle.tp_base.specs.declared.names.ActorName.{ActorName}
use Rattle.tp_base.specs.declared.names.ActorName.TheVariants.{Process, Executor, Session}
use Rattle.tp_base.specs.declared.names.Site.{Site}
use Rattle.tp_ops.specs.Limits.{IsCommand}
use Rattle.tp_ops.specs.Parts.{is_accessed}
use Rattle.tp_ops.specs.declared.command.Command.{Command}
use Rattle.tp_rules.proofs.sent.EachSent.{TookOnly}
use Rattle.tp_rules.proofs.lists.Selections.{each_filter, each_image, each_up_to}
use Rattle.tp_rules.specs.Acts.{Act}
use Rattle.tp_rules.specs.Addresses.{accessed, executors_of, is_name_of, others_accessed, processes_of, site}
use Rattle.tp_rules.specs.Journal.{is_known}
use Rattle.tp_script.specs.Accepted.{IsAccepted, IsCommandOf}
use Rattle.tp_script.specs.declared.script.Script.{Script}
use Rattle.tp_topology.specs.Counting.{up_to}
use Rattle.tp_topology.specs.Shape.{Shape, IsShape, is_site_of}
use Rattle.tp_wire.specs.Ranges.{IsExecutor, IsInRange, IsProcess}
use Rattle.tp_wire.specs.declared.message.Body.{Body}
use Rattle.tp_wire.specs.declared.message.Body.TheVariants.{MSubmit, MPropose, MPayload, MProposeAck, MBump, MConsensus, MConsensusAck, MCommit, MRec, MRecAck, MPromises, MCommitted, MStable, MResult}
use Rattle.tp_wire.specs.declared.message.Message.{Message}

-- what a message carries is a command of the script
abbrev pub IsBodyOf : Script → Body → Type 0
IsBodyOf script (MSubmit c) = IsIn c script.commands
IsBodyOf script (MPropose c floor) = IsIn c script.commands
IsBodyOf script (MPayload c) = IsIn c script.commands
IsBodyOf script (MProposeAck id t) = Unit {0}
IsBodyOf script (MBump id t) = Unit {0}
IsBodyOf script (MConsensus c t b) = IsIn c script.commands
IsBodyOf script (MConsensusAck id b) = Unit {0}
IsBodyOf script (MCommit c q t) = IsIn c script.commands
IsBodyOf script (MRec c b) = IsIn c script.commands
IsBodyOf script (MRecAck id t made a b) = Unit {0}
IsBodyOf script (MPromises lo hi pairs) = Unit {0}
IsBodyOf script (MCommitted c t) = IsIn c script.commands
IsBodyOf script (MStable id) = Unit {0}
IsBodyOf script (MResult id q answers) = Unit {0}

pub record IsFit (script : Script) (m : Message) : Type 0 where
  pub known : is_known script m.to ≡ true
  pub range : IsInRange m
  pub ours : IsBodyOf script m.body

abbrev pub IsFitAct : Script → Act → Type 0
IsFitAct script act = TookOnly (IsFit script) act

-- a command of the script that accesses a partition
pub record IsCommandHere (script : Script) (p : ℕ) (c : Command) : Type 0 where
  pub ours : IsIn c script.commands
  pub accesses : is_accessed script.topology.partitions c p ≡ true

pub command_in_range : (script : Script) (c : Command) → IsAccepted script → IsIn c script.commands → IsCommand c
command_in_range script c accepted h =
    let of : IsCommandOf script.homes c = each_in (IsCommandOf script.homes) script.commands c accepted.commands h in of.0

-- numbers of a shape are in the ranges of names

pub site_is : (shape : Shape) (s : Site) → is_site_of shape s ≡ true
    → IsFrom 1 shape.partitions s.partition.0 × IsFrom 1 shape.replicas s.rank.0
site_is shape s h =
    let both = and_parts (is_from 1 shape.partitions s.partition.0) (is_from 1 shape.replicas s.rank.0) h in
    (in_range 1 shape.partitions s.partition.0 both.0, in_range 1 shape.replicas s.rank.0 both.1)

pub site_in_range : (shape : Shape) → IsShape shape → (p k : ℕ) → IsFrom 1 shape.partitions p → IsFrom 1 shape.replicas k → IsSite (site p k)
site_in_range shape is_shape p k of_partition of_rank = (
  (of_partition.0, omega (arith, of_partition.1, is_shape.few_partitions)),
  (of_rank.0, omega (arith, of_rank.1, is_shape.few_replicas)),
)

pub each_accessed : (shape : Shape) (c : Command) → Each (IsFrom 1 shape.partitions) (accessed shape c)
each_accessed shape c =
    each_filter (IsFrom 1 shape.partitions) (is_accessed shape.partitions c) (up_to shape.partitions) (each_up_to shape.partitions)

pub each_other_accessed : (shape : Shape) (c : Command) (p : ℕ) → Each (IsFrom 1 shape.partitions) (others_accessed shape c p)
each_other_accessed shape c p = each_filter (IsFrom 1 shape.partitions) _ (accessed shape c) (each_accessed shape c)

pub site_known : (shape : Shape) (p k : ℕ) → IsFrom 1 shape.partitions p → IsFrom 1 shape.replicas k → is_site_of shape (site p k) ≡ true
site_known shape p k of_partition of_rank =
    grind (arith, range_in 1 shape.partitions p of_partition, range_in 1 shape.replicas k of_rank)

-- a process of the script
abbrev pub IsProcessOf : Script → ActorName → Type 0
IsProcessOf script to = IsProcess to × (is_known script to ≡ true)

-- an executor of the script
abbrev pub IsExecutorOf : Script → ActorName → Type 0
IsExecutorOf script to = IsExecutor to × (is_known script to ≡ true)

pub each_process : (script : Script) → IsShape script.topology → (p : ℕ) → IsFrom 1 script.topology.partitions p
    → Each (IsProcessOf script) (processes_of script.topology p)
each_process script is_shape p of_partition =
    let shape : Shape = script.topology in
    each_image (IsProcessOf script) (λ rank. Process (site p rank)) (up_to shape.replicas)
    (each_weaker (IsFrom 1 shape.replicas) (λ rank. IsProcessOf script (Process (site p rank)))
    (λ k of. (site_in_range shape is_shape p k of_partition of, site_known shape p k of_partition of))
    (up_to shape.replicas) (each_up_to shape.replicas))

pub each_executor : (script : Script) → IsShape script.topology → (p : ℕ) → IsFrom 1 script.topology.partitions p
    → Each (IsExecutorOf script) (executors_of script.topology p)
each_executor script is_shape p of_partition =
    let shape : Shape = script.topology in
    each_image (IsExecutorOf script) (λ rank. Executor (site p rank)) (up_to shape.replicas)
    (each_weaker (IsFrom 1 shape.replicas) (λ rank. IsExecutorOf script (Executor (site p rank)))
    (λ k of. (site_in_range shape is_shape p k of_partition of, site_known shape p k of_partition of))
    (up_to shape.replicas) (each_up_to shape.replicas))

-- a process that a shape has is one of the script's
pub known_process : (script : Script) (from : ActorName) → IsProcess from → is_name_of script.topology from ≡ true → is_known script from ≡ true
known_process script (Process s) is_process named = named
known_process script (Executor s) is_process named = absurd is_process
known_process script (Session s) is_process named = absurd is_process
