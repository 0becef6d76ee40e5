-- What a process keeps of one command.
use Rattle.std.specs.Prelude.{ℕ, ◌==◌, ◌&&◌, nat_le, nat_lt, not, Bool, true, false, cond, List, Option, Some, None, is_none, is_some, length, map, replicate, unwrap_or}
use Rattle.std.specs.List.{list_all}
use Rattle.tp_base.specs.Tables.{with_nth, kept_at}
use Rattle.tp_base.specs.declared.names.Made.{Made}
use Rattle.tp_base.specs.declared.names.Made.TheVariants.{Proposal, Recovery}
use Rattle.tp_choice.specs.declared.answer.RecoveryAnswer.{RecoveryAnswer}
use Rattle.tp_ops.specs.declared.command.Command.{Command}
use Rattle.tp_paxos.specs.Votes.{PutStamp, decision, is_put_at, unvoted, voted_by}
use Rattle.tp_quorum.specs.Choice.{present, greatest}
use Rattle.tp_rules.specs.Addresses.{accessed}
use Rattle.tp_topology.specs.Shape.{Shape, in_ring, fast_size, recovery_size}

-- the store's shape, and which ranks are of a command's fast quorum: of the fast size, its home one of them
pub record QuorumRule : Type 0 where
  pub shape : Shape
  pub in_quorum : Command → ℕ → Bool

-- the fast quorum of each command is the ring of its home
abbrev pub ring_rule : Shape → QuorumRule
ring_rule shape = record { shape = shape; in_quorum = λ c. in_ring shape c.home.0 }

-- a proposal's stamp, and how it was made
pub record Proposed : Type 0 where
  pub stamp : ℕ
  pub made : Made

-- known by partition, acknowledged and answers by rank
pub record Sheet : Type 0 where
  pub command : Option Command
  pub proposal : Option Proposed
  pub ballot : ℕ
  pub accepted_ballot : ℕ
  pub accepted_stamp : ℕ
  pub known : List (Option ℕ)
  pub acknowledged : List (Option ℕ)
  pub tried : ℕ
  pub answers : List (Option RecoveryAnswer)
  pub put : Option PutStamp

-- of a command that a process has not heard of
unfoldable pub blank : Shape → Sheet
blank shape = record {
  command = None;
  proposal = None;
  ballot = 0;
  accepted_ballot = 0;
  accepted_stamp = 0;
  known = replicate shape.partitions None;
  acknowledged = replicate shape.replicas None;
  tried = 0;
  answers = replicate shape.replicas None;
  put = None;
}

-- the stamp of a partition, where it is known
abbrev pub stamp_of : Sheet → ℕ → Option ℕ
stamp_of sheet q = kept_at sheet.known q

-- no proposal, no ballot, and the partition's stamp isn't known
abbrev pub is_fresh : ℕ → Sheet → Bool
is_fresh p sheet = is_none sheet.proposal && (sheet.ballot == 0) && is_none (stamp_of sheet p)

-- the command that is kept, or else this one
abbrev pub command_or : Command → Sheet → Command
command_or c sheet = unwrap_or sheet.command c

-- with a command kept: the first one stays
abbrev pub with_command : Command → Sheet → Sheet
with_command c sheet = record sheet { command = Some (command_or c sheet) }

abbrev pub with_proposal : ℕ → Made → Sheet → Sheet
with_proposal t made sheet = record sheet { proposal = Some (record { stamp = t; made = made }) }

abbrev pub is_proposal : Made → Bool
is_proposal Proposal = true
is_proposal Recovery = false

abbrev pub is_made_by_proposal : Option Proposed → Bool
is_made_by_proposal None = false
is_made_by_proposal (Some p) = is_proposal p.made

-- whether the command kept has its home here, and a rank is of its quorum
abbrev pub is_member : QuorumRule → ℕ → ℕ → Option Command → Bool
is_member s home rank None = false
is_member s home rank (Some c) = (c.home.0 == home) && s.in_quorum c rank

-- whether the process of a rank of a partition counts another rank's acknowledgement
abbrev pub can_acknowledge : QuorumRule → ℕ → ℕ → ℕ → Sheet → Bool
can_acknowledge s p own rank sheet =
    is_member s own rank sheet.command && is_made_by_proposal sheet.proposal && (sheet.ballot == 0)
    && is_none sheet.put && is_none (stamp_of sheet p) && is_none (kept_at sheet.acknowledged rank)
    && nat_lt (length (present sheet.acknowledged)) (fast_size s.shape)

abbrev pub acknowledged : ℕ → ℕ → Sheet → Sheet
acknowledged rank t sheet = record sheet { acknowledged = with_nth sheet.acknowledged rank (Some t) }

-- the own proposal is acknowledged where another's would be
abbrev pub acknowledged_own : QuorumRule → ℕ → ℕ → ℕ → Sheet → Sheet
acknowledged_own s p own t sheet = cond (can_acknowledge s p own own sheet) (acknowledged own t sheet) sheet

-- whether the whole fast quorum has acknowledged
abbrev pub is_full : Shape → Sheet → Bool
is_full shape sheet = length (present sheet.acknowledged) == fast_size shape

-- with a stamp put at a ballot, without votes
abbrev pub putting : Shape → ℕ → ℕ → Sheet → Sheet
putting shape b t sheet = record sheet { put = Some (unvoted shape b t) }

-- whether the process of a partition accepts at a ballot: the partition's stamp isn't known, and it agreed to no greater ballot
abbrev pub can_accept : ℕ → ℕ → Sheet → Bool
can_accept p b sheet = is_none (stamp_of sheet p) && nat_le sheet.ballot b

-- with a stamp accepted at a ballot
abbrev pub with_accepted : ℕ → ℕ → Sheet → Sheet
with_accepted b t sheet = record sheet { ballot = b; accepted_ballot = b; accepted_stamp = t }

-- whether the process of a partition counts a vote at a ballot: the partition's stamp isn't known, and one is put at that ballot
abbrev pub can_vote : ℕ → ℕ → Sheet → Bool
can_vote p b sheet = is_none (stamp_of sheet p) && is_put_at b sheet.put

abbrev pub with_vote : ℕ → Sheet → Sheet
with_vote rank sheet = record sheet { put = voted_by rank sheet.put }

-- the stamp that is put, where a consensus quorum has voted for it
abbrev pub stamp_decided : Shape → Sheet → Option ℕ
stamp_decided shape sheet = decision shape sheet.put

abbrev pub stamp_proposed : Option Proposed → ℕ
stamp_proposed None = 0
stamp_proposed (Some p) = p.stamp

-- how the proposal was made; as a proposal, where there is none
abbrev pub made_of : Option Proposed → Made
made_of None = Proposal
made_of (Some p) = p.made

-- what is told to a recovery: the stamp accepted, where one was, else the one proposed
abbrev pub stamp_told : Sheet → ℕ
stamp_told sheet = cond (nat_lt 0 sheet.accepted_ballot) sheet.accepted_stamp (stamp_proposed sheet.proposal)

-- whether a recovery has to propose first
abbrev pub is_untouched : Sheet → Bool
is_untouched sheet = is_none sheet.proposal && (sheet.ballot == 0)

abbrev pub with_ballot : ℕ → Sheet → Sheet
with_ballot b sheet = record sheet { ballot = b }

-- with a ballot tried, without answers
abbrev pub trying : Shape → ℕ → Sheet → Sheet
trying shape b sheet = record sheet { tried = b; answers = replicate shape.replicas None }

-- whether the process of a partition takes the answer of a rank to its recovery at a ballot
abbrev pub can_answer : ℕ → ℕ → ℕ → Sheet → Bool
can_answer p b rank sheet =
    is_none (stamp_of sheet p) && nat_lt 0 b && (sheet.tried == b) && not (is_put_at b sheet.put) && is_none (kept_at sheet.answers rank)

abbrev pub with_answer : RecoveryAnswer → Sheet → Sheet
with_answer a sheet = record sheet { answers = with_nth sheet.answers a.rank.0 (Some a) }

-- whether just a recovery quorum has answered
abbrev pub is_recovered : Shape → Sheet → Bool
is_recovered shape sheet = length (present sheet.answers) == recovery_size shape

abbrev pub with_stamp : ℕ → ℕ → Sheet → Sheet
with_stamp q t sheet = record sheet { known = with_nth sheet.known q (Some t) }

abbrev pub stamps_of : Shape → Sheet → Command → List (Option ℕ)
stamps_of shape sheet c = map (stamp_of sheet) (accessed shape c)

-- the greatest of the stamps, where each is known
abbrev pub greatest_known : List (Option ℕ) → Option ℕ
greatest_known stamps = cond (list_all is_some stamps) (Some (greatest (present stamps))) None

-- the command's stamp, where those of all accessed partitions are known
abbrev pub final_stamp : Shape → Sheet → Option Command → Option ℕ
final_stamp shape sheet None = None
final_stamp shape sheet (Some c) = greatest_known (stamps_of shape sheet c)
