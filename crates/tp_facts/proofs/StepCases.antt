-- What one step does, by cases with facts in the place of tests: to the sheet of one command, and to the process.
-- Each proof about what processes keep and send goes by these cases.
use Rattle.std.proofs.Common.{◌≡◌, ℕ, ◌<◌, ◌≤◌, true, false, List, [], ◌∷◌, ◌++◌, length, Some, None}
use Rattle.std.specs.Prelude.{is_none, is_some, cond}
use Rattle.tp_base.specs.Names.{same_id}
use Rattle.tp_base.specs.declared.names.ActorName.TheVariants.{Process, Executor}
use Rattle.tp_base.specs.declared.names.CommandId.{CommandId}
use Rattle.tp_base.specs.declared.names.Made.{Made}
use Rattle.tp_base.specs.declared.names.Made.TheVariants.{Proposal, Recovery}
use Rattle.tp_base.specs.declared.names.Site.{Site}
use Rattle.tp_choice.specs.Choosing.{recovery_choice}
use Rattle.tp_choice.specs.declared.answer.RecoveryAnswer.{RecoveryAnswer}
use Rattle.tp_ops.specs.declared.command.Command.{Command}
use Rattle.tp_paxos.specs.Votes.{PutStamp, count_votes, voted_too}
use Rattle.tp_quorum.specs.Choice.{present, greatest, is_fast}
use Rattle.tp_rules.proofs.sent.SendsOfProcess.{stamp}
use Rattle.tp_rules.specs.Acts.{Act, Took, Did}
use Rattle.tp_rules.specs.Addresses.{message, rank_of}
use Rattle.tp_rules.specs.Process.{Step, ProcessState, announced, answer, asked, bumps, commit_messages, proposals, put_to_vote, commit_reply}
use Rattle.tp_rules.specs.Sheet.{QuorumRule, Sheet, acknowledged, command_or, final_stamp, is_full, with_command, putting, stamp_of, trying, with_accepted, with_answer, with_ballot, with_proposal, with_stamp}
use Rattle.tp_rules.specs.declared.event.Inner.TheVariants.{Recover}
use Rattle.tp_topology.specs.Ballots.{next_ballot}
use Rattle.tp_topology.specs.Shape.{Shape, recovery_size, slow_size}
use Rattle.tp_wire.specs.declared.message.Body.TheVariants.{MSubmit, MPropose, MPayload, MProposeAck, MConsensus, MConsensusAck, MCommit, MRec, MRecAck, MCommitted}
use Rattle.tp_wire.specs.declared.message.Message.{Message}
use Rattle.tp_facts.proofs.RuleTests.{CanAcknowledge, CanAnswer}

-- what is told to the site's executor: nothing, or the command's final stamp
pub data IsFinal (shape : Shape) (me : Site) (sheet : Sheet) : List Message → Type 0 where
  untold : IsFinal shape me sheet []
  final : (c : Command) (t : ℕ) → sheet.command ≡ Some c → final_stamp shape sheet (Some c) ≡ Some t
      → IsFinal shape me sheet (message (Process me) (Executor me) (MCommitted c (stamp t)) ∷ [])

-- an answer of a recovery, as it is counted
abbrev pub recovery_answer : Message → ℕ → Made → ℕ → RecoveryAnswer
recovery_answer m t made a = record {
  rank = record { 0 = rank_of m.from };
  stamp = record { 0 = t };
  made = made;
  accepted = a;
}

abbrev pub with_recovery_answer : Message → ℕ → Made → ℕ → Sheet → Sheet
with_recovery_answer m t made a sheet = with_answer (recovery_answer m t made a) sheet

-- the stamp that a recovery puts
abbrev pub chosen_stamp : QuorumRule → Command → Sheet → ℕ
chosen_stamp s c sheet = recovery_choice (s.in_quorum c) c.home.0 (present sheet.answers)

-- an acknowledgement, as it is counted
abbrev pub with_acknowledgement : Message → ℕ → Sheet → Sheet
with_acknowledgement m t sheet = acknowledged (rank_of m.from) t sheet

-- the stamp that the fast path decides or puts
abbrev pub greatest_acknowledged : Sheet → ℕ
greatest_acknowledged sheet = greatest (present sheet.acknowledged)

-- a sheet that puts a stamp
abbrev pub having : PutStamp → Sheet → Sheet
having put sheet = record sheet { put = Some put }

-- what one step does to the sheet of one command, and what it sends
pub data SheetStep (s : QuorumRule) (me : Site) : Act → CommandId → Sheet → Sheet → List Message → Type 0 where
  -- the home proposes a command that a session submitted
  submits : {m : Message} {old : Sheet} (c : Command) (t : ℕ) → m.body ≡ MSubmit c → c.home.0 ≡ me.rank.0
      → old.proposal ≡ None
      → SheetStep s me (Took m) c.id old (with_proposal t Proposal (with_command c old))
      (proposals s me c t ++ bumps s.shape me (command_or c old) t)
  -- and counts its own proposal as an acknowledgement
  submits_and_acknowledges : {m : Message} {old : Sheet} (c : Command) (t : ℕ) → m.body ≡ MSubmit c
      → c.home.0 ≡ me.rank.0 → old.proposal ≡ None
      → CanAcknowledge s me.partition.0 me.rank.0 me.rank.0 (with_proposal t Proposal (with_command c old))
      → SheetStep s me (Took m) c.id old (acknowledged me.rank.0 t (with_proposal t Proposal (with_command c old)))
      (proposals s me c t ++ bumps s.shape me (command_or c old) t)
  -- a member of the fast quorum proposes no less than the home's stamp, and acknowledges
  proposes : {m : Message} {old : Sheet} (c : Command) (floor t : ℕ) → m.body ≡ MPropose c (stamp floor) → floor ≤ t
      → old.proposal ≡ None
      → SheetStep s me (Took m) c.id old (with_proposal t Proposal (with_command c old))
      (message (Process me) m.from (MProposeAck c.id (stamp t)) ∷ bumps s.shape me (command_or c old) t)
  -- a process outside of the fast quorum keeps the command
  keeps_payload : {m : Message} {old : Sheet} (c : Command) → m.body ≡ MPayload c
      → SheetStep s me (Took m) c.id old (with_command c old) []
  -- the fast quorum is not full yet
  counts_acknowledgement : {m : Message} {old : Sheet} (id : CommandId) (t : ℕ) → m.body ≡ MProposeAck id (stamp t)
      → CanAcknowledge s me.partition.0 me.rank.0 (rank_of m.from) old
      → is_full s.shape (with_acknowledgement m t old) ≡ false
      → SheetStep s me (Took m) id old (with_acknowledgement m t old) []
  -- the fast quorum is full, and enough of it proposed the greatest stamp
  decides_fast : {m : Message} {old : Sheet} {out : List Message} (id : CommandId) (t : ℕ)
      → m.body ≡ MProposeAck id (stamp t) → CanAcknowledge s me.partition.0 me.rank.0 (rank_of m.from) old
      → is_full s.shape (with_acknowledgement m t old) ≡ true
      → is_fast s.shape (present (with_acknowledgement m t old).acknowledged) ≡ true
      → IsFinal s.shape me
      (with_stamp me.partition.0 (greatest_acknowledged (with_acknowledgement m t old))
      (with_acknowledgement m t old)) out
      → SheetStep s me (Took m) id old
      (with_stamp me.partition.0 (greatest_acknowledged (with_acknowledgement m t old))
      (with_acknowledgement m t old))
      (commit_messages s.shape me old.command (greatest_acknowledged (with_acknowledgement m t old)) ++ out)
  -- the fast quorum is full, but too few proposed the greatest stamp: it is put to the vote
  puts_slow : {m : Message} {old : Sheet} (id : CommandId) (t : ℕ) → m.body ≡ MProposeAck id (stamp t)
      → CanAcknowledge s me.partition.0 me.rank.0 (rank_of m.from) old
      → is_full s.shape (with_acknowledgement m t old) ≡ true
      → is_fast s.shape (present (with_acknowledgement m t old).acknowledged) ≡ false
      → SheetStep s me (Took m) id old
      (putting s.shape me.rank.0 (greatest_acknowledged (with_acknowledgement m t old))
      (with_acknowledgement m t old))
      (put_to_vote s.shape me me.rank.0 (greatest_acknowledged (with_acknowledgement m t old)) old.command)
  -- a stamp that was put is accepted
  accepts : {m : Message} {old : Sheet} (c : Command) (t b : ℕ) → m.body ≡ MConsensus c (stamp t) b
      → stamp_of old me.partition.0 ≡ None → old.ballot ≤ b
      → SheetStep s me (Took m) c.id old (with_accepted b t (with_command c old))
      (message (Process me) m.from (MConsensusAck c.id b) ∷ [])
  -- too few have voted yet
  counts_vote : {m : Message} (old : Sheet) (id : CommandId) (put : PutStamp) → m.body ≡ MConsensusAck id put.ballot
      → stamp_of old me.partition.0 ≡ None
      → SheetStep s me (Took m) id (having put old) (having (voted_too (rank_of m.from) put) old) []
  -- enough have voted for the stamp that was put
  decides_by_votes : {m : Message} {out : List Message} (old : Sheet) (id : CommandId) (put : PutStamp)
      → m.body ≡ MConsensusAck id put.ballot → stamp_of old me.partition.0 ≡ None
      → slow_size s.shape ≤ count_votes (voted_too (rank_of m.from) put).votes
      → IsFinal s.shape me (with_stamp me.partition.0 put.stamp (having (voted_too (rank_of m.from) put) old)) out
      → SheetStep s me (Took m) id (having put old)
      (with_stamp me.partition.0 put.stamp (having (voted_too (rank_of m.from) put) old))
      (commit_messages s.shape me old.command put.stamp ++ out)
  -- a commit of a partition whose stamp is known
  knows_already : {m : Message} {old : Sheet} (c : Command) (q t : ℕ) → m.body ≡ MCommit c (record { 0 = q }) (stamp t)
      → SheetStep s me (Took m) c.id old (with_command c old) []
  -- a commit of a partition whose stamp was not known
  learns : {m : Message} {old : Sheet} {out : List Message} (c : Command) (q t : ℕ)
      → m.body ≡ MCommit c (record { 0 = q }) (stamp t) → stamp_of old q ≡ None
      → IsFinal s.shape me (with_stamp q t (with_command c old)) out
      → SheetStep s me (Took m) c.id old (with_stamp q t (with_command c old)) out
  -- a recovery reaches a process that has nothing of the command
  proposes_and_answers_recovery : {m : Message} {old : Sheet} (c : Command) (b t : ℕ) → m.body ≡ MRec c b
      → stamp_of old me.partition.0 ≡ None → old.ballot < b
      → old.proposal ≡ None → old.ballot ≡ 0
      → SheetStep s me (Took m) c.id old (with_ballot b (with_proposal t Recovery (with_command c old)))
      (answer me m.from c.id b (with_ballot b (with_proposal t Recovery (with_command c old))) ∷ bumps s.shape me
      (command_or c old) t)
  -- a recovery reaches a process that has proposed or joined a ballot before
  answers_recovery : {m : Message} {old : Sheet} (c : Command) (b : ℕ) → m.body ≡ MRec c b
      → stamp_of old me.partition.0 ≡ None → old.ballot < b
      → (old.ballot ≡ 0 → is_none old.proposal ≡ false)
      → SheetStep s me (Took m) c.id old (with_ballot b (with_command c old))
      (answer me m.from c.id b (with_ballot b (with_command c old)) ∷ [])
  -- too few have answered yet
  counts_answer : {m : Message} {old : Sheet} (id : CommandId) (t : ℕ) (made : Made) (a b : ℕ)
      → m.body ≡ MRecAck id (stamp t) made a b → CanAnswer me.partition.0 b (rank_of m.from) old
      → SheetStep s me (Took m) id old (with_recovery_answer m t made a old) []
  -- enough have answered: the stamp chosen from their answers is put to the vote
  puts_recovered : {m : Message} {old : Sheet} (id : CommandId) (t : ℕ) (made : Made) (a b : ℕ) (c : Command)
      → m.body ≡ MRecAck id (stamp t) made a b → CanAnswer me.partition.0 b (rank_of m.from) old
      → old.command ≡ Some c → length (present (with_recovery_answer m t made a old).answers) ≡ recovery_size s.shape
      → SheetStep s me (Took m) id old
      (putting s.shape b (chosen_stamp s c (with_recovery_answer m t made a old))
      (with_recovery_answer m t made a old))
      (put_to_vote s.shape me b (chosen_stamp s c (with_recovery_answer m t made a old)) (Some c))
  -- a process begins to recover a command at a ballot of its own
  starts_recovery : {old : Sheet} (id : CommandId) → is_some old.command ≡ true → stamp_of old me.partition.0 ≡ None
      → SheetStep s me (Did (Recover id)) id old
      (trying s.shape (next_ballot s.shape me.rank.0 old.ballot old.tried) old)
      (asked s.shape me (next_ballot s.shape me.rank.0 old.ballot old.tried) old.command)

-- what one step does to the process, and what it sends
pub data ProcessStep (s : QuorumRule) (me : Site) (act : Act) (state : ProcessState) : Step → Type 0 where
  does_nothing : ProcessStep s me act state (state, [])
  bumps_clock : (clock : ℕ) → state.clock ≤ clock
      → ProcessStep s me act state
      (record { clock = clock; told = state.told; attached = state.attached; sheets = state.sheets }, [])
  -- it announces the promises that were not told yet
  announces : ProcessStep s me act state (
    record {
      clock = state.clock;
      told = state.clock;
      attached = state.attached;
      sheets = state.sheets;
    },
    announced s.shape me state,
  )
  -- a recovery asks for a stamp that the process knows
  passes_commit_on : {m : Message} (c : Command) (b t : ℕ) → act ≡ Took m → m.body ≡ MRec c b
      → stamp_of (state.sheets c.id) me.partition.0 ≡ Some t
      → ProcessStep s me act state (state, commit_reply me m.from (state.sheets c.id).command t)
  -- it changes one sheet, without a proposal
  changes_sheet : {id : CommandId} {new : Sheet} {out : List Message} (clock : ℕ) → state.clock ≤ clock
      → SheetStep s me act id (state.sheets id) new out
      → new.proposal ≡ (state.sheets id).proposal
      → ProcessStep s me act state (
        record {
          clock = clock;
          told = state.told;
          attached = state.attached;
          sheets = λ other. cond (same_id id other) new (state.sheets other);
        },
        out,
      )
  -- it proposes a stamp above its clock, which attaches that promise to the command
  attaches_proposal : {id : CommandId} {new : Sheet} {out : List Message} (t : ℕ) (made : Made) → state.clock < t
      → SheetStep s me act id (state.sheets id) new out
      → (state.sheets id).proposal ≡ None → new.proposal ≡ Some (record { stamp = t; made = made })
      → ProcessStep s me act state (
        record {
          clock = t;
          told = state.told;
          attached = record { id = id; stamp = record { 0 = t } } ∷ state.attached;
          sheets = λ other. cond (same_id id other) new (state.sheets other);
        },
        out,
      )
