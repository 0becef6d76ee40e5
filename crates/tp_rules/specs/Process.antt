-- The rules of a process: what each message and each step of its own changes and sends.
use Rattle.std.specs.Prelude.{ℕ, ◌-◌, ◌==◌, ◌&&◌, nat_lt, not, Bool, cond, List, [], ◌∷◌, ◌++◌, Option, Some, None, is_none, is_some, map, filter, reverse}
use Rattle.std.specs.List.{flat_map}
use Rattle.tp_base.specs.Limits.{STAMP_LIMIT}
use Rattle.tp_base.specs.Names.{same_id, same_name}
use Rattle.tp_base.specs.Promises.{proposed_stamp, bumped_clock}
use Rattle.tp_base.specs.declared.names.ActorName.{ActorName}
use Rattle.tp_base.specs.declared.names.ActorName.TheVariants.{Process, Executor}
use Rattle.tp_base.specs.declared.names.CommandId.{CommandId}
use Rattle.tp_base.specs.declared.names.Made.{Made}
use Rattle.tp_base.specs.declared.names.Made.TheVariants.{Proposal, Recovery}
use Rattle.tp_base.specs.declared.names.Pair.{Pair}
use Rattle.tp_base.specs.declared.names.Site.{Site}
use Rattle.tp_choice.specs.Choosing.{recovery_choice}
use Rattle.tp_choice.specs.declared.answer.RecoveryAnswer.{RecoveryAnswer}
use Rattle.tp_ops.specs.declared.command.Command.{Command}
use Rattle.tp_ops.specs.Parts.{is_accessed}
use Rattle.tp_quorum.specs.Choice.{present, fast_choice}
use Rattle.tp_quorum.specs.declared.choice.FastChoice.{FastChoice}
use Rattle.tp_quorum.specs.declared.choice.FastChoice.TheVariants.{Fast, Slow}
use Rattle.tp_rules.specs.Acts.{Act, Took, Did}
use Rattle.tp_rules.specs.Addresses.{site, message, to_each, others_accessed, accessed, processes_of, executors_of, rank_of, is_name_of, is_body_at}
use Rattle.tp_rules.specs.Sheet.{Sheet, QuorumRule, blank, stamp_of, is_fresh, command_or, with_command, with_proposal, can_acknowledge, acknowledged, acknowledged_own, is_full, putting, can_accept, with_accepted, can_vote, with_vote, stamp_decided, made_of, stamp_told, is_untouched, with_ballot, trying, can_answer, with_answer, is_recovered, with_stamp, final_stamp}
use Rattle.tp_rules.specs.declared.event.Inner.{Inner}
use Rattle.tp_rules.specs.declared.event.Inner.TheVariants.{Announce, Recover}
use Rattle.tp_topology.specs.Ballots.{next_ballot}
use Rattle.tp_topology.specs.Counting.{up_to}
use Rattle.tp_topology.specs.Shape.{Shape}
use Rattle.tp_wire.specs.declared.message.Body.{Body}
use Rattle.tp_wire.specs.declared.message.Body.TheVariants.{MSubmit, MPropose, MPayload, MProposeAck, MBump, MConsensus, MConsensusAck, MCommit, MRec, MRecAck, MPromises, MCommitted}
use Rattle.tp_wire.specs.declared.message.Message.{Message}

-- each number up to the clock is promised: to the command that it is attached to, or detached.
-- The numbers up to `told` were announced. The newest attached promise stands first
pub record ProcessState : Type 0 where
  pub clock : ℕ
  pub told : ℕ
  pub attached : List Pair
  pub sheets : CommandId → Sheet

abbrev pub start : Shape → ProcessState
start shape = record { clock = 0; told = 0; attached = []; sheets = λ id. blank shape }

-- the new state, and what is sent
abbrev pub Step : Type 0
Step = ProcessState × List Message

abbrev pub with_sheet : CommandId → Sheet → ProcessState → ProcessState
with_sheet id sheet state = record state { sheets = λ other. cond (same_id id other) sheet (state.sheets other) }

-- Propose: the stamp of a proposal of at least `floor`
abbrev pub next_stamp : ℕ → ProcessState → ℕ
next_stamp floor state = proposed_stamp floor state.clock

-- Propose: the stamp becomes the clock, and is attached to the command; the numbers below it are detached
abbrev pub proposing : CommandId → ℕ → Sheet → ProcessState → ProcessState
proposing id t sheet state =
    record (with_sheet id sheet state) { clock = t; attached = record { id = id; stamp = record { 0 = t } } ∷ state.attached }

-- Tell bumps: the proposal, to the process of the same rank in each other accessed partition
unfoldable pub bumps : Shape → Site → Command → ℕ → List Message
bumps shape me c t =
    to_each (Process me) (map (λ q. Process (site q me.rank.0)) (others_accessed shape c me.partition.0)) (MBump c.id (record { 0 = t }))

-- Bump: the numbers above the clock up to t become detached promises
abbrev pub bumped : ℕ → ProcessState → ProcessState
bumped t state = record state { clock = bumped_clock t state.clock }

-- Learn: the final stamp is told to the site's executor
abbrev pub finished : Site → CommandId → Sheet → Option Command → Option ℕ → ProcessState → Step
finished me id sheet (Some c) (Some t) state =
    (bumped t (with_sheet id sheet state), message (Process me) (Executor me) (MCommitted c (record { 0 = t })) ∷ [])
finished me id sheet _ _ state = (with_sheet id sheet state, [])

-- Learn: a partition's stamp becomes known, where it was not
abbrev pub learned : Shape → Site → CommandId → ℕ → ℕ → Sheet → ProcessState → Step
learned shape me id q t sheet state = cond (is_some (stamp_of sheet q))
    (with_sheet id sheet state, [])
    (let known = with_stamp q t sheet in finished me id known known.command (final_stamp shape known known.command) state)

-- Decide: the partition's stamp is told to every other process of all accessed partitions
unfoldable pub commit_messages : Shape → Site → Option Command → ℕ → List Message
commit_messages shape me None t = []
commit_messages shape me (Some c) t =
    to_each (Process me) (filter (λ to. not (same_name to (Process me))) (flat_map (processes_of shape) (accessed shape c)))
    (MCommit c me.partition (record { 0 = t }))

-- Decide: then it is learned here
abbrev pub decided : Shape → Site → CommandId → ℕ → Sheet → ProcessState → Step
decided shape me id t sheet state =
    let moved = learned shape me id me.partition.0 t sheet state in
    (moved.0, commit_messages shape me sheet.command t ++ moved.1)

-- a stamp is put to the vote of all ranks, at a ballot
abbrev pub put_to_vote : Shape → Site → ℕ → ℕ → Option Command → List Message
put_to_vote shape me b t None = []
put_to_vote shape me b t (Some c) = to_each (Process me) (processes_of shape me.partition.0) (MConsensus c (record { 0 = t }) b)

-- MSubmit: to each other rank, MPropose where it is of the fast quorum, else MPayload
unfoldable pub proposals : QuorumRule → Site → Command → ℕ → List Message
proposals s me c t = map
    (λ rank. message (Process me) (Process (site me.partition.0 rank)) (cond (s.in_quorum c rank) (MPropose c (record { 0 = t })) (MPayload c)))
    (filter (λ rank. not (rank == me.rank.0)) (up_to s.shape.replicas))

abbrev pub submitted : QuorumRule → Site → Command → ℕ → Sheet → ProcessState → Step
submitted s me c t sheet state = (
  proposing c.id t (acknowledged_own s me.partition.0 me.rank.0 t (with_proposal t Proposal (with_command c sheet))) state,
  proposals s me c t ++ bumps s.shape me (command_or c sheet) t,
)

-- MSubmit(c), where c's home is here and c is fresh
abbrev pub on_submit : QuorumRule → Site → Command → ProcessState → Step
on_submit s me c state = cond ((c.home.0 == me.rank.0) && is_fresh me.partition.0 (state.sheets c.id))
    (submitted s me c (next_stamp 0 state) (state.sheets c.id) state)
    (state, [])

abbrev pub propose_and_acknowledge : QuorumRule → Site → ActorName → Command → ℕ → Sheet → ProcessState → Step
propose_and_acknowledge s me from c t sheet state = (
  proposing c.id t (with_proposal t Proposal (with_command c sheet)) state,
  message (Process me) from (MProposeAck c.id (record { 0 = t })) ∷ bumps s.shape me (command_or c sheet) t,
)

-- MPropose(c, floor), where c is fresh
abbrev pub on_propose : QuorumRule → Site → ActorName → Command → ℕ → ProcessState → Step
on_propose s me from c floor state = cond (is_fresh me.partition.0 (state.sheets c.id))
    (propose_and_acknowledge s me from c (next_stamp floor state) (state.sheets c.id) state)
    (state, [])

-- MPayload(c)
abbrev pub on_payload : Command → ProcessState → Step
on_payload c state = (with_sheet c.id (with_command c (state.sheets c.id)) state, [])

abbrev pub follow_choice : QuorumRule → Site → CommandId → FastChoice → Sheet → ProcessState → Step
follow_choice s me id (Fast t) sheet state = decided s.shape me id t.0 sheet state
follow_choice s me id (Slow t) sheet state =
    (with_sheet id (putting s.shape me.rank.0 t.0 sheet) state, put_to_vote s.shape me me.rank.0 t.0 sheet.command)

-- where the whole fast quorum has acknowledged, its choice is decided or put to the vote
abbrev pub conclude_fast_path : QuorumRule → Site → CommandId → Sheet → ProcessState → Step
conclude_fast_path s me id sheet state = cond (is_full s.shape sheet)
    (follow_choice s me id (fast_choice s.shape (present sheet.acknowledged)) sheet state)
    (with_sheet id sheet state, [])

-- MProposeAck(id, t) from a rank, where it can be acknowledged
abbrev pub on_propose_ack : QuorumRule → Site → ActorName → CommandId → ℕ → ProcessState → Step
on_propose_ack s me from id t state = cond (can_acknowledge s me.partition.0 me.rank.0 (rank_of from) (state.sheets id))
    (conclude_fast_path s me id (acknowledged (rank_of from) t (state.sheets id)) state)
    (state, [])

-- MBump(id, t)
abbrev pub on_bump : ℕ → ProcessState → Step
on_bump t state = (bumped t state, [])

abbrev pub accept_and_vote : Site → ActorName → Command → ℕ → ℕ → Sheet → ProcessState → Step
accept_and_vote me from c t b sheet state = (
  bumped t (with_sheet c.id (with_accepted b t (with_command c sheet)) state),
  message (Process me) from (MConsensusAck c.id b) ∷ [],
)

-- MConsensus(c, t, b), where b can be accepted at, and is below the limit
abbrev pub on_consensus : Site → ActorName → Command → ℕ → ℕ → ProcessState → Step
on_consensus me from c t b state = cond (can_accept me.partition.0 b (state.sheets c.id) && nat_lt b STAMP_LIMIT)
    (accept_and_vote me from c t b (state.sheets c.id) state)
    (state, [])

-- where a consensus quorum has voted, the stamp that is put is decided
abbrev pub voted : QuorumRule → Site → CommandId → Option ℕ → Sheet → ProcessState → Step
voted s me id None sheet state = (with_sheet id sheet state, [])
voted s me id (Some t) sheet state = decided s.shape me id t sheet state

-- MConsensusAck(id, b) from a rank, where its vote counts
abbrev pub on_consensus_ack : QuorumRule → Site → ActorName → CommandId → ℕ → ProcessState → Step
on_consensus_ack s me from id b state = cond (can_vote me.partition.0 b (state.sheets id))
    (let sheet = with_vote (rank_of from) (state.sheets id) in voted s me id (stamp_decided s.shape sheet) sheet state)
    (state, [])

-- MCommit(c, q, t), where c accesses q
abbrev pub on_commit : QuorumRule → Site → Command → ℕ → ℕ → ProcessState → Step
on_commit s me c q t state = cond (is_accessed s.shape.partitions c q)
    (learned s.shape me c.id q t (with_command c (state.sheets c.id)) state)
    (state, [])

-- MRec, where the partition's stamp is known: it is told to the sender
abbrev pub commit_reply : Site → ActorName → Option Command → ℕ → List Message
commit_reply me from None t = []
commit_reply me from (Some c) t = message (Process me) from (MCommit c me.partition (record { 0 = t })) ∷ []

abbrev pub answer : Site → ActorName → CommandId → ℕ → Sheet → Message
answer me from id b sheet = message (Process me) from (MRecAck id (record { 0 = stamp_told sheet }) (made_of sheet.proposal) sheet.accepted_ballot b)

-- MRec, where a proposal is made first
abbrev pub propose_and_answer : QuorumRule → Site → ActorName → Command → ℕ → ℕ → Sheet → ProcessState → Step
propose_and_answer s me from c b t sheet state =
    let new = with_ballot b (with_proposal t Recovery (with_command c sheet)) in
    (proposing c.id t new state, answer me from c.id b new ∷ bumps s.shape me (command_or c sheet) t)

abbrev pub answer_with_old_proposal : Site → ActorName → Command → ℕ → Sheet → ProcessState → Step
answer_with_old_proposal me from c b sheet state =
    let new = with_ballot b (with_command c sheet) in
    (with_sheet c.id new state, answer me from c.id b new ∷ [])

abbrev pub answer_recovery : QuorumRule → Site → ActorName → Command → ℕ → Sheet → ProcessState → Step
answer_recovery s me from c b sheet state = cond (is_untouched sheet)
    (propose_and_answer s me from c b (next_stamp 0 state) sheet state)
    (answer_with_old_proposal me from c b sheet state)

abbrev pub on_rec_by_stamp : QuorumRule → Site → ActorName → Command → ℕ → Option ℕ → ProcessState → Step
on_rec_by_stamp s me from c b (Some t) state = (state, commit_reply me from (state.sheets c.id).command t)
on_rec_by_stamp s me from c b None state = cond (nat_lt (state.sheets c.id).ballot b && nat_lt b STAMP_LIMIT)
    (answer_recovery s me from c b (state.sheets c.id) state)
    (state, [])

-- MRec(c, b): by whether the partition's stamp is known, and where it isn't, the ballot is below b and b is below the limit
abbrev pub on_rec : QuorumRule → Site → ActorName → Command → ℕ → ProcessState → Step
on_rec s me from c b state = on_rec_by_stamp s me from c b (stamp_of (state.sheets c.id) me.partition.0) state

-- the stamp that the answers lead to is put to the vote
abbrev pub put_recovered : QuorumRule → Site → CommandId → ℕ → Option Command → Sheet → ProcessState → Step
put_recovered s me id b None sheet state = (with_sheet id sheet state, [])
put_recovered s me id b (Some c) sheet state =
    let t = recovery_choice (s.in_quorum c) c.home.0 (present sheet.answers) in
    (with_sheet id (putting s.shape b t sheet) state, put_to_vote s.shape me b t (Some c))

abbrev pub recovered : QuorumRule → Site → CommandId → ℕ → Sheet → ProcessState → Step
recovered s me id b sheet state = cond (is_recovered s.shape sheet)
    (put_recovered s me id b sheet.command sheet state)
    (with_sheet id sheet state, [])

-- MRecAck(id, t, made, a, b) from a rank, where its answer is taken
abbrev pub on_rec_ack : QuorumRule → Site → ActorName → CommandId → ℕ → Made → ℕ → ℕ → ProcessState → Step
on_rec_ack s me from id t made a b state =
    let new : RecoveryAnswer = record { rank = record { 0 = rank_of from }; stamp = record { 0 = t }; made = made; accepted = a } in
    cond (can_answer me.partition.0 b (rank_of from) (state.sheets id))
    (recovered s me id b (with_answer new (state.sheets id)) state)
    (state, [])

-- the attached promises above those told, ascending
abbrev pub untold : ProcessState → List Pair
untold state = reverse (filter (λ pair. nat_lt state.told pair.stamp.0) state.attached)

-- Announce, where the clock is above what was told
unfoldable pub announced : Shape → Site → ProcessState → List Message
announced shape me state =
    to_each (Process me) (executors_of shape me.partition.0) (MPromises state.told state.clock (untold state))

abbrev pub on_announce : Shape → Site → ProcessState → Step
on_announce shape me state = cond (nat_lt state.told state.clock)
    (record state { told = state.clock }, announced shape me state)
    (state, [])

-- Recover, at a ballot: all ranks are asked
abbrev pub asked : Shape → Site → ℕ → Option Command → List Message
asked shape me b None = []
asked shape me b (Some c) = to_each (Process me) (processes_of shape me.partition.0) (MRec c b)

abbrev pub recovering : Shape → Site → CommandId → ℕ → Sheet → ProcessState → Step
recovering shape me id b sheet state = (with_sheet id (trying shape b sheet) state, asked shape me b sheet.command)

-- whether a next ballot of a sheet has room
abbrev pub has_next : Sheet → Bool
has_next sheet = nat_lt sheet.ballot (STAMP_LIMIT - 8) && nat_lt sheet.tried (STAMP_LIMIT - 8)

-- Recover(id), where the command is kept and the partition's stamp isn't known
abbrev pub on_recover : Shape → Site → CommandId → ProcessState → Step
on_recover shape me id state =
    let sheet = state.sheets id in
    cond (is_some sheet.command && is_none (stamp_of sheet me.partition.0) && has_next sheet)
    (recovering shape me id (next_ballot shape me.rank.0 sheet.ballot sheet.tried) sheet state)
    (state, [])

-- the rule of each kind of message
abbrev pub on_body : QuorumRule → Site → ActorName → Body → ProcessState → Step
on_body s me from (MSubmit c) state = on_submit s me c state
on_body s me from (MPropose c floor) state = on_propose s me from c floor.0 state
on_body s me from (MPayload c) state = on_payload c state
on_body s me from (MProposeAck id t) state = on_propose_ack s me from id t.0 state
on_body s me from (MBump id t) state = on_bump t.0 state
on_body s me from (MConsensus c t b) state = on_consensus me from c t.0 b state
on_body s me from (MConsensusAck id b) state = on_consensus_ack s me from id b state
on_body s me from (MCommit c q t) state = on_commit s me c q.0 t.0 state
on_body s me from (MRec c b) state = on_rec s me from c b state
on_body s me from (MRecAck id t made a b) state = on_rec_ack s me from id t.0 made a b state
on_body s me from _ state = (state, [])

-- a step that would bring the clock to the limit changes nothing and sends nothing
abbrev pub with_room : ProcessState → Step → Step
with_room state moved = cond (nat_lt moved.0.clock STAMP_LIMIT) moved (state, [])

-- a message to another actor, or that names what is outside the shape, changes nothing and sends nothing
abbrev pub on_message : QuorumRule → Site → Message → ProcessState → Step
on_message s me m state =
    cond (same_name m.to (Process me) && is_name_of s.shape m.from && is_body_at s.shape me.partition.0 m.body)
    (with_room state (on_body s me m.from m.body state))
    (state, [])

abbrev pub on_inner : QuorumRule → Site → Inner → ProcessState → Step
on_inner s me Announce state = on_announce s.shape me state
on_inner s me (Recover id) state = on_recover s.shape me id state
on_inner s me _ state = (state, [])

abbrev pub react : QuorumRule → Site → Act → ProcessState → Step
react s me (Took m) state = on_message s me m state
react s me (Did inner) state = on_inner s me inner state

-- after a list of acts, the newest first
abbrev pub state_after : QuorumRule → Site → List Act → ProcessState
state_after s me [] = start s.shape
state_after s me (act ∷ before) = (react s me act (state_after s me before)).0

-- the step of its own that a process may make
abbrev pub enabled : ProcessState → Option Inner
enabled state = cond (nat_lt state.told state.clock) (Some Announce) None
