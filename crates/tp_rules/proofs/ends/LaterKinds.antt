-- What is sent at a delivery is of later kinds than what is delivered, in the order of the counts that a run's end goes by.
-- Used for the end of runs.
use Rattle.std.proofs.Common.{◌≡◌, ℕ, ◌<◌, List, [], ◌∷◌, Option, Some, None, refl, sym, subst, arith}
use Rattle.std.specs.Prelude.{◌==◌, ◌&&◌, not}
use Rattle.std.proofs.lemmas.Bool.{cond_both}
use Rattle.tp_base.specs.Lists.{Each, has}
use Rattle.tp_base.specs.Names.{same_id, same_name}
use Rattle.tp_base.specs.declared.names.ActorName.{ActorName}
use Rattle.tp_base.specs.declared.names.ActorName.TheVariants.{Process, Executor, Session}
use Rattle.tp_base.specs.declared.names.Site.{Site}
use Rattle.tp_rules.specs.Acts.{Act, Took, Client}
use Rattle.tp_rules.specs.Addresses.{rank_of, partition_of, is_name_of, is_body_at}
use Rattle.tp_rules.specs.Executor as executor
use Rattle.tp_rules.specs.Process as process
use Rattle.tp_rules.specs.Session as session
use Rattle.tp_rules.specs.Journal.{identity_in, client_of}
use Rattle.tp_rules.specs.Left.{place_of}
use Rattle.tp_rules.specs.Rules.{outputs_of}
use Rattle.tp_rules.specs.Sheet.{QuorumRule, ring_rule}
use Rattle.tp_script.specs.declared.script.Script.{Script}
use Rattle.tp_topology.specs.Shape.{Shape}
use Rattle.tp_wire.specs.declared.message.Body.{Body}
use Rattle.tp_wire.specs.declared.message.Body.TheVariants.{MSubmit, MPropose, MPayload, MProposeAck, MBump, MConsensus, MConsensusAck, MCommit, MRec, MRecAck, MPromises, MCommitted, MStable, MResult}
use Rattle.tp_wire.specs.declared.message.Message.{Message}
use Rattle.tp_rules.proofs.sent.SendsOfProcess.{EachSent, each_to, on_submit_sends, on_propose_sends, on_payload_sends, on_propose_ack_sends, on_consensus_sends, on_consensus_ack_sends, on_rec_sends, on_rec_ack_sends, on_commit_sends, on_announce_sends, with_room_sends}

-- of a later kind
abbrev pub IsAfter : ℕ → Message → Type 0
IsAfter k m = k < place_of m.body

row_sends_later : (s : QuorumRule) (me : Site) (from : ActorName) (body : Body) (state : process.ProcessState) →
    EachSent (IsAfter (place_of body)) (process.on_body s me from body state)
row_sends_later s me from (MSubmit c) state =
    on_submit_sends (IsAfter 3) me s c state (λ to t. omega arith) (λ to. omega arith) (λ to id t. omega arith)
row_sends_later s me from (MPropose c floor) state =
    on_propose_sends (IsAfter 4) me s from c floor.0 state (λ t. omega arith) (λ to id t. omega arith)
row_sends_later s me from (MPayload c) state = on_payload_sends (IsAfter 4) me c state
row_sends_later s me from (MProposeAck id t) state =
    on_propose_ack_sends (IsAfter 5) me s from id t.0 state (λ c to t e. omega arith) (λ c t e. omega arith) (λ c to t b e. omega arith)
row_sends_later s me from (MCommit c q t) state = on_commit_sends (IsAfter 8) me s c q.0 t.0 state (λ d t e. omega arith)
row_sends_later s me from (MBump id t) state = tt
row_sends_later s me from (MConsensus c t b) state = on_consensus_sends (IsAfter 6) me from c t.0 b state (omega arith)
row_sends_later s me from (MConsensusAck id b) state =
    on_consensus_ack_sends (IsAfter 7) me s from id b state (λ c to t e. omega arith) (λ c t e. omega arith)
row_sends_later s me from (MRec c b) state =
    on_rec_sends (IsAfter 3) me s from c b state (λ d t e. omega arith) (λ x a made. omega arith) (λ to id t. omega arith)
row_sends_later s me from (MRecAck id t made a b) state = on_rec_ack_sends (IsAfter 5) me s from id t.0 made a b state (λ c to t e. omega arith)
row_sends_later s me from (MPromises lo hi pairs) state = tt
row_sends_later s me from (MCommitted c t) state = tt
row_sends_later s me from (MStable id) state = tt
row_sends_later s me from (MResult id q answers) state = tt

pub process_sends_later : (s : QuorumRule) (me : Site) (m : Message) (state : process.ProcessState) →
    EachSent (IsAfter (place_of m.body)) (process.react s me (Took m) state)
process_sends_later s me m state =
    cond_both (same_name m.to (Process me) && is_name_of s.shape m.from && is_body_at s.shape me.partition.0 m.body)
    (process.with_room state (process.on_body s me m.from m.body state)) (state, []) (EachSent (IsAfter (place_of m.body)))
    (λ e. with_room_sends (IsAfter (place_of m.body)) me state (process.on_body s me m.from m.body state) (row_sends_later s me m.from m.body state))
    (λ e. tt)

pub announcement_is_later : (shape : Shape) (me : Site) (state : process.ProcessState) → EachSent (IsAfter 11) (process.on_announce shape me state)
announcement_is_later shape me state = on_announce_sends (IsAfter 11) me shape state (λ to lo hi pairs. omega arith)

-- executors and sessions send nothing at a delivery

executor_row_silent : (me : Site) (from : ActorName) (body : Body) (state : executor.ExecutorState) → (executor.on_body me from body state).1 ≡ []
executor_row_silent me from (MPromises lo hi pairs) state =
    let next : executor.ExecutorState = record state { told = record { rank = rank_of from; lo = lo; hi = hi; attached = pairs } ∷ state.told } in
    cond_both (partition_of from == me.partition.0) (next, []) (state, []) (λ (moved : executor.Step). moved.1 ≡ []) (λ e. refl) (λ e. refl)
executor_row_silent me from (MCommitted c t) state =
    let next : executor.ExecutorState =
    record state { committed = record { key = record { stamp = record { 0 = t.0 }; id = c.id }; command = c } ∷ state.committed } in
    cond_both (has same_id c.id (executor.committed_ids state)) (state, []) (next, []) (λ (moved : executor.Step). moved.1 ≡ []) (λ e. refl)
    (λ e. refl)
executor_row_silent me from (MSubmit c) state = refl
executor_row_silent me from (MPropose c floor) state = refl
executor_row_silent me from (MPayload c) state = refl
executor_row_silent me from (MProposeAck id t) state = refl
executor_row_silent me from (MCommit c q t) state = refl
executor_row_silent me from (MBump id t) state = refl
executor_row_silent me from (MConsensus c t b) state = refl
executor_row_silent me from (MConsensusAck id b) state = refl
executor_row_silent me from (MRec c b) state = refl
executor_row_silent me from (MRecAck id t made a b) state = refl
executor_row_silent me from (MStable id) state =
    let next : executor.ExecutorState = record state { heard = record { id = id; partition = partition_of from } ∷ state.heard } in
    cond_both (not (partition_of from == me.partition.0)) (next, []) (state, []) (λ (moved : executor.Step). moved.1 ≡ []) (λ e. refl) (λ e. refl)
executor_row_silent me from (MResult id q answers) state = refl

pub executor_silent : (shape : Shape) (me : Site) (m : Message) (state : executor.ExecutorState) → (executor.react shape me (Took m) state).1 ≡ []
executor_silent shape me m state =
    cond_both (same_name m.to (Executor me) && is_name_of shape m.from && is_body_at shape me.partition.0 m.body)
    (executor.on_body me m.from m.body state) (state, []) (λ (moved : executor.Step). moved.1 ≡ [])
    (λ e. executor_row_silent me m.from m.body state) (λ e. refl)

session_row_silent : (shape : Shape) (client : Client) (body : Body) (state : session.SessionState) → (session.on_body shape client body state).1 ≡ []
session_row_silent shape client (MResult id q answers) state = cond_both _ _ _ (λ (moved : session.Step). moved.1 ≡ []) (λ e. refl) (λ e. refl)
session_row_silent shape client (MSubmit c) state = refl
session_row_silent shape client (MPropose c floor) state = refl
session_row_silent shape client (MPayload c) state = refl
session_row_silent shape client (MProposeAck id t) state = refl
session_row_silent shape client (MCommit c q t) state = refl
session_row_silent shape client (MBump id t) state = refl
session_row_silent shape client (MConsensus c t b) state = refl
session_row_silent shape client (MConsensusAck id b) state = refl
session_row_silent shape client (MRec c b) state = refl
session_row_silent shape client (MRecAck id t made a b) state = refl
session_row_silent shape client (MPromises lo hi pairs) state = refl
session_row_silent shape client (MCommitted c t) state = refl
session_row_silent shape client (MStable id) state = refl

pub session_silent : (shape : Shape) (client : Client) (m : Message) (state : session.SessionState) →
    (session.react shape client (Took m) state).1 ≡ []
session_silent shape client m state =
    cond_both (same_name m.to (Session client.session) && is_name_of shape m.from && is_body_at shape 0 m.body)
    (session.on_body shape client m.body state) (state, []) (λ (moved : session.Step). moved.1 ≡ [])
    (λ e. session_row_silent shape client m.body state) (λ e. refl)

-- an execution sends results
pub results_are_later : (shape : Shape) (me : Site) (state : executor.ExecutorState) → Each (IsAfter 15) (executor.on_execute shape me state).1
results_are_later shape me state = of_least (executor.least (executor.waiting state))
  where
    of_least : (o : Option executor.Committed) → Each (IsAfter 15) (executor.execute_least shape me o state).1
    of_least None = tt
    of_least (Some c) = (omega arith, tt)

-- a declaration sends what it declares
pub declarations_are_later : (shape : Shape) (me : Site) (state : executor.ExecutorState) → Each (IsAfter 13) (executor.on_declare shape me state).1
unfolding executor.declarations
declarations_are_later shape me state = of_least (executor.least (executor.waiting state))
  where
    of_least : (o : Option executor.Committed) → Each (IsAfter 13) (executor.declare_least shape me o state).1
    of_least None = tt
    of_least (Some c) = each_to (IsAfter 13) (Executor me) _ (MStable c.command.id) (λ to. omega arith)

-- at a delivery to any actor
pub sends_later : (script : Script) (actor : ActorName) (before : List Act) (m : Message) →
    Each (IsAfter (place_of m.body)) (outputs_of (identity_in script actor) before (Took m))
sends_later script (Process s) before m =
    process_sends_later (ring_rule script.topology) s m (process.state_after (ring_rule script.topology) s before)
sends_later script (Executor s) before m =
    subst (Each (IsAfter (place_of m.body))) (sym (executor_silent script.topology s m (executor.state_after script.topology s before))) tt
sends_later script (Session s) before m =
    subst (Each (IsAfter (place_of m.body)))
    (sym (session_silent script.topology (client_of script s) m (session.state_after script.topology (client_of script s) before))) tt
