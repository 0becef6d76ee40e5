-- How many messages one act sends, at most: 63, for each shape. Used for the end of runs.
use Rattle.std.proofs.Common.{◌≡◌, ℕ, ◌*◌, ◌≤◌, List, [], Option, Some, None, length, map, cond, ap, ◌∙◌, arith}
use Rattle.std.specs.Prelude.{filter, ◌==◌, ◌&&◌, nat_lt, not, is_none, is_some}
use Rattle.std.specs.List.{flat_map}
use Rattle.std.proofs.lemmas.Bool.{cond_both}
use Rattle.std.proofs.lemmas.List.{length-append}
use Rattle.tp_base.specs.Limits.{STAMP_LIMIT}
use Rattle.tp_base.specs.Names.{same_name}
use Rattle.tp_base.specs.Tables.{nth}
use Rattle.tp_base.specs.declared.names.ActorName.{ActorName}
use Rattle.tp_base.specs.declared.names.ActorName.TheVariants.{Process, Executor, Session}
use Rattle.tp_base.specs.declared.names.CommandId.{CommandId}
use Rattle.tp_base.specs.declared.names.Made.{Made}
use Rattle.tp_base.specs.declared.names.Site.{Site}
use Rattle.tp_choice.specs.Choosing.{recovery_choice}
use Rattle.tp_choice.specs.declared.answer.RecoveryAnswer.{RecoveryAnswer}
use Rattle.tp_ops.specs.declared.command.Command.{Command}
use Rattle.tp_ops.specs.Parts.{is_accessed}
use Rattle.tp_quorum.specs.Choice.{present, fast_choice}
use Rattle.tp_quorum.specs.declared.choice.FastChoice.{FastChoice}
use Rattle.tp_quorum.specs.declared.choice.FastChoice.TheVariants.{Fast, Slow}
use Rattle.tp_rules.specs.Acts.{Act, Took, Did, Client}
use Rattle.tp_rules.specs.Addresses.{message, to_each, site, rank_of, is_name_of, is_body_at, accessed, others_accessed, processes_of, executors_of}
use Rattle.tp_rules.specs.Executor as executor
use Rattle.tp_rules.specs.Process as process
use Rattle.tp_rules.specs.Session as session
use Rattle.tp_rules.specs.Journal.{identity_in, client_of, act_of, acts}
use Rattle.tp_rules.specs.Rules.{outputs_of}
use Rattle.tp_rules.specs.Runs.{outputs_by, outputs_in, FollowsRules}
use Rattle.tp_rules.specs.Sheet.{Sheet, QuorumRule, ring_rule, stamp_of, is_fresh, command_or, with_command, can_acknowledge, acknowledged, is_full, can_accept, can_vote, with_vote, stamp_decided, is_untouched, can_answer, with_answer, is_recovered, with_stamp, final_stamp}
use Rattle.tp_rules.specs.declared.event.Entry.{Entry}
use Rattle.tp_rules.specs.declared.event.Inner.TheVariants.{Submit, Recover, Announce, Declare, Execute, Crash}
use Rattle.tp_script.specs.declared.script.Script.{Script}
use Rattle.tp_topology.specs.Ballots.{next_ballot}
use Rattle.tp_topology.specs.Counting.{up_to}
use Rattle.tp_topology.specs.Shape.{Shape, IsShape}
use Rattle.tp_wire.specs.declared.message.Body.{Body}
use Rattle.tp_wire.specs.declared.message.Body.TheVariants.{MSubmit, MPropose, MPayload, MProposeAck, MBump, MConsensus, MConsensusAck, MCommit, MRec, MRecAck, MPromises, MCommitted, MStable, MResult}
use Rattle.tp_wire.specs.declared.message.Message.{Message}
use Rattle.tp_rules.proofs.lists.UpTo.{length-up_to, map_length, flat_length}
use Rattle.tp_rules.proofs.lists.Tallies.{filter_length}
use Rattle.tp_rules.proofs.ends.LaterKinds.{executor_silent, session_silent}

to_each_length : (from : ActorName) (names : List ActorName) (body : Body) → length (to_each from names body) ≡ length names
to_each_length from names body = map_length (λ to. message from to body) names

accessed_length : (shape : Shape) (c : Command) → length (accessed shape c) ≤ shape.partitions
accessed_length shape c = omega (arith, filter_length (is_accessed shape.partitions c) (up_to shape.partitions), length-up_to shape.partitions)

others_length : (shape : Shape) (c : Command) (p : ℕ) → length (others_accessed shape c p) ≤ shape.partitions
others_length shape c p = omega (arith, filter_length (λ q. not (q == p)) (accessed shape c), accessed_length shape c)

processes_length : (shape : Shape) (p : ℕ) → length (processes_of shape p) ≡ shape.replicas
processes_length shape p = map_length (λ rank. Process (site p rank)) (up_to shape.replicas) ∙ length-up_to shape.replicas

executors_length : (shape : Shape) (p : ℕ) → length (executors_of shape p) ≡ shape.replicas
executors_length shape p = map_length (λ rank. Executor (site p rank)) (up_to shape.replicas) ∙ length-up_to shape.replicas

module _ (s : QuorumRule) (good : IsShape s.shape) (me : Site) where
  abbrev IsShort : process.Step → Type 0
  IsShort moved = length moved.1 ≤ 63

  bumps_short : (c : Command) (t : ℕ) → length (process.bumps s.shape me c t) ≤ 4
  unfolding process.bumps
  bumps_short c t =
      let names = map (λ q. Process (site q me.rank.0)) (others_accessed s.shape c me.partition.0) in
      let sends : length (to_each (Process me) names (MBump c.id (record { 0 = t }))) ≡ length names =
      to_each_length (Process me) names (MBump c.id (record { 0 = t })) in
      let same : length names ≡ length (others_accessed s.shape c me.partition.0) =
      map_length (λ q. Process (site q me.rank.0)) (others_accessed s.shape c me.partition.0) in
      omega (arith, others_length s.shape c me.partition.0, good.few_partitions)

  proposals_short : (c : Command) (t : ℕ) → length (process.proposals s me c t) ≤ 7
  unfolding process.proposals
  proposals_short c t =
      let ranks = filter (λ rank. not (rank == me.rank.0)) (up_to s.shape.replicas) in
      let few : length ranks ≤ length (up_to s.shape.replicas) = filter_length (λ rank. not (rank == me.rank.0)) (up_to s.shape.replicas) in
      let all : length (up_to s.shape.replicas) ≡ s.shape.replicas = length-up_to s.shape.replicas in
      omega (arith, map_length (λ rank. message (Process me) (Process (site me.partition.0 rank)) (cond (s.in_quorum c rank) (MPropose c (record { 0 = t })) (MPayload c))) ranks, good.few_replicas)

  commit_messages_short : (o : Option Command) (t : ℕ) → length (process.commit_messages s.shape me o t) ≤ 28
  unfolding process.commit_messages
  commit_messages_short None t = omega arith
  commit_messages_short (Some c) t =
      let all = flat_map (processes_of s.shape) (accessed s.shape c) in
      let names = filter (λ to. not (same_name to (Process me))) all in
      let sends : length (to_each (Process me) names (MCommit c me.partition (record { 0 = t }))) ≡ length names =
      to_each_length (Process me) names (MCommit c me.partition (record { 0 = t })) in
      let few : length names ≤ length all = filter_length (λ to. not (same_name to (Process me))) all in
      let count : length all ≤ length (accessed s.shape c) * 7 =
      flat_length (processes_of s.shape) 7 (accessed s.shape c) (λ p. omega (arith, processes_length s.shape p, good.few_replicas)) in
      omega (arith, accessed_length s.shape c, good.few_partitions)

  put_short : (b t : ℕ) (o : Option Command) → length (process.put_to_vote s.shape me b t o) ≤ 7
  put_short b t None = omega arith
  put_short b t (Some c) =
      omega (arith, to_each_length (Process me) (processes_of s.shape me.partition.0) (MConsensus c (record { 0 = t }) b), processes_length s.shape me.partition.0, good.few_replicas)

  finished_short : (id : CommandId) (sheet : Sheet) (o : Option Command) (final : Option ℕ) (state : process.ProcessState) →
      length (process.finished me id sheet o final state).1 ≤ 1
  finished_short id sheet None None state = omega arith
  finished_short id sheet None (Some t) state = omega arith
  finished_short id sheet (Some c) None state = omega arith
  finished_short id sheet (Some c) (Some t) state = omega arith

  learned_short : (id : CommandId) (q t : ℕ) (sheet : Sheet) (state : process.ProcessState) →
      length (process.learned s.shape me id q t sheet state).1 ≤ 1
  learned_short id q t sheet state =
      let known = with_stamp q t sheet in
      let final = final_stamp s.shape known known.command in
      cond_both (is_some (stamp_of sheet q)) (process.with_sheet id sheet state, []) (process.finished me id known known.command final state)
      (λ (moved : process.Step). length moved.1 ≤ 1) (λ e. omega arith) (λ e. finished_short id known known.command final state)

  decided_short : (id : CommandId) (t : ℕ) (sheet : Sheet) (state : process.ProcessState) → IsShort (process.decided s.shape me id t sheet state)
  decided_short id t sheet state =
      let sends = process.commit_messages s.shape me sheet.command t in
      let moved = process.learned s.shape me id me.partition.0 t sheet state in
      omega (arith, length-append sends moved.1, commit_messages_short sheet.command t, learned_short id me.partition.0 t sheet state)

  follow_choice_short : (id : CommandId) (choice : FastChoice) (sheet : Sheet) (state : process.ProcessState) →
      IsShort (process.follow_choice s me id choice sheet state)
  follow_choice_short id (Fast t) sheet state = decided_short id t.0 sheet state
  follow_choice_short id (Slow t) sheet state = omega (arith, put_short me.rank.0 t.0 sheet.command)

  submit_short : (c : Command) (state : process.ProcessState) → IsShort (process.on_submit s me c state)
  submit_short c state =
      let sheet = state.sheets c.id in
      let t = process.next_stamp 0 state in
      cond_both ((c.home.0 == me.rank.0) && is_fresh me.partition.0 sheet) (process.submitted s me c t sheet state) (state, []) IsShort
      (λ e. omega (arith, length-append (process.proposals s me c t) (process.bumps s.shape me (command_or c sheet) t), proposals_short c t, bumps_short (command_or c sheet) t))
      (λ e. omega arith)

  propose_short : (from : ActorName) (c : Command) (floor : ℕ) (state : process.ProcessState) → IsShort (process.on_propose s me from c floor state)
  propose_short from c floor state =
      let sheet = state.sheets c.id in
      let t = process.next_stamp floor state in
      cond_both (is_fresh me.partition.0 sheet) (process.propose_and_acknowledge s me from c t sheet state) (state, []) IsShort
      (λ e. omega (arith, bumps_short (command_or c sheet) t)) (λ e. omega arith)

  ack_short : (from : ActorName) (id : CommandId) (t : ℕ) (state : process.ProcessState) → IsShort (process.on_propose_ack s me from id t state)
  ack_short from id t state =
      let rank = rank_of from in
      let sheet = acknowledged rank t (state.sheets id) in
      let choice = fast_choice s.shape (present sheet.acknowledged) in
      cond_both (can_acknowledge s me.partition.0 me.rank.0 rank (state.sheets id)) (process.conclude_fast_path s me id sheet state) (state, []) IsShort
      (λ e. cond_both (is_full s.shape sheet) (process.follow_choice s me id choice sheet state) (process.with_sheet id sheet state, []) IsShort
      (λ full. follow_choice_short id choice sheet state) (λ full. omega arith))
      (λ e. omega arith)

  consensus_short : (from : ActorName) (c : Command) (t b : ℕ) (state : process.ProcessState) → IsShort (process.on_consensus me from c t b state)
  consensus_short from c t b state =
      let sheet = state.sheets c.id in
      cond_both (can_accept me.partition.0 b sheet && nat_lt b STAMP_LIMIT) (process.accept_and_vote me from c t b sheet state) (state, []) IsShort
      (λ e. omega arith) (λ e. omega arith)

  voted_short : (id : CommandId) (o : Option ℕ) (sheet : Sheet) (state : process.ProcessState) → IsShort (process.voted s me id o sheet state)
  voted_short id None sheet state = omega arith
  voted_short id (Some t) sheet state = decided_short id t sheet state

  consensus_ack_short : (from : ActorName) (id : CommandId) (b : ℕ) (state : process.ProcessState) → IsShort (process.on_consensus_ack s me from id b state)
  consensus_ack_short from id b state =
      let sheet = with_vote (rank_of from) (state.sheets id) in
      cond_both (can_vote me.partition.0 b (state.sheets id)) (process.voted s me id (stamp_decided s.shape sheet) sheet state) (state, []) IsShort
      (λ e. voted_short id (stamp_decided s.shape sheet) sheet state) (λ e. omega arith)

  commit_reply_short : (from : ActorName) (o : Option Command) (t : ℕ) → length (process.commit_reply me from o t) ≤ 1
  commit_reply_short from None t = omega arith
  commit_reply_short from (Some c) t = omega arith

  answer_recovery_short : (from : ActorName) (c : Command) (b : ℕ) (sheet : Sheet) (state : process.ProcessState) → IsShort (process.answer_recovery s me from c b sheet state)
  answer_recovery_short from c b sheet state =
      let t = process.next_stamp 0 state in
      cond_both (is_untouched sheet) (process.propose_and_answer s me from c b t sheet state) (process.answer_with_old_proposal me from c b sheet state) IsShort
      (λ e. omega (arith, bumps_short (command_or c sheet) t)) (λ e. omega arith)

  rec_short : (from : ActorName) (c : Command) (b : ℕ) (o : Option ℕ) (state : process.ProcessState) → IsShort (process.on_rec_by_stamp s me from c b o state)
  rec_short from c b (Some t) state = omega (arith, commit_reply_short from (state.sheets c.id).command t)
  rec_short from c b None state =
      let sheet = state.sheets c.id in
      cond_both (nat_lt sheet.ballot b && nat_lt b STAMP_LIMIT) (process.answer_recovery s me from c b sheet state) (state, []) IsShort
      (λ e. answer_recovery_short from c b sheet state) (λ e. omega arith)

  put_recovered_short : (id : CommandId) (b : ℕ) (o : Option Command) (sheet : Sheet) (state : process.ProcessState) →
      IsShort (process.put_recovered s me id b o sheet state)
  put_recovered_short id b None sheet state = omega arith
  put_recovered_short id b (Some c) sheet state = omega (arith, put_short b (recovery_choice (s.in_quorum c) c.home.0 (present sheet.answers)) (Some c))

  rec_ack_short : (from : ActorName) (id : CommandId) (t : ℕ) (made : Made) (a b : ℕ) (state : process.ProcessState) →
      IsShort (process.on_rec_ack s me from id t made a b state)
  rec_ack_short from id t made a b state =
      let new : RecoveryAnswer = record { rank = record { 0 = rank_of from }; stamp = record { 0 = t }; made = made; accepted = a } in
      let sheet = with_answer new (state.sheets id) in
      cond_both (can_answer me.partition.0 b (rank_of from) (state.sheets id)) (process.recovered s me id b sheet state) (state, []) IsShort
      (λ e. cond_both (is_recovered s.shape sheet) (process.put_recovered s me id b sheet.command sheet state) (process.with_sheet id sheet state, []) IsShort
      (λ all. put_recovered_short id b sheet.command sheet state) (λ all. omega arith))
      (λ e. omega arith)

  asked_short : (b : ℕ) (o : Option Command) → length (process.asked s.shape me b o) ≤ 7
  asked_short b None = omega arith
  asked_short b (Some c) =
      omega (arith, to_each_length (Process me) (processes_of s.shape me.partition.0) (MRec c b), processes_length s.shape me.partition.0, good.few_replicas)

  recover_short : (id : CommandId) (state : process.ProcessState) → IsShort (process.on_recover s.shape me id state)
  recover_short id state =
      let sheet = state.sheets id in
      let b = next_ballot s.shape me.rank.0 sheet.ballot sheet.tried in
      cond_both (is_some sheet.command && is_none (stamp_of sheet me.partition.0) && process.has_next sheet)
      (process.recovering s.shape me id b sheet state) (state, []) IsShort
      (λ e. omega (arith, asked_short b sheet.command)) (λ e. omega arith)

  commit_short : (c : Command) (q t : ℕ) (state : process.ProcessState) → IsShort (process.on_commit s me c q t state)
  commit_short c q t state =
      let sheet = with_command c (state.sheets c.id) in
      cond_both (is_accessed s.shape.partitions c q) (process.learned s.shape me c.id q t sheet state) (state, []) IsShort
      (λ e. omega (arith, learned_short c.id q t sheet state)) (λ e. omega arith)

  announce_short : (state : process.ProcessState) → IsShort (process.on_announce s.shape me state)
  unfolding process.announced
  announce_short state =
      let next : process.ProcessState = record { clock = state.clock; told = state.clock; attached = state.attached; sheets = state.sheets } in
      let body = MPromises state.told state.clock (process.untold state) in
      cond_both (nat_lt state.told state.clock) (next, process.announced s.shape me state) (state, []) IsShort
      (λ e. omega (arith, to_each_length (Process me) (executors_of s.shape me.partition.0) body, executors_length s.shape me.partition.0, good.few_replicas))
      (λ e. omega arith)

  row_short : (from : ActorName) (body : Body) (state : process.ProcessState) → IsShort (process.on_body s me from body state)
  row_short from (MSubmit c) state = submit_short c state
  row_short from (MPropose c floor) state = propose_short from c floor.0 state
  row_short from (MPayload c) state = omega arith
  row_short from (MProposeAck id t) state = ack_short from id t.0 state
  row_short from (MCommit c q t) state = commit_short c q.0 t.0 state
  row_short from (MBump id t) state = omega arith
  row_short from (MConsensus c t b) state = consensus_short from c t.0 b state
  row_short from (MConsensusAck id b) state = consensus_ack_short from id b state
  row_short from (MRec c b) state = rec_short from c b (stamp_of (state.sheets c.id) me.partition.0) state
  row_short from (MRecAck id t made a b) state = rec_ack_short from id t.0 made a b state
  row_short from (MPromises lo hi pairs) state = omega arith
  row_short from (MCommitted c t) state = omega arith
  row_short from (MStable id) state = omega arith
  row_short from (MResult id q answers) state = omega arith

  message_short : (m : Message) (state : process.ProcessState) → IsShort (process.on_message s me m state)
  message_short m state =
      let moved = process.on_body s me m.from m.body state in
      cond_both (same_name m.to (Process me) && is_name_of s.shape m.from && is_body_at s.shape me.partition.0 m.body)
      (process.with_room state moved) (state, []) IsShort
      (λ e. cond_both (nat_lt moved.0.clock STAMP_LIMIT) moved (state, []) IsShort (λ room. row_short m.from m.body state) (λ room. omega arith))
      (λ e. omega arith)

  pub process_short : (act : Act) (state : process.ProcessState) → IsShort (process.react s me act state)
  process_short (Took m) state = message_short m state
  process_short (Did Announce) state = announce_short state
  process_short (Did (Submit n)) state = omega arith
  process_short (Did (Recover id)) state = recover_short id state
  process_short (Did (Declare id)) state = omega arith
  process_short (Did (Execute id)) state = omega arith
  process_short (Did Crash) state = omega arith

execution_short : (shape : Shape) (me : Site) (o : Option executor.Committed) (state : executor.ExecutorState) →
    length (executor.execute_least shape me o state).1 ≤ 63
execution_short shape me None state = omega arith
execution_short shape me (Some c) state = omega arith

declaration_short : (shape : Shape) → IsShape shape → (me : Site) (o : Option executor.Committed) (state : executor.ExecutorState) →
    length (executor.declare_least shape me o state).1 ≤ 63
unfolding executor.declarations
declaration_short shape good me None state = omega arith
declaration_short shape good me (Some c) state =
    let names = flat_map (executors_of shape) (others_accessed shape c.command me.partition.0) in
    let sends : length (to_each (Executor me) names (MStable c.command.id)) ≡ length names =
    to_each_length (Executor me) names (MStable c.command.id) in
    let count : length names ≤ length (others_accessed shape c.command me.partition.0) * 7 =
    flat_length (executors_of shape) 7 (others_accessed shape c.command me.partition.0) (λ p. omega (arith, executors_length shape p, good.few_replicas)) in
    omega (arith, others_length shape c.command me.partition.0, good.few_partitions)

executor_short : (shape : Shape) → IsShape shape → (me : Site) (act : Act) (state : executor.ExecutorState) →
    length (executor.react shape me act state).1 ≤ 63
executor_short shape good me (Took m) state = let none : length (executor.react shape me (Took m) state).1 ≡ 0 =
    ap length (executor_silent shape me m state) in omega arith
executor_short shape good me (Did (Execute id)) state = execution_short shape me (executor.least (executor.waiting state)) state
executor_short shape good me (Did Announce) state = omega arith
executor_short shape good me (Did (Submit n)) state = omega arith
executor_short shape good me (Did (Recover id)) state = omega arith
executor_short shape good me (Did (Declare id)) state = declaration_short shape good me (executor.least (executor.waiting state)) state
executor_short shape good me (Did Crash) state = omega arith

submissions_short : (shape : Shape) → IsShape shape → (client : Client) (o : Option Command) → length (session.submissions shape client o) ≤ 63
submissions_short shape good client None = omega arith
submissions_short shape good client (Some c) =
    let names = map (λ p. Process (site p client.home)) (accessed shape c) in
    let sends : length (to_each (Session client.session) names (MSubmit c)) ≡ length names =
    to_each_length (Session client.session) names (MSubmit c) in
    let same : length names ≡ length (accessed shape c) = map_length (λ p. Process (site p client.home)) (accessed shape c) in
    omega (arith, accessed_length shape c, good.few_partitions)

session_short : (shape : Shape) → IsShape shape → (client : Client) (act : Act) (state : session.SessionState) →
    length (session.react shape client act state).1 ≤ 63
session_short shape good client (Took m) state = let none : length (session.react shape client (Took m) state).1 ≡ 0 =
    ap length (session_silent shape client m state) in omega arith
session_short shape good client (Did (Submit n)) state = submissions_short shape good client (nth client.commands n)
session_short shape good client (Did Announce) state = omega arith
session_short shape good client (Did (Recover id)) state = omega arith
session_short shape good client (Did (Declare id)) state = omega arith
session_short shape good client (Did (Execute id)) state = omega arith
session_short shape good client (Did Crash) state = omega arith

act_short : (script : Script) → IsShape script.topology → (actor : ActorName) (before : List Act) (act : Act) →
    length (outputs_of (identity_in script actor) before act) ≤ 63
act_short script good (Process s) before act =
    process_short (ring_rule script.topology) good s act (process.state_after (ring_rule script.topology) s before)
act_short script good (Executor s) before act = executor_short script.topology good s act (executor.state_after script.topology s before)
act_short script good (Session s) before act =
    session_short script.topology good (client_of script s) act (session.state_after script.topology (client_of script s) before)

event_short : (script : Script) → IsShape script.topology → (older : List Entry) (actor : ActorName) (o : Option Act) →
    length (outputs_by script older actor o) ≤ 63
event_short script good older actor None = omega arith
event_short script good older actor (Some act) = act_short script good actor (acts older actor) act

-- an entry that follows the rules has 63 outputs at most
pub outputs_few : (script : Script) → IsShape script.topology → (older : List Entry) (e : Entry) → FollowsRules script older e → length e.outputs ≤ 63
outputs_few script good older e follows =
    let same : length e.outputs ≡ length (outputs_in script older e.actor e.event) = ap length follows.outputs in
    omega (arith, event_short script good older e.actor (act_of older e.event))
