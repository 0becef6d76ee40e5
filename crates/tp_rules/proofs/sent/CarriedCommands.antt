-- Where each command that an actor took passes a predicate, so does each that it keeps, has committed or sends. Used for the
-- provenance of commands.
use Rattle.std.proofs.Common.{◌≡◌, ℕ, List, [], ◌∷◌, Option, Some, None, cond, refl, sym, subst}
use Rattle.std.specs.Prelude.{◌==◌, ◌&&◌, nat_lt, not, is_none, is_some, unwrap_or}
use Rattle.std.proofs.lemmas.Bool.{cond_both}
use Rattle.tp_base.specs.Limits.{STAMP_LIMIT}
use Rattle.tp_base.specs.Lists.{Each, IsIn, has}
use Rattle.tp_base.specs.Names.{same_id, same_name}
use Rattle.tp_base.proofs.SameNames.{same_id_is}
use Rattle.tp_base.specs.Tables.{nth}
use Rattle.tp_base.specs.declared.names.ActorName.{ActorName}
use Rattle.tp_base.specs.declared.names.ActorName.TheVariants.{Process, Executor, Session}
use Rattle.tp_base.specs.declared.names.CommandId.{CommandId}
use Rattle.tp_base.specs.declared.names.Made.TheVariants.{Proposal, Recovery}
use Rattle.tp_base.specs.declared.names.Site.{Site}
use Rattle.tp_choice.specs.declared.answer.RecoveryAnswer.{RecoveryAnswer}
use Rattle.tp_ops.specs.declared.command.Command.{Command}
use Rattle.tp_ops.specs.Parts.{is_accessed}
use Rattle.tp_quorum.specs.Choice.{present, fast_choice}
use Rattle.tp_quorum.specs.declared.choice.FastChoice.{FastChoice}
use Rattle.tp_quorum.specs.declared.choice.FastChoice.TheVariants.{Fast, Slow}
use Rattle.tp_rules.specs.Acts.{Act, Took, Did, Client}
use Rattle.tp_rules.specs.Addresses.{rank_of, partition_of, is_name_of, is_body_at}
use Rattle.tp_rules.specs.Executor as executor
use Rattle.tp_rules.specs.Process as process
use Rattle.tp_rules.specs.Session as session
use Rattle.tp_rules.specs.Sheet.{Sheet, QuorumRule, blank, stamp_of, is_fresh, with_command, with_proposal, can_acknowledge, acknowledged, acknowledged_own, is_full, putting, can_accept, with_accepted, can_vote, with_vote, stamp_decided, is_untouched, with_ballot, trying, can_answer, with_answer, is_recovered, with_stamp, final_stamp}
use Rattle.tp_rules.specs.declared.event.Inner.TheVariants.{Submit, Recover, Announce, Declare, Execute, Crash}
use Rattle.tp_topology.specs.Ballots.{next_ballot}
use Rattle.tp_topology.specs.Shape.{Shape}
use Rattle.tp_wire.specs.declared.message.Body.{Body}
use Rattle.tp_wire.specs.declared.message.Body.TheVariants.{MSubmit, MPropose, MPayload, MProposeAck, MBump, MConsensus, MConsensusAck, MCommit, MRec, MRecAck, MPromises, MCommitted, MStable, MResult}
use Rattle.tp_wire.specs.declared.message.Message.{Message}
use Rattle.tp_rules.proofs.ends.LaterKinds.{executor_silent, session_silent}
use Rattle.tp_rules.proofs.lists.UpTo.{nth_in}
use Rattle.tp_rules.proofs.sent.SendsOfProcess.{EachSent, each_to, on_submit_sends, on_propose_sends, on_payload_sends, on_propose_ack_sends, on_consensus_sends, on_consensus_ack_sends, on_rec_sends, on_rec_ack_sends, on_recover_sends, on_commit_sends, on_announce_sends, with_room_sends}

-- the command that a body carries passes
abbrev pub Carries : (Command → Type 0) → Body → Type 0
Carries P (MSubmit c) = P c
Carries P (MPropose c floor) = P c
Carries P (MPayload c) = P c
Carries P (MConsensus c t b) = P c
Carries P (MCommit c q t) = P c
Carries P (MRec c b) = P c
Carries P (MCommitted c t) = P c
Carries P (MProposeAck id t) = Unit {0}
Carries P (MBump id t) = Unit {0}
Carries P (MConsensusAck id b) = Unit {0}
Carries P (MRecAck id t made a b) = Unit {0}
Carries P (MPromises lo hi pairs) = Unit {0}
Carries P (MStable id) = Unit {0}
Carries P (MResult id q answers) = Unit {0}

abbrev pub Takes : (Command → Type 0) → Act → Type 0
Takes P (Took m) = Carries P m.body
Takes P (Did inner) = Unit {0}

-- a command that is kept passes, and is kept under its identifier
abbrev pub Keeps : (Command → Type 0) → CommandId → Option Command → Type 0
Keeps P id None = Unit {0}
Keeps P id (Some c) = P c × (c.id ≡ id)

abbrev pub KeepsOnly : (Command → Type 0) → process.ProcessState → Type 0
KeepsOnly P state = (id : CommandId) → Keeps P id (state.sheets id).command

-- so does a committed command, and its key is its own
abbrev pub CommitsOnly : (Command → Type 0) → executor.ExecutorState → Type 0
CommitsOnly P state = Each (λ c. P c.command × (c.key.id ≡ c.command.id)) state.committed

module _ (P : Command → Type 0) where
  pub kept_passes : (id : CommandId) (o : Option Command) (c : Command) → Keeps P id o → o ≡ Some c → P c
  kept_passes id o c h e = let both : P c × (c.id ≡ id) = subst (Keeps P id) e h in both.0

  keeps_more : (id : CommandId) (c : Command) (o : Option Command) → P c → c.id ≡ id → Keeps P id o → Keeps P id (Some (unwrap_or o c))
  keeps_more id c None h e k = (h, e)
  keeps_more id c (Some d) h e k = k

  put_sheet : (sheets : CommandId → Sheet) (id : CommandId) (sheet : Sheet) → Keeps P id sheet.command →
      ((other : CommandId) → Keeps P other (sheets other).command) →
      (other : CommandId) → Keeps P other (cond (same_id id other) sheet (sheets other)).command
  put_sheet sheets id sheet h k other = cond_both (same_id id other) sheet (sheets other) (λ (x : Sheet). Keeps P other x.command)
      (λ e. subst (λ (i : CommandId). Keeps P i sheet.command) (same_id_is id other e) h) (λ e. k other)

  own_command : (s : QuorumRule) (p own t : ℕ) (sheet : Sheet) → (acknowledged_own s p own t sheet).command ≡ sheet.command
  own_command s p own t sheet =
      cond_both (can_acknowledge s p own own sheet) (acknowledged own t sheet) sheet (λ (x : Sheet). x.command ≡ sheet.command) (λ e. refl)
      (λ e. refl)

  abbrev Kept : process.Step → Type 0
  Kept moved = KeepsOnly P moved.0

  finished_keeps : (me : Site) (id : CommandId) (sheet : Sheet) (o : Option Command) (final : Option ℕ) (state : process.ProcessState) →
      KeepsOnly P (process.with_sheet id sheet state) → Kept (process.finished me id sheet o final state)
  finished_keeps me id sheet None None state h = h
  finished_keeps me id sheet None (Some t) state h = h
  finished_keeps me id sheet (Some c) None state h = h
  finished_keeps me id sheet (Some c) (Some t) state h = h

  learned_keeps : (shape : Shape) (me : Site) (id : CommandId) (q t : ℕ) (sheet : Sheet) (state : process.ProcessState) →
      KeepsOnly P state → Keeps P id sheet.command → Kept (process.learned shape me id q t sheet state)
  learned_keeps shape me id q t sheet state h k =
      let known = with_stamp q t sheet in
      let final = final_stamp shape known known.command in
      cond_both (is_some (stamp_of sheet q)) (process.with_sheet id sheet state, []) (process.finished me id known known.command final state) Kept
      (λ e. put_sheet state.sheets id sheet k h)
      (λ e. finished_keeps me id known known.command final state (put_sheet state.sheets id known k h))

  follow_choice_keeps : (s : QuorumRule) (me : Site) (id : CommandId) (choice : FastChoice) (sheet : Sheet) (state : process.ProcessState) →
      KeepsOnly P state → Keeps P id sheet.command → Kept (process.follow_choice s me id choice sheet state)
  follow_choice_keeps s me id (Fast t) sheet state h k = learned_keeps s.shape me id me.partition.0 t.0 sheet state h k
  follow_choice_keeps s me id (Slow t) sheet state h k = put_sheet state.sheets id (putting s.shape me.rank.0 t.0 sheet) k h

  voted_keeps : (s : QuorumRule) (me : Site) (id : CommandId) (o : Option ℕ) (sheet : Sheet) (state : process.ProcessState) →
      KeepsOnly P state → Keeps P id sheet.command → Kept (process.voted s me id o sheet state)
  voted_keeps s me id None sheet state h k = put_sheet state.sheets id sheet k h
  voted_keeps s me id (Some t) sheet state h k = learned_keeps s.shape me id me.partition.0 t sheet state h k

  rec_keeps : (s : QuorumRule) (me : Site) (from : ActorName) (c : Command) (b : ℕ) (o : Option ℕ) (state : process.ProcessState) →
      KeepsOnly P state → P c → Kept (process.on_rec_by_stamp s me from c b o state)
  rec_keeps s me from c b (Some t) state h p = h
  rec_keeps s me from c b None state h p =
      let sheet = state.sheets c.id in
      let t = process.next_stamp 0 state in
      let more = keeps_more c.id c sheet.command p refl (h c.id) in
      cond_both (nat_lt sheet.ballot b && nat_lt b STAMP_LIMIT) (process.answer_recovery s me from c b sheet state) (state, []) Kept
      (λ e. cond_both (is_untouched sheet) (process.propose_and_answer s me from c b t sheet state) (process.answer_with_old_proposal me from c b sheet state) Kept
      (λ late. put_sheet state.sheets c.id (with_ballot b (with_proposal t Recovery (with_command c sheet))) more h)
      (λ not_late. put_sheet state.sheets c.id (with_ballot b (with_command c sheet)) more h))
      (λ e. h)

  put_recovered_keeps : (s : QuorumRule) (me : Site) (id : CommandId) (b : ℕ) (o : Option Command) (sheet : Sheet) (state : process.ProcessState) →
      KeepsOnly P state → Keeps P id sheet.command → Kept (process.put_recovered s me id b o sheet state)
  put_recovered_keeps s me id b None sheet state h k = put_sheet state.sheets id sheet k h
  put_recovered_keeps s me id b (Some c) sheet state h k = put_sheet state.sheets id (putting s.shape b _ sheet) k h

  recover_keeps : (shape : Shape) (me : Site) (id : CommandId) (state : process.ProcessState) → KeepsOnly P state → Kept (process.on_recover shape me id state)
  recover_keeps shape me id state h =
      let sheet = state.sheets id in
      let b = next_ballot shape me.rank.0 sheet.ballot sheet.tried in
      cond_both (is_some sheet.command && is_none (stamp_of sheet me.partition.0) && process.has_next sheet)
      (process.recovering shape me id b sheet state) (state, []) Kept
      (λ e. put_sheet state.sheets id (trying shape b sheet) (h id) h) (λ e. h)

  row_keeps : (s : QuorumRule) (me : Site) (from : ActorName) (body : Body) (state : process.ProcessState) →
      KeepsOnly P state → Carries P body → Kept (process.on_body s me from body state)
  row_keeps s me from (MSubmit c) state h p =
      let sheet = state.sheets c.id in
      let t = process.next_stamp 0 state in
      let next = with_proposal t Proposal (with_command c sheet) in
      cond_both ((c.home.0 == me.rank.0) && is_fresh me.partition.0 sheet) (process.submitted s me c t sheet state) (state, []) Kept
      (λ e. put_sheet state.sheets c.id (acknowledged_own s me.partition.0 me.rank.0 t next)
      (subst (Keeps P c.id) (sym (own_command s me.partition.0 me.rank.0 t next)) (keeps_more c.id c sheet.command p refl (h c.id))) h)
      (λ e. h)
  row_keeps s me from (MPropose c floor) state h p =
      let sheet = state.sheets c.id in
      let t = process.next_stamp floor.0 state in
      cond_both (is_fresh me.partition.0 sheet) (process.propose_and_acknowledge s me from c t sheet state) (state, []) Kept
      (λ e. put_sheet state.sheets c.id (with_proposal t Proposal (with_command c sheet)) (keeps_more c.id c sheet.command p refl (h c.id)) h)
      (λ e. h)
  row_keeps s me from (MPayload c) state h p =
      let sheet = state.sheets c.id in
      put_sheet state.sheets c.id (with_command c sheet) (keeps_more c.id c sheet.command p refl (h c.id)) h
  row_keeps s me from (MProposeAck id t) state h p =
      let rank = rank_of from in
      let sheet = acknowledged rank t.0 (state.sheets id) in
      let choice = fast_choice s.shape (present sheet.acknowledged) in
      cond_both (can_acknowledge s me.partition.0 me.rank.0 rank (state.sheets id)) (process.conclude_fast_path s me id sheet state) (state, []) Kept
      (λ e. cond_both (is_full s.shape sheet) (process.follow_choice s me id choice sheet state) (process.with_sheet id sheet state, []) Kept
      (λ full. follow_choice_keeps s me id choice sheet state h (h id)) (λ full. put_sheet state.sheets id sheet (h id) h))
      (λ e. h)
  row_keeps s me from (MCommit c q t) state h p =
      let sheet = with_command c (state.sheets c.id) in
      cond_both (is_accessed s.shape.partitions c q.0) (process.learned s.shape me c.id q.0 t.0 sheet state) (state, []) Kept
      (λ e. learned_keeps s.shape me c.id q.0 t.0 sheet state h (keeps_more c.id c (state.sheets c.id).command p refl (h c.id))) (λ e. h)
  row_keeps s me from (MBump id t) state h p = h
  row_keeps s me from (MConsensus c t b) state h p =
      let sheet = state.sheets c.id in
      cond_both (can_accept me.partition.0 b sheet && nat_lt b STAMP_LIMIT) (process.accept_and_vote me from c t.0 b sheet state) (state, []) Kept
      (λ e. put_sheet state.sheets c.id (with_accepted b t.0 (with_command c sheet)) (keeps_more c.id c sheet.command p refl (h c.id)) h)
      (λ e. h)
  row_keeps s me from (MConsensusAck id b) state h p =
      let sheet = with_vote (rank_of from) (state.sheets id) in
      cond_both (can_vote me.partition.0 b (state.sheets id)) (process.voted s me id (stamp_decided s.shape sheet) sheet state) (state, []) Kept
      (λ e. voted_keeps s me id (stamp_decided s.shape sheet) sheet state h (h id)) (λ e. h)
  row_keeps s me from (MRec c b) state h p = rec_keeps s me from c b (stamp_of (state.sheets c.id) me.partition.0) state h p
  row_keeps s me from (MRecAck id t made a b) state h p =
      let new : RecoveryAnswer = record { rank = record { 0 = rank_of from }; stamp = record { 0 = t.0 }; made = made; accepted = a } in
      let sheet = with_answer new (state.sheets id) in
      cond_both (can_answer me.partition.0 b (rank_of from) (state.sheets id)) (process.recovered s me id b sheet state) (state, []) Kept
      (λ e. cond_both (is_recovered s.shape sheet) (process.put_recovered s me id b sheet.command sheet state) (process.with_sheet id sheet state, []) Kept
      (λ all. put_recovered_keeps s me id b sheet.command sheet state h (h id)) (λ all. put_sheet state.sheets id sheet (h id) h))
      (λ e. h)
  row_keeps s me from (MPromises lo hi pairs) state h p = h
  row_keeps s me from (MCommitted c t) state h p = h
  row_keeps s me from (MStable id) state h p = h
  row_keeps s me from (MResult id q answers) state h p = h

  message_keeps : (s : QuorumRule) (me : Site) (m : Message) (state : process.ProcessState) → KeepsOnly P state → Carries P m.body →
      Kept (process.on_message s me m state)
  message_keeps s me m state h p =
      let moved = process.on_body s me m.from m.body state in
      cond_both (same_name m.to (Process me) && is_name_of s.shape m.from && is_body_at s.shape me.partition.0 m.body)
      (process.with_room state moved) (state, []) Kept
      (λ e. cond_both (nat_lt moved.0.clock STAMP_LIMIT) moved (state, []) Kept (λ room. row_keeps s me m.from m.body state h p) (λ room. h))
      (λ e. h)

  process_keeps : (s : QuorumRule) (me : Site) (act : Act) (state : process.ProcessState) → KeepsOnly P state → Takes P act →
      Kept (process.react s me act state)
  process_keeps s me (Took m) state h p = message_keeps s me m state h p
  process_keeps s me (Did Announce) state h p =
      let next : process.ProcessState = record { clock = state.clock; told = state.clock; attached = state.attached; sheets = state.sheets } in
      cond_both (nat_lt state.told state.clock) (next, process.announced s.shape me state) (state, []) Kept (λ e. h) (λ e. h)
  process_keeps s me (Did (Submit n)) state h p = h
  process_keeps s me (Did (Recover id)) state h p = recover_keeps s.shape me id state h
  process_keeps s me (Did (Declare id)) state h p = h
  process_keeps s me (Did (Execute id)) state h p = h
  process_keeps s me (Did Crash) state h p = h

  -- a process keeps what passes
  pub process_keeps_only : (s : QuorumRule) (me : Site) (acts : List Act) → Each (Takes P) acts → KeepsOnly P (process.state_after s me acts)
  unfolding blank
  process_keeps_only s me [] h = λ id. tt
  process_keeps_only s me (act ∷ before) h = process_keeps s me act (process.state_after s me before) (process_keeps_only s me before h.1) h.0

  abbrev Passes : Message → Type 0
  Passes m = Carries P m.body

  row_sends : (s : QuorumRule) (me : Site) (from : ActorName) (body : Body) (state : process.ProcessState) →
      KeepsOnly P state → Carries P body → EachSent Passes (process.on_body s me from body state)
  row_sends s me from (MSubmit c) state h p = on_submit_sends Passes me s c state (λ to t. p) (λ to. p) (λ to id t. tt)
  row_sends s me from (MPropose c floor) state h p = on_propose_sends Passes me s from c floor.0 state (λ t. tt) (λ to id t. tt)
  row_sends s me from (MPayload c) state h p = on_payload_sends Passes me c state
  row_sends s me from (MProposeAck id t) state h p =
      let of_kept : (c : Command) → (state.sheets id).command ≡ Some c → P c = (λ c e. kept_passes id (state.sheets id).command c (h id) e) in
      on_propose_ack_sends Passes me s from id t.0 state (λ c to t e. of_kept c e) (λ c t e. of_kept c e) (λ c to t b e. of_kept c e)
  row_sends s me from (MCommit c q t) state h p =
      let sheet = state.sheets c.id in
      on_commit_sends Passes me s c q.0 t.0 state
      (λ d t e. kept_passes c.id (with_command c sheet).command d (keeps_more c.id c sheet.command p refl (h c.id)) e)
  row_sends s me from (MBump id t) state h p = tt
  row_sends s me from (MConsensus c t b) state h p = on_consensus_sends Passes me from c t.0 b state tt
  row_sends s me from (MConsensusAck id b) state h p =
      let of_kept : (c : Command) → (state.sheets id).command ≡ Some c → P c = (λ c e. kept_passes id (state.sheets id).command c (h id) e) in
      on_consensus_ack_sends Passes me s from id b state (λ c to t e. of_kept c e) (λ c t e. of_kept c e)
  row_sends s me from (MRec c b) state h p =
      on_rec_sends Passes me s from c b state (λ d t e. kept_passes c.id (state.sheets c.id).command d (h c.id) e) (λ x a made. tt) (λ to id t. tt)
  row_sends s me from (MRecAck id t made a b) state h p =
      on_rec_ack_sends Passes me s from id t.0 made a b state (λ c to t e. kept_passes id (state.sheets id).command c (h id) e)
  row_sends s me from (MPromises lo hi pairs) state h p = tt
  row_sends s me from (MCommitted c t) state h p = tt
  row_sends s me from (MStable id) state h p = tt
  row_sends s me from (MResult id q answers) state h p = tt

  -- and sends it
  pub process_sends_only : (s : QuorumRule) (me : Site) (act : Act) (state : process.ProcessState) → KeepsOnly P state → Takes P act →
      EachSent Passes (process.react s me act state)
  process_sends_only s me (Took m) state h p =
      let moved = process.on_body s me m.from m.body state in
      cond_both (same_name m.to (Process me) && is_name_of s.shape m.from && is_body_at s.shape me.partition.0 m.body)
      (process.with_room state moved) (state, []) (EachSent Passes)
      (λ e. with_room_sends Passes me state moved (row_sends s me m.from m.body state h p)) (λ e. tt)
  process_sends_only s me (Did Announce) state h p = on_announce_sends Passes me s.shape state (λ to lo hi pairs. tt)
  process_sends_only s me (Did (Submit n)) state h p = tt
  process_sends_only s me (Did (Recover id)) state h p =
      on_recover_sends Passes me s.shape id state (λ c to b e. kept_passes id (state.sheets id).command c (h id) e)
  process_sends_only s me (Did (Declare id)) state h p = tt
  process_sends_only s me (Did (Execute id)) state h p = tt
  process_sends_only s me (Did Crash) state h p = tt

  abbrev Commits : executor.Step → Type 0
  Commits moved = CommitsOnly P moved.0

  executor_row : (me : Site) (from : ActorName) (body : Body) (state : executor.ExecutorState) →
      CommitsOnly P state → Carries P body → Commits (executor.on_body me from body state)
  executor_row me from (MPromises lo hi pairs) state h p =
      let next : executor.ExecutorState = record state { told = record { rank = rank_of from; lo = lo; hi = hi; attached = pairs } ∷ state.told } in
      cond_both (partition_of from == me.partition.0) (next, []) (state, []) Commits (λ e. h) (λ e. h)
  executor_row me from (MCommitted c t) state h p =
      let next : executor.ExecutorState =
      record state { committed = record { key = record { stamp = record { 0 = t.0 }; id = c.id }; command = c } ∷ state.committed } in
      cond_both (has same_id c.id (executor.committed_ids state)) (state, []) (next, []) Commits (λ e. h) (λ e. ((p, refl), h))
  executor_row me from (MSubmit c) state h p = h
  executor_row me from (MPropose c floor) state h p = h
  executor_row me from (MPayload c) state h p = h
  executor_row me from (MProposeAck id t) state h p = h
  executor_row me from (MCommit c q t) state h p = h
  executor_row me from (MBump id t) state h p = h
  executor_row me from (MConsensus c t b) state h p = h
  executor_row me from (MConsensusAck id b) state h p = h
  executor_row me from (MRec c b) state h p = h
  executor_row me from (MRecAck id t made a b) state h p = h
  executor_row me from (MStable id) state h p =
      let next : executor.ExecutorState = record state { heard = record { id = id; partition = partition_of from } ∷ state.heard } in
      cond_both (not (partition_of from == me.partition.0)) (next, []) (state, []) Commits (λ e. h) (λ e. h)
  executor_row me from (MResult id q answers) state h p = h

  execution_commits : (shape : Shape) (me : Site) (o : Option executor.Committed) (state : executor.ExecutorState) →
      CommitsOnly P state → Commits (executor.execute_least shape me o state)
  execution_commits shape me None state h = h
  execution_commits shape me (Some c) state h = h

  declaration_commits : (shape : Shape) (me : Site) (o : Option executor.Committed) (state : executor.ExecutorState) →
      CommitsOnly P state → Commits (executor.declare_least shape me o state)
  declaration_commits shape me None state h = h
  declaration_commits shape me (Some c) state h = h

  executor_step : (shape : Shape) (me : Site) (act : Act) (state : executor.ExecutorState) → CommitsOnly P state → Takes P act →
      Commits (executor.react shape me act state)
  executor_step shape me (Took m) state h p =
      cond_both (same_name m.to (Executor me) && is_name_of shape m.from && is_body_at shape me.partition.0 m.body)
      (executor.on_body me m.from m.body state) (state, []) Commits
      (λ e. executor_row me m.from m.body state h p) (λ e. h)
  executor_step shape me (Did (Execute id)) state h p = execution_commits shape me (executor.least (executor.waiting state)) state h
  executor_step shape me (Did Announce) state h p = h
  executor_step shape me (Did (Submit n)) state h p = h
  executor_step shape me (Did (Recover id)) state h p = h
  executor_step shape me (Did (Declare id)) state h p = declaration_commits shape me (executor.least (executor.waiting state)) state h
  executor_step shape me (Did Crash) state h p = h

  -- an executor has committed what passes
  pub executor_commits_only : (shape : Shape) (me : Site) (acts : List Act) → Each (Takes P) acts → CommitsOnly P (executor.state_after shape me acts)
  executor_commits_only shape me [] h = tt
  executor_commits_only shape me (act ∷ before) h =
      executor_step shape me act (executor.state_after shape me before) (executor_commits_only shape me before h.1) h.0

  execution_sends : (shape : Shape) (me : Site) (o : Option executor.Committed) (state : executor.ExecutorState) →
      Each Passes (executor.execute_least shape me o state).1
  execution_sends shape me None state = tt
  execution_sends shape me (Some c) state = (tt, tt)

  declaration_sends : (shape : Shape) (me : Site) (o : Option executor.Committed) (state : executor.ExecutorState) →
      Each Passes (executor.declare_least shape me o state).1
  unfolding executor.declarations
  declaration_sends shape me None state = tt
  declaration_sends shape me (Some c) state = each_to Passes (Executor me) _ (MStable c.command.id) (λ to. tt)

  pub executor_sends_only : (shape : Shape) (me : Site) (act : Act) (state : executor.ExecutorState) →
      Each Passes (executor.react shape me act state).1
  executor_sends_only shape me (Took m) state = subst (Each Passes) (sym (executor_silent shape me m state)) tt
  executor_sends_only shape me (Did (Execute id)) state = execution_sends shape me (executor.least (executor.waiting state)) state
  executor_sends_only shape me (Did Announce) state = tt
  executor_sends_only shape me (Did (Submit n)) state = tt
  executor_sends_only shape me (Did (Recover id)) state = tt
  executor_sends_only shape me (Did (Declare id)) state = declaration_sends shape me (executor.least (executor.waiting state)) state
  executor_sends_only shape me (Did Crash) state = tt

  submissions_pass : (shape : Shape) (client : Client) (o : Option Command) → ((c : Command) → o ≡ Some c → P c) →
      Each Passes (session.submissions shape client o)
  submissions_pass shape client None h = tt
  submissions_pass shape client (Some c) h = each_to Passes (Session client.session) _ (MSubmit c) (λ to. h c refl)

  -- a session sends its own commands
  pub session_sends_only : (shape : Shape) (client : Client) (act : Act) (state : session.SessionState) →
      ((c : Command) → IsIn c client.commands → P c) →
      Each Passes (session.react shape client act state).1
  session_sends_only shape client (Took m) state h = subst (Each Passes) (sym (session_silent shape client m state)) tt
  session_sends_only shape client (Did (Submit n)) state h =
      submissions_pass shape client (nth client.commands n) (λ c e. h c (nth_in client.commands n c e))
  session_sends_only shape client (Did Announce) state h = tt
  session_sends_only shape client (Did (Recover id)) state h = tt
  session_sends_only shape client (Did (Declare id)) state h = tt
  session_sends_only shape client (Did (Execute id)) state h = tt
  session_sends_only shape client (Did Crash) state h = tt
