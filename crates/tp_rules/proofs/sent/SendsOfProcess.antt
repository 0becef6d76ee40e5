-- What each row of a process sends: what holds of these messages holds of each output. Used for the order of the kinds along a
-- run, and for the commands that messages carry.
use Rattle.std.proofs.Common.{◌≡◌, ℕ, List, [], Option, Some, None, refl}
use Rattle.std.specs.Prelude.{is_none, is_some, ◌==◌, ◌&&◌, nat_lt}
use Rattle.std.proofs.lemmas.Bool.{cond_both}
use Rattle.tp_base.proofs.Each.{each_append, each_map}
use Rattle.tp_base.specs.Limits.{STAMP_LIMIT}
use Rattle.tp_base.specs.Lists.{Each}
use Rattle.tp_base.specs.declared.names.ActorName.{ActorName}
use Rattle.tp_base.specs.declared.names.ActorName.TheVariants.{Process, Executor}
use Rattle.tp_base.specs.declared.names.CommandId.{CommandId}
use Rattle.tp_base.specs.declared.names.Made.{Made}
use Rattle.tp_base.specs.declared.names.Made.TheVariants.{Recovery}
use Rattle.tp_base.specs.declared.names.Pair.{Pair}
use Rattle.tp_base.specs.declared.names.Site.{Site}
use Rattle.tp_base.specs.declared.names.Stamp.{Stamp}
use Rattle.tp_choice.specs.Choosing.{recovery_choice}
use Rattle.tp_choice.specs.declared.answer.RecoveryAnswer.{RecoveryAnswer}
use Rattle.tp_ops.specs.declared.command.Command.{Command}
use Rattle.tp_ops.specs.Parts.{is_accessed}
use Rattle.tp_quorum.specs.Choice.{present, fast_choice}
use Rattle.tp_quorum.specs.declared.choice.FastChoice.{FastChoice}
use Rattle.tp_quorum.specs.declared.choice.FastChoice.TheVariants.{Fast, Slow}
use Rattle.tp_rules.specs.Addresses.{message, to_each, site, rank_of}
use Rattle.tp_rules.specs.Process.{ProcessState, Step, bumps, finished, learned, commit_messages, decided, put_to_vote, proposals, submitted, on_submit, propose_and_acknowledge, on_propose, on_payload, follow_choice, conclude_fast_path, on_propose_ack, accept_and_vote, on_consensus, voted, on_consensus_ack, commit_reply, propose_and_answer, answer_with_old_proposal, answer_recovery, on_rec_by_stamp, on_rec, put_recovered, recovered, on_rec_ack, asked, recovering, has_next, on_recover, on_commit, announced, on_announce, untold, with_room, next_stamp, with_sheet}
use Rattle.tp_rules.specs.Sheet.{Sheet, QuorumRule, stamp_of, is_fresh, command_or, with_command, can_acknowledge, acknowledged, is_full, can_accept, can_vote, with_vote, stamp_decided, made_of, stamp_told, is_untouched, with_ballot, with_proposal, can_answer, with_answer, is_recovered, with_stamp, final_stamp}
use Rattle.tp_topology.specs.Ballots.{next_ballot}
use Rattle.tp_topology.specs.Shape.{Shape}
use Rattle.tp_wire.specs.declared.message.Body.{Body}
use Rattle.tp_wire.specs.declared.message.Body.TheVariants.{MPropose, MPayload, MProposeAck, MBump, MConsensus, MConsensusAck, MCommit, MRec, MRecAck, MPromises, MCommitted}
use Rattle.tp_wire.specs.declared.message.Message.{Message}

abbrev pub stamp : ℕ → Stamp
stamp t = record { 0 = t }

-- the outputs of a move
abbrev pub EachSent : (Message → Type 0) → Step → Type 0
EachSent M moved = Each M moved.1

pub each_to : (M : Message → Type 0) (from : ActorName) (names : List ActorName) (body : Body) →
    ((to : ActorName) → M (message from to body)) → Each M (to_each from names body)
each_to M from names body h = each_map M (λ to. message from to body) names h

module _ (M : Message → Type 0) (me : Site) where
  pub bumps_send : (shape : Shape) (c : Command) (t : ℕ) → ((to : ActorName) → M (message (Process me) to (MBump c.id (stamp t)))) →
      Each M (bumps shape me c t)
  unfolding bumps
  bumps_send shape c t h = each_to M (Process me) _ (MBump c.id (stamp t)) h

  pub proposals_send : (s : QuorumRule) (c : Command) (t : ℕ) →
      ((to : ActorName) → M (message (Process me) to (MPropose c (stamp t)))) → ((to : ActorName) → M (message (Process me) to (MPayload c))) →
      Each M (proposals s me c t)
  unfolding proposals
  proposals_send s c t h k = each_map M _ _ (λ rank. cond_both (s.in_quorum c rank) (MPropose c (stamp t)) (MPayload c)
      (λ (body : Body). M (message (Process me) (Process (site me.partition.0 rank)) body)) (λ t. h _) (λ f. k _))

  pub commit_messages_send : (shape : Shape) (o : Option Command) (t : ℕ) →
      ((c : Command) (to : ActorName) → o ≡ Some c → M (message (Process me) to (MCommit c me.partition (stamp t)))) → Each M (commit_messages shape me o t)
  unfolding commit_messages
  commit_messages_send shape None t h = tt
  commit_messages_send shape (Some c) t h = each_to M (Process me) _ (MCommit c me.partition (stamp t)) (λ to. h c to refl)

  pub put_to_vote_sends : (shape : Shape) (b t : ℕ) (o : Option Command) →
      ((c : Command) (to : ActorName) → o ≡ Some c → M (message (Process me) to (MConsensus c (stamp t) b))) → Each M (put_to_vote shape me b t o)
  put_to_vote_sends shape b t None h = tt
  put_to_vote_sends shape b t (Some c) h = each_to M (Process me) _ (MConsensus c (stamp t) b) (λ to. h c to refl)

  pub finished_sends : (id : CommandId) (sheet : Sheet) (o : Option Command) (final : Option ℕ) (state : ProcessState) →
      ((c : Command) (t : ℕ) → o ≡ Some c → M (message (Process me) (Executor me) (MCommitted c (stamp t)))) →
      EachSent M (finished me id sheet o final state)
  finished_sends id sheet None None state h = tt
  finished_sends id sheet None (Some t) state h = tt
  finished_sends id sheet (Some c) None state h = tt
  finished_sends id sheet (Some c) (Some t) state h = (h c t refl, tt)

  pub learned_sends : (shape : Shape) (id : CommandId) (q t : ℕ) (sheet : Sheet) (state : ProcessState) →
      ((c : Command) (t : ℕ) → sheet.command ≡ Some c → M (message (Process me) (Executor me) (MCommitted c (stamp t)))) →
      EachSent M (learned shape me id q t sheet state)
  learned_sends shape id q t sheet state h =
      let known = with_stamp q t sheet in
      cond_both (is_some (stamp_of sheet q)) (with_sheet id sheet state, [])
      (finished me id known known.command (final_stamp shape known known.command) state)
      (EachSent M) (λ e. tt) (λ e. finished_sends id known known.command (final_stamp shape known known.command) state h)

  pub decided_sends : (shape : Shape) (id : CommandId) (t : ℕ) (sheet : Sheet) (state : ProcessState) →
      ((c : Command) (to : ActorName) (t : ℕ) → sheet.command ≡ Some c → M (message (Process me) to (MCommit c me.partition (stamp t)))) →
      ((c : Command) (t : ℕ) → sheet.command ≡ Some c → M (message (Process me) (Executor me) (MCommitted c (stamp t)))) →
      EachSent M (decided shape me id t sheet state)
  decided_sends shape id t sheet state h k =
      each_append M (commit_messages shape me sheet.command t) (learned shape me id me.partition.0 t sheet state).1
      (commit_messages_send shape sheet.command t (λ c to e. h c to t e)) (learned_sends shape id me.partition.0 t sheet state k)

  pub on_submit_sends : (s : QuorumRule) (c : Command) (state : ProcessState) →
      ((to : ActorName) (t : ℕ) → M (message (Process me) to (MPropose c (stamp t)))) →
      ((to : ActorName) → M (message (Process me) to (MPayload c))) →
      ((to : ActorName) (id : CommandId) (t : ℕ) → M (message (Process me) to (MBump id (stamp t)))) →
      EachSent M (on_submit s me c state)
  on_submit_sends s c state h k l =
      let sheet = state.sheets c.id in
      let t = next_stamp 0 state in
      cond_both ((c.home.0 == me.rank.0) && is_fresh me.partition.0 sheet) (submitted s me c t sheet state) (state, []) (EachSent M)
      (λ e. each_append M (proposals s me c t) (bumps s.shape me (command_or c sheet) t)
      (proposals_send s c t (λ to. h to t) k) (bumps_send s.shape (command_or c sheet) t (λ to. l to (command_or c sheet).id t)))
      (λ e. tt)

  pub on_propose_sends : (s : QuorumRule) (from : ActorName) (c : Command) (floor : ℕ) (state : ProcessState) →
      ((t : ℕ) → M (message (Process me) from (MProposeAck c.id (stamp t)))) →
      ((to : ActorName) (id : CommandId) (t : ℕ) → M (message (Process me) to (MBump id (stamp t)))) →
      EachSent M (on_propose s me from c floor state)
  on_propose_sends s from c floor state h k =
      let sheet = state.sheets c.id in
      let t = next_stamp floor state in
      cond_both (is_fresh me.partition.0 sheet) (propose_and_acknowledge s me from c t sheet state) (state, []) (EachSent M)
      (λ e. (h t, bumps_send s.shape (command_or c sheet) t (λ to. k to (command_or c sheet).id t)))
      (λ e. tt)

  pub on_payload_sends : (c : Command) (state : ProcessState) → EachSent M (on_payload c state)
  on_payload_sends c state = tt

  pub follow_choice_sends : (s : QuorumRule) (id : CommandId) (choice : FastChoice) (sheet : Sheet) (state : ProcessState) →
      ((c : Command) (to : ActorName) (t : ℕ) → sheet.command ≡ Some c → M (message (Process me) to (MCommit c me.partition (stamp t)))) →
      ((c : Command) (t : ℕ) → sheet.command ≡ Some c → M (message (Process me) (Executor me) (MCommitted c (stamp t)))) →
      ((c : Command) (to : ActorName) (t b : ℕ) → sheet.command ≡ Some c → M (message (Process me) to (MConsensus c (stamp t) b))) →
      EachSent M (follow_choice s me id choice sheet state)
  follow_choice_sends s id (Fast t) sheet state h k l = decided_sends s.shape id t.0 sheet state h k
  follow_choice_sends s id (Slow t) sheet state h k l = put_to_vote_sends s.shape me.rank.0 t.0 sheet.command (λ c to e. l c to t.0 me.rank.0 e)

  pub conclude_fast_path_sends : (s : QuorumRule) (id : CommandId) (sheet : Sheet) (state : ProcessState) →
      ((c : Command) (to : ActorName) (t : ℕ) → sheet.command ≡ Some c → M (message (Process me) to (MCommit c me.partition (stamp t)))) →
      ((c : Command) (t : ℕ) → sheet.command ≡ Some c → M (message (Process me) (Executor me) (MCommitted c (stamp t)))) →
      ((c : Command) (to : ActorName) (t b : ℕ) → sheet.command ≡ Some c → M (message (Process me) to (MConsensus c (stamp t) b))) →
      EachSent M (conclude_fast_path s me id sheet state)
  conclude_fast_path_sends s id sheet state h k l =
      let choice = fast_choice s.shape (present sheet.acknowledged) in
      cond_both (is_full s.shape sheet) (follow_choice s me id choice sheet state) (with_sheet id sheet state, []) (EachSent M)
      (λ e. follow_choice_sends s id choice sheet state h k l) (λ e. tt)

  pub on_propose_ack_sends : (s : QuorumRule) (from : ActorName) (id : CommandId) (t : ℕ) (state : ProcessState) →
      ((c : Command) (to : ActorName) (t : ℕ) → (state.sheets id).command ≡ Some c → M (message (Process me) to (MCommit c me.partition (stamp t)))) →
      ((c : Command) (t : ℕ) → (state.sheets id).command ≡ Some c → M (message (Process me) (Executor me) (MCommitted c (stamp t)))) →
      ((c : Command) (to : ActorName) (t b : ℕ) → (state.sheets id).command ≡ Some c → M (message (Process me) to (MConsensus c (stamp t) b))) →
      EachSent M (on_propose_ack s me from id t state)
  on_propose_ack_sends s from id t state h k l =
      let rank = rank_of from in
      cond_both (can_acknowledge s me.partition.0 me.rank.0 rank (state.sheets id)) (conclude_fast_path s me id (acknowledged rank t (state.sheets id)) state)
      (state, []) (EachSent M)
      (λ e. conclude_fast_path_sends s id (acknowledged rank t (state.sheets id)) state h k l) (λ e. tt)

  pub on_consensus_sends : (from : ActorName) (c : Command) (t b : ℕ) (state : ProcessState) →
      M (message (Process me) from (MConsensusAck c.id b)) → EachSent M (on_consensus me from c t b state)
  on_consensus_sends from c t b state h =
      let sheet = state.sheets c.id in
      cond_both (can_accept me.partition.0 b sheet && nat_lt b STAMP_LIMIT) (accept_and_vote me from c t b sheet state) (state, []) (EachSent M)
      (λ e. (h, tt)) (λ e. tt)

  pub voted_sends : (s : QuorumRule) (id : CommandId) (o : Option ℕ) (sheet : Sheet) (state : ProcessState) →
      ((c : Command) (to : ActorName) (t : ℕ) → sheet.command ≡ Some c → M (message (Process me) to (MCommit c me.partition (stamp t)))) →
      ((c : Command) (t : ℕ) → sheet.command ≡ Some c → M (message (Process me) (Executor me) (MCommitted c (stamp t)))) →
      EachSent M (voted s me id o sheet state)
  voted_sends s id None sheet state h k = tt
  voted_sends s id (Some t) sheet state h k = decided_sends s.shape id t sheet state h k

  pub on_consensus_ack_sends : (s : QuorumRule) (from : ActorName) (id : CommandId) (b : ℕ) (state : ProcessState) →
      ((c : Command) (to : ActorName) (t : ℕ) → (state.sheets id).command ≡ Some c → M (message (Process me) to (MCommit c me.partition (stamp t)))) →
      ((c : Command) (t : ℕ) → (state.sheets id).command ≡ Some c → M (message (Process me) (Executor me) (MCommitted c (stamp t)))) →
      EachSent M (on_consensus_ack s me from id b state)
  on_consensus_ack_sends s from id b state h k =
      let sheet = with_vote (rank_of from) (state.sheets id) in
      cond_both (can_vote me.partition.0 b (state.sheets id)) (voted s me id (stamp_decided s.shape sheet) sheet state) (state, []) (EachSent M)
      (λ e. voted_sends s id (stamp_decided s.shape sheet) sheet state h k) (λ e. tt)

  pub on_commit_sends : (s : QuorumRule) (c : Command) (q t : ℕ) (state : ProcessState) →
      ((d : Command) (t : ℕ) → (with_command c (state.sheets c.id)).command ≡ Some d → M (message (Process me) (Executor me) (MCommitted d (stamp t)))) →
      EachSent M (on_commit s me c q t state)
  on_commit_sends s c q t state h =
      let sheet = with_command c (state.sheets c.id) in
      cond_both (is_accessed s.shape.partitions c q) (learned s.shape me c.id q t sheet state) (state, []) (EachSent M)
      (λ e. learned_sends s.shape c.id q t sheet state h) (λ e. tt)

  pub answer_recovery_sends : (s : QuorumRule) (from : ActorName) (c : Command) (b : ℕ) (sheet : Sheet) (state : ProcessState) →
      ((x a : ℕ) (made : Made) → M (message (Process me) from (MRecAck c.id (stamp x) made a b))) →
      ((to : ActorName) (id : CommandId) (t : ℕ) → M (message (Process me) to (MBump id (stamp t)))) →
      EachSent M (answer_recovery s me from c b sheet state)
  answer_recovery_sends s from c b sheet state h k =
      let t = next_stamp 0 state in
      let late = with_ballot b (with_proposal t Recovery (with_command c sheet)) in
      let new = with_ballot b (with_command c sheet) in
      cond_both (is_untouched sheet) (propose_and_answer s me from c b t sheet state) (answer_with_old_proposal me from c b sheet state) (EachSent M)
      (λ e. (h (stamp_told late) late.accepted_ballot (made_of late.proposal), bumps_send s.shape (command_or c sheet) t (λ to. k to (command_or c sheet).id t)))
      (λ e. (h (stamp_told new) new.accepted_ballot (made_of new.proposal), tt))

  commit_reply_sends : (from : ActorName) (o : Option Command) (t : ℕ) →
      ((d : Command) → o ≡ Some d → M (message (Process me) from (MCommit d me.partition (stamp t)))) → Each M (commit_reply me from o t)
  commit_reply_sends from None t g = tt
  commit_reply_sends from (Some d) t g = (g d refl, tt)

  on_rec_by_stamp_sends : (s : QuorumRule) (from : ActorName) (c : Command) (b : ℕ) (o : Option ℕ) (state : ProcessState) →
      ((d : Command) (t : ℕ) → (state.sheets c.id).command ≡ Some d → M (message (Process me) from (MCommit d me.partition (stamp t)))) →
      ((x a : ℕ) (made : Made) → M (message (Process me) from (MRecAck c.id (stamp x) made a b))) →
      ((to : ActorName) (id : CommandId) (t : ℕ) → M (message (Process me) to (MBump id (stamp t)))) →
      EachSent M (on_rec_by_stamp s me from c b o state)
  on_rec_by_stamp_sends s from c b (Some t) state g h k = commit_reply_sends from (state.sheets c.id).command t (λ d e. g d t e)
  on_rec_by_stamp_sends s from c b None state g h k =
      cond_both (nat_lt (state.sheets c.id).ballot b && nat_lt b STAMP_LIMIT) (answer_recovery s me from c b (state.sheets c.id) state) (state, []) (EachSent M)
      (λ e. answer_recovery_sends s from c b (state.sheets c.id) state h k) (λ e. tt)

  pub on_rec_sends : (s : QuorumRule) (from : ActorName) (c : Command) (b : ℕ) (state : ProcessState) →
      ((d : Command) (t : ℕ) → (state.sheets c.id).command ≡ Some d → M (message (Process me) from (MCommit d me.partition (stamp t)))) →
      ((x a : ℕ) (made : Made) → M (message (Process me) from (MRecAck c.id (stamp x) made a b))) →
      ((to : ActorName) (id : CommandId) (t : ℕ) → M (message (Process me) to (MBump id (stamp t)))) →
      EachSent M (on_rec s me from c b state)
  on_rec_sends s from c b state g h k = on_rec_by_stamp_sends s from c b (stamp_of (state.sheets c.id) me.partition.0) state g h k

  put_recovered_sends : (s : QuorumRule) (id : CommandId) (b : ℕ) (o : Option Command) (sheet : Sheet) (state : ProcessState) →
      ((c : Command) (to : ActorName) (t : ℕ) → o ≡ Some c → M (message (Process me) to (MConsensus c (stamp t) b))) →
      EachSent M (put_recovered s me id b o sheet state)
  put_recovered_sends s id b None sheet state h = tt
  put_recovered_sends s id b (Some c) sheet state h =
      let t = recovery_choice (s.in_quorum c) c.home.0 (present sheet.answers) in put_to_vote_sends s.shape b t (Some c) (λ d to e. h d to t e)

  pub on_rec_ack_sends : (s : QuorumRule) (from : ActorName) (id : CommandId) (t : ℕ) (made : Made) (a b : ℕ) (state : ProcessState) →
      ((c : Command) (to : ActorName) (t : ℕ) → (state.sheets id).command ≡ Some c → M (message (Process me) to (MConsensus c (stamp t) b))) →
      EachSent M (on_rec_ack s me from id t made a b state)
  on_rec_ack_sends s from id t made a b state h =
      let new : RecoveryAnswer = record { rank = record { 0 = rank_of from }; stamp = record { 0 = t }; made = made; accepted = a } in
      let sheet = with_answer new (state.sheets id) in
      cond_both (can_answer me.partition.0 b (rank_of from) (state.sheets id)) (recovered s me id b sheet state) (state, []) (EachSent M)
      (λ e. cond_both (is_recovered s.shape sheet) (put_recovered s me id b sheet.command sheet state) (with_sheet id sheet state, []) (EachSent M)
      (λ all. put_recovered_sends s id b sheet.command sheet state h) (λ all. tt))
      (λ e. tt)

  asked_sends : (shape : Shape) (b : ℕ) (o : Option Command) → ((c : Command) (to : ActorName) → o ≡ Some c → M (message (Process me) to (MRec c b))) →
      Each M (asked shape me b o)
  asked_sends shape b None h = tt
  asked_sends shape b (Some c) h = each_to M (Process me) _ (MRec c b) (λ to. h c to refl)

  pub on_recover_sends : (shape : Shape) (id : CommandId) (state : ProcessState) →
      ((c : Command) (to : ActorName) (b : ℕ) → (state.sheets id).command ≡ Some c → M (message (Process me) to (MRec c b))) →
      EachSent M (on_recover shape me id state)
  on_recover_sends shape id state h =
      let sheet = state.sheets id in
      let b = next_ballot shape me.rank.0 sheet.ballot sheet.tried in
      cond_both (is_some sheet.command && is_none (stamp_of sheet me.partition.0) && has_next sheet) (recovering shape me id b sheet state) (state, []) (EachSent M)
      (λ e. asked_sends shape b sheet.command (λ c to same. h c to b same)) (λ e. tt)

  pub on_announce_sends : (shape : Shape) (state : ProcessState) →
      ((to : ActorName) (lo hi : ℕ) (pairs : List Pair) → M (message (Process me) to (MPromises lo hi pairs))) → EachSent M
      (on_announce shape me state)
  unfolding announced
  on_announce_sends shape state h =
      let next : ProcessState = record { clock = state.clock; told = state.clock; attached = state.attached; sheets = state.sheets } in
      cond_both (nat_lt state.told state.clock) (next, announced shape me state) (state, []) (EachSent M)
      (λ e. each_to M (Process me) _ (MPromises state.told state.clock (untold state)) (λ to. h to state.told state.clock (untold state))) (λ e. tt)

  -- a step without room sends nothing
  pub with_room_sends : (state : ProcessState) (moved : Step) → EachSent M moved → EachSent M (with_room state moved)
  with_room_sends state moved h = cond_both (nat_lt moved.0.clock STAMP_LIMIT) moved (state, []) (EachSent M) (λ e. h) (λ e. tt)
