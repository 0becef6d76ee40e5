-- One act brings the clock above a number by no more than it proposes, where the stamps that are taken and kept are at
-- most that number. Used for the room of clocks.
use Rattle.std.proofs.Common.{◌≡◌, ℕ, ◌+◌, ◌≤◌, ◌<◌, true, List, [], length, Option, Some, None, is_some, refl, arith}
use Rattle.std.specs.Prelude.{◌==◌, ◌&&◌, is_none, nat_le, nat_lt}
use Rattle.std.proofs.lemmas.Bool.{cond_both, lt-ltb}
use Rattle.tp_base.specs.Limits.{STAMP_LIMIT}
use Rattle.tp_base.specs.Lists.{Each}
use Rattle.tp_base.specs.Tables.{with_nth}
use Rattle.tp_base.specs.Names.{same_name}
use Rattle.tp_base.specs.declared.names.ActorName.{ActorName}
use Rattle.tp_base.specs.declared.names.ActorName.TheVariants.{Process}
use Rattle.tp_base.specs.declared.names.CommandId.{CommandId}
use Rattle.tp_base.specs.declared.names.Made.{Made}
use Rattle.tp_base.specs.declared.names.Site.{Site}
use Rattle.tp_choice.specs.declared.answer.RecoveryAnswer.{RecoveryAnswer}
use Rattle.tp_facts.proofs.RuleTests.{stamp_put}
use Rattle.tp_ops.specs.Parts.{is_accessed}
use Rattle.tp_ops.specs.declared.command.Command.{Command}
use Rattle.tp_paxos.specs.Votes.{PutStamp, count_votes, decision, voted_by}
use Rattle.tp_quorum.specs.Choice.{fast_choice, greatest, is_fast, present}
use Rattle.tp_quorum.specs.declared.choice.FastChoice.{FastChoice}
use Rattle.tp_quorum.specs.declared.choice.FastChoice.TheVariants.{Fast, Slow}
use Rattle.tp_rules.proofs.fit.Stamps.{present_fit, with_fit}
use Rattle.tp_rules.proofs.lists.Selections.{IfAny}
use Rattle.tp_rules.specs.Acts.{Act, Took, Did}
use Rattle.tp_rules.specs.Addresses.{is_body_at, is_name_of, rank_of}
use Rattle.tp_rules.specs.Process.{ProcessState, Step, accept_and_vote, answer_recovery, announced, answer_with_old_proposal, conclude_fast_path, finished, follow_choice, has_next, learned, next_stamp, on_body, on_commit, on_consensus, on_consensus_ack, on_propose, on_propose_ack, on_rec_ack, on_rec_by_stamp, on_submit, propose_and_acknowledge, propose_and_answer, put_recovered, react, recovered, recovering, submitted, voted, with_room, with_sheet}
use Rattle.tp_rules.specs.Sheet.{QuorumRule, Sheet, acknowledged, can_accept, can_acknowledge, can_answer, can_vote, final_stamp, is_fresh, is_full, is_recovered, is_untouched, stamp_decided, stamp_of, with_answer, with_command, with_stamp, with_vote}
use Rattle.tp_rules.specs.declared.event.Inner.TheVariants.{Announce, Recover}
use Rattle.tp_topology.specs.Ballots.{next_ballot}
use Rattle.tp_topology.specs.Shape.{slow_size}
use Rattle.tp_wire.specs.declared.message.Body.{Body}
use Rattle.tp_wire.specs.declared.message.Body.TheVariants.{MSubmit, MPropose, MPayload, MProposeAck, MBump, MConsensus, MConsensusAck, MCommit, MRec, MRecAck}
use Rattle.tp_quiet.proofs.LowSaid.{final_stamp_low}
use Rattle.tp_quiet.proofs.LowStamps.{IsLowAct, IsLowBody, IsLowSheet, greatest_low}

module _ (n : ℕ) (s : QuorumRule) (me : Site) (state : ProcessState) (low : state.clock ≤ n)
    (sheets : (id : CommandId) → IsLowSheet n (state.sheets id)) where
  -- the clock is above the number by no more than what is proposed, which is one stamp at most
  abbrev pub Rises : Step → Type 0
  Rises moved = (moved.0.clock + length state.attached ≤ n + length moved.0.attached)
      × (length moved.0.attached ≤ length state.attached + 1)

  abbrev IsLowTable : List (Option ℕ) → Type 0
  IsLowTable table = Each (IfAny (λ t. t ≤ n)) table

  stays : Rises (state, [])
  stays = (omega (arith, low), omega arith)

  finished_rises : (id : CommandId) (sheet : Sheet) (o : Option Command) (last : Option ℕ)
      → IfAny (λ t. t ≤ n) last → Rises (finished me id sheet o last state)
  finished_rises id sheet None last h = (omega (arith, low), omega arith)
  finished_rises id sheet (Some c) None h = (omega (arith, low), omega arith)
  finished_rises id sheet (Some c) (Some t) h = (omega (arith, low, h), omega arith)

  final_low : (sheet : Sheet) (o : Option Command) → IsLowTable sheet.known
      → IfAny (λ t. t ≤ n) (final_stamp s.shape sheet o)
  final_low sheet None known = tt
  final_low sheet (Some c) known = by_stamp (final_stamp s.shape sheet (Some c)) refl
    where
      by_stamp : (o : Option ℕ) → final_stamp s.shape sheet (Some c) ≡ o → IfAny (λ t. t ≤ n) o
      by_stamp None is = tt
      by_stamp (Some t) is = final_stamp_low n s me s.shape sheet c t known is

  learned_rises : (id : CommandId) (q t : ℕ) (sheet : Sheet) → IsLowTable sheet.known → t ≤ n
      → Rises (learned s.shape me id q t sheet state)
  learned_rises id q t sheet known le =
      let next : Sheet = with_stamp q t sheet in
      cond_both (is_some (stamp_of sheet q)) (with_sheet id sheet state, [])
      (finished me id next next.command (final_stamp s.shape next next.command) state) Rises
      (λ y. (omega (arith, low), omega arith))
      (λ no. finished_rises id next next.command (final_stamp s.shape next next.command)
      (final_low next next.command (with_fit (IfAny (λ (x : ℕ). x ≤ n)) sheet.known q (Some t) known le)))

  submit_rises : (c : Command) → Rises (on_submit s me c state)
  submit_rises c = cond_both ((c.home.0 == me.rank.0) && is_fresh me.partition.0 (state.sheets c.id))
      (submitted s me c (next_stamp 0 state) (state.sheets c.id) state) (state, []) Rises
      (λ y. (omega (arith, low), omega arith)) (λ no. stays)

  propose_rises : (from : ActorName) (c : Command) (floor : ℕ) → floor ≤ n → Rises (on_propose s me from c floor state)
  propose_rises from c floor le = cond_both (is_fresh me.partition.0 (state.sheets c.id))
      (propose_and_acknowledge s me from c (next_stamp floor state) (state.sheets c.id) state) (state, []) Rises
      (λ y. (omega (arith, low, le), omega arith)) (λ no. stays)

  choice_rises : (id : CommandId) (sheet : Sheet) → IsLowTable sheet.known → IsLowTable sheet.acknowledged
      → Rises (follow_choice s me id (fast_choice s.shape (present sheet.acknowledged)) sheet state)
  unfolding fast_choice
  choice_rises id sheet known table =
      let t : ℕ = greatest (present sheet.acknowledged) in
      cond_both (is_fast s.shape (present sheet.acknowledged)) (Fast (record { 0 = t })) (Slow (record { 0 = t }))
      (λ (choice : FastChoice). Rises (follow_choice s me id choice sheet state))
      (λ y. learned_rises id me.partition.0 t sheet known
      (greatest_low n (present sheet.acknowledged) (present_fit (λ (x : ℕ). x ≤ n) sheet.acknowledged table)))
      (λ no. (omega (arith, low), omega arith))

  propose_ack_rises : (from : ActorName) (id : CommandId) (t : ℕ) → t ≤ n → Rises (on_propose_ack s me from id t state)
  propose_ack_rises from id t le =
      let old : Sheet = state.sheets id in
      let new : Sheet = acknowledged (rank_of from) t old in
      cond_both (can_acknowledge s me.partition.0 me.rank.0 (rank_of from) old) (conclude_fast_path s me id new state)
      (state, []) Rises
      (λ y. cond_both (is_full s.shape new)
      (follow_choice s me id (fast_choice s.shape (present new.acknowledged)) new state)
      (with_sheet id new state, []) Rises
      (λ full. choice_rises id new (sheets id).known_low
      (with_fit (IfAny (λ (x : ℕ). x ≤ n)) old.acknowledged (rank_of from) (Some t) (sheets id).acknowledged_low le))
      (λ few. (omega (arith, low), omega arith)))
      (λ no. stays)

  consensus_rises : (from : ActorName) (c : Command) (t b : ℕ) → t ≤ n → Rises (on_consensus me from c t b state)
  consensus_rises from c t b le =
      cond_both (can_accept me.partition.0 b (state.sheets c.id) && nat_lt b STAMP_LIMIT)
      (accept_and_vote me from c t b (state.sheets c.id) state) (state, []) Rises
      (λ y. (omega (arith, low, le), omega arith)) (λ no. stays)

  decision_low : (rank : ℕ) (o : Option PutStamp) → stamp_put o ≤ n
      → IfAny (λ t. t ≤ n) (decision s.shape (voted_by rank o))
  decision_low rank None le = tt
  decision_low rank (Some put) le =
      cond_both (nat_le (slow_size s.shape) (count_votes (with_nth put.votes rank true))) (Some put.stamp) None
      (IfAny (λ t. t ≤ n)) (λ y. le) (λ no. tt)

  voted_rises : (id : CommandId) (o : Option ℕ) (sheet : Sheet) → IsLowTable sheet.known → IfAny (λ t. t ≤ n) o
      → Rises (voted s me id o sheet state)
  voted_rises id None sheet known le = (omega (arith, low), omega arith)
  voted_rises id (Some t) sheet known le = learned_rises id me.partition.0 t sheet known le

  vote_rises : (from : ActorName) (id : CommandId) (b : ℕ) → Rises (on_consensus_ack s me from id b state)
  vote_rises from id b =
      let new : Sheet = with_vote (rank_of from) (state.sheets id) in
      cond_both (can_vote me.partition.0 b (state.sheets id)) (voted s me id (stamp_decided s.shape new) new state)
      (state, []) Rises
      (λ y. voted_rises id (stamp_decided s.shape new) new (sheets id).known_low
      (decision_low (rank_of from) (state.sheets id).put (sheets id).putting_low))
      (λ no. stays)

  commit_rises : (c : Command) (q t : ℕ) → t ≤ n → Rises (on_commit s me c q t state)
  commit_rises c q t le = cond_both (is_accessed s.shape.partitions c q)
      (learned s.shape me c.id q t (with_command c (state.sheets c.id)) state) (state, []) Rises
      (λ y. learned_rises c.id q t (with_command c (state.sheets c.id)) (sheets c.id).known_low le) (λ no. stays)

  rec_rises : (from : ActorName) (c : Command) (b : ℕ) (o : Option ℕ) → Rises (on_rec_by_stamp s me from c b o state)
  rec_rises from c b (Some t) = (omega (arith, low), omega arith)
  rec_rises from c b None =
      let old : Sheet = state.sheets c.id in
      cond_both (nat_lt old.ballot b && nat_lt b STAMP_LIMIT) (answer_recovery s me from c b old state)
      (state, []) Rises
      (λ y. cond_both (is_untouched old) (propose_and_answer s me from c b (next_stamp 0 state) old state)
      (answer_with_old_proposal me from c b old state) Rises
      (λ first. (omega (arith, low), omega arith)) (λ touched. (omega (arith, low), omega arith)))
      (λ no. stays)

  put_rises : (id : CommandId) (b : ℕ) (o : Option Command) (sheet : Sheet)
      → Rises (put_recovered s me id b o sheet state)
  put_rises id b None sheet = (omega (arith, low), omega arith)
  put_rises id b (Some c) sheet = (omega (arith, low), omega arith)

  rec_ack_rises : (from : ActorName) (id : CommandId) (t : ℕ) (made : Made) (a b : ℕ)
      → Rises (on_rec_ack s me from id t made a b state)
  rec_ack_rises from id t made a b =
      let answer : RecoveryAnswer = record {
        rank = record { 0 = rank_of from };
        stamp = record { 0 = t };
        made = made;
        accepted = a;
      } in
      let new : Sheet = with_answer answer (state.sheets id) in
      cond_both (can_answer me.partition.0 b (rank_of from) (state.sheets id)) (recovered s me id b new state)
      (state, []) Rises
      (λ y. cond_both (is_recovered s.shape new) (put_recovered s me id b new.command new state)
      (with_sheet id new state, []) Rises
      (λ enough. put_rises id b new.command new) (λ few. (omega (arith, low), omega arith)))
      (λ no. stays)

  -- the rule of each kind of message
  pub body_rises : (from : ActorName) (body : Body) → IsLowBody n body → Rises (on_body s me from body state)
  body_rises from (MSubmit c) le = submit_rises c
  body_rises from (MPropose c floor) le = propose_rises from c floor.0 le
  body_rises from (MPayload c) le = (omega (arith, low), omega arith)
  body_rises from (MProposeAck id t) le = propose_ack_rises from id t.0 le
  body_rises from (MBump id t) le = (omega (arith, low, le), omega arith)
  body_rises from (MConsensus c t b) le = consensus_rises from c t.0 b le
  body_rises from (MConsensusAck id b) le = vote_rises from id b
  body_rises from (MCommit c q t) le = commit_rises c q.0 t.0 le
  body_rises from (MRec c b) le = rec_rises from c b (stamp_of (state.sheets c.id) me.partition.0)
  body_rises from (MRecAck id t made a b) le = rec_ack_rises from id t.0 made a b
  body_rises from _ le = stays

  pub act_rises : (act : Act) → IsLowAct n act → Rises (react s me act state)
  act_rises (Took m) le =
      let moved : Step = on_body s me m.from m.body state in
      cond_both (same_name m.to (Process me) && is_name_of s.shape m.from && is_body_at s.shape me.partition.0 m.body)
      (with_room state moved) (state, []) Rises
      (λ y. cond_both (nat_lt moved.0.clock STAMP_LIMIT) moved (state, []) Rises (λ room. body_rises m.from m.body le)
      (λ none. stays))
      (λ no. stays)
  act_rises (Did Announce) le =
      let next : ProcessState = record state { told = state.clock } in
      cond_both (nat_lt state.told state.clock) (next, announced s.shape me state) (state, []) Rises
      (λ y. (omega (arith, low), omega arith)) (λ no. stays)
  act_rises (Did (Recover id)) le =
      let sheet : Sheet = state.sheets id in
      cond_both (is_some sheet.command && is_none (stamp_of sheet me.partition.0) && has_next sheet)
      (recovering s.shape me id (next_ballot s.shape me.rank.0 sheet.ballot sheet.tried) sheet state) (state, []) Rises
      (λ y. (omega (arith, low), omega arith)) (λ no. stays)
  act_rises (Did _) le = stays

  -- there is room for it
  pub has_room : (from : ActorName) (body : Body) → IsLowBody n body → n + 1 < STAMP_LIMIT
      → nat_lt (on_body s me from body state).0.clock STAMP_LIMIT ≡ true
  has_room from body le few =
      let rises = body_rises from body le in
      lt-ltb (on_body s me from body state).0.clock STAMP_LIMIT (omega (arith, rises.0, rises.1, few))
