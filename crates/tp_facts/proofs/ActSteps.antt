-- Each act of a process is one of the steps by cases: what `react` does, taken apart test by test.
-- Used wherever a proof goes by cases over what a process did.
use Rattle.std.proofs.Common.{◌≡◌, ℕ, Bool, true, List, [], ◌++◌, length, Option, Some, None, refl, sym, ap, ◌∙◌, subst, arith}
use Rattle.std.proofs.lemmas.Bool.{and_parts, both_ways, cond_both, eqb-true, leb-true, ltb-true}
use Rattle.std.specs.Prelude.{is_none, is_some, nat_le, nat_lt, ◌==◌, ◌&&◌}
use Rattle.tp_base.proofs.Options.{absent, none_of}
use Rattle.tp_base.specs.Limits.{STAMP_LIMIT}
use Rattle.tp_base.specs.Names.{same_name}
use Rattle.tp_base.specs.declared.names.ActorName.TheVariants.{Process}
use Rattle.tp_base.specs.declared.names.CommandId.{CommandId}
use Rattle.tp_base.specs.declared.names.Made.{Made}
use Rattle.tp_base.specs.declared.names.Made.TheVariants.{Proposal, Recovery}
use Rattle.tp_base.specs.declared.names.Site.{Site}
use Rattle.tp_ops.specs.Parts.{is_accessed}
use Rattle.tp_ops.specs.declared.command.Command.{Command}
use Rattle.tp_paxos.specs.Votes.{count_votes, PutStamp, decision, is_put_at, voted_by, voted_too}
use Rattle.tp_quorum.specs.Choice.{present, is_fast, fast_choice}
use Rattle.tp_quorum.specs.declared.choice.FastChoice.{FastChoice}
use Rattle.tp_quorum.specs.declared.choice.FastChoice.TheVariants.{Fast, Slow}
use Rattle.tp_rules.proofs.sent.SendsOfProcess.{stamp}
use Rattle.tp_rules.specs.Acts.{Act, Took, Did}
use Rattle.tp_rules.specs.Addresses.{is_body_at, is_name_of, rank_of}
use Rattle.tp_rules.specs.Process.{Step, ProcessState, accept_and_vote, answer_with_old_proposal, announced, follow_choice, commit_messages, finished, conclude_fast_path, has_next, answer_recovery, learned, next_stamp, on_body, on_commit, on_consensus, on_consensus_ack, on_propose, on_propose_ack, on_rec_ack, on_rec_by_stamp, on_recover, on_submit, propose_and_acknowledge, proposing, propose_and_answer, put_recovered, react, recovered, recovering, submitted, voted, with_room, with_sheet}
use Rattle.tp_rules.specs.Sheet.{QuorumRule, Sheet, acknowledged, can_accept, can_acknowledge, can_answer, can_vote, final_stamp, stamp_decided, is_fresh, is_full, is_recovered, is_untouched, with_command, stamp_of, with_answer, with_proposal, with_stamp, with_vote}
use Rattle.tp_rules.specs.declared.event.Inner.TheVariants.{Announce, Recover}
use Rattle.tp_topology.specs.Ballots.{next_ballot}
use Rattle.tp_topology.specs.Shape.{recovery_size, slow_size}
use Rattle.tp_wire.specs.declared.message.Body.{Body}
use Rattle.tp_wire.specs.declared.message.Body.TheVariants.{MSubmit, MPropose, MPayload, MProposeAck, MBump, MConsensus, MConsensusAck, MCommit, MRec, MRecAck}
use Rattle.tp_wire.specs.declared.message.Message.{Message}
use Rattle.tp_facts.proofs.StepCases.{IsFinal, untold, final, recovery_answer, greatest_acknowledged, with_acknowledgement, SheetStep, submits, submits_and_acknowledges, proposes, keeps_payload, counts_acknowledgement, decides_fast, puts_slow, accepts, counts_vote, decides_by_votes, knows_already, learns, proposes_and_answers_recovery, answers_recovery, counts_answer, puts_recovered, starts_recovery, ProcessStep, does_nothing, bumps_clock, announces, passes_commit_on, changes_sheet, attaches_proposal}
use Rattle.tp_facts.proofs.RuleTests.{CanAcknowledge, CanAnswer, can_acknowledge_is, can_answer_is, fresh_is, proposed_before}

module _ (s : QuorumRule) (me : Site) (act : Act) (state : ProcessState) where
  abbrev IsStep : Step → Type 0
  IsStep moved = ProcessStep s me act state moved

  abbrev IsSheetStep : CommandId → Sheet → List Message → Type 0
  IsSheetStep id new out = SheetStep s me act id (state.sheets id) new out

  -- what the site's executor is told after a stamp was learned, and after other messages
  finished_step : (id : CommandId) (sheet : Sheet) (o : Option Command) (last : Option ℕ) (before : List Message)
      → sheet.command ≡ o → final_stamp s.shape sheet o ≡ last → sheet.proposal ≡ (state.sheets id).proposal
      → ((out : List Message) → IsFinal s.shape me sheet out → IsSheetStep id sheet (before ++ out))
      → IsStep ((finished me id sheet o last state).0, before ++ (finished me id sheet o last state).1)
  finished_step id sheet None last before e f same step = changes_sheet state.clock (omega arith) (step [] untold) same
  finished_step id sheet (Some c) None before e f same step =
      changes_sheet state.clock (omega arith) (step [] untold) same
  finished_step id sheet (Some c) (Some t) before e f same step =
      changes_sheet _ (omega arith) (step _ (final c t e f)) same

  -- a stamp is learned, or was known
  learned_step : (id : CommandId) (q t : ℕ) (sheet : Sheet) (before : List Message)
      → sheet.proposal ≡ (state.sheets id).proposal
      → (stamp_of sheet q ≡ None → (out : List Message) → IsFinal s.shape me (with_stamp q t sheet) out
      → IsSheetStep id (with_stamp q t sheet) (before ++ out))
      → (is_some (stamp_of sheet q) ≡ true → IsSheetStep id sheet (before ++ []))
      → IsStep ((learned s.shape me id q t sheet state).0, before ++ (learned s.shape me id q t sheet state).1)
  learned_step id q t sheet before same step again =
      let known : Sheet = with_stamp q t sheet in
      cond_both (is_some (stamp_of sheet q)) (with_sheet id sheet state, [])
      (finished me id known known.command (final_stamp s.shape known known.command) state)
      (λ (moved : Step). IsStep (moved.0, before ++ moved.1))
      (λ y. changes_sheet state.clock (omega arith) (again y) same)
      (λ n. finished_step id known known.command (final_stamp s.shape known known.command) before refl refl same
      (step (absent (stamp_of sheet q) n)))

-- what each kind of message does
module _ (s : QuorumRule) (me : Site) (m : Message) (state : ProcessState) where
  abbrev IsTaken : Step → Type 0
  IsTaken moved = ProcessStep s me (Took m) state moved

  submit_step : (c : Command) → m.body ≡ MSubmit c → IsTaken (on_submit s me c state)
  submit_step c e =
      let old : Sheet = state.sheets c.id in
      let t : ℕ = next_stamp 0 state in
      let new : Sheet = with_proposal t Proposal (with_command c old) in
      cond_both ((c.home.0 == me.rank.0) && is_fresh me.partition.0 old) (submitted s me c t old state) (state, [])
      IsTaken
      (λ y.
      let both = and_parts (c.home.0 == me.rank.0) (is_fresh me.partition.0 old) y in
      let home = eqb-true c.home.0 me.rank.0 both.0 in
      let fresh = fresh_is me.partition.0 old both.1 in
      cond_both (can_acknowledge s me.partition.0 me.rank.0 me.rank.0 new) (acknowledged me.rank.0 t new) new
      (λ (sheet : Sheet). IsTaken (proposing c.id t sheet state, (submitted s me c t old state).1))
      (λ can. attaches_proposal t Proposal (omega arith)
      (submits_and_acknowledges c t e home fresh (can_acknowledge_is s me.partition.0 me.rank.0 me.rank.0 new can))
      fresh refl)
      (λ cannot. attaches_proposal t Proposal (omega arith) (submits c t e home fresh) fresh refl))
      (λ n. does_nothing)

  propose_step : (c : Command) (floor : ℕ) → m.body ≡ MPropose c (stamp floor)
      → IsTaken (on_propose s me m.from c floor state)
  propose_step c floor e =
      let old : Sheet = state.sheets c.id in
      let t : ℕ = next_stamp floor state in
      cond_both (is_fresh me.partition.0 old) (propose_and_acknowledge s me m.from c t old state) (state, []) IsTaken
      (λ y.
      let fresh = fresh_is me.partition.0 old y in
      attaches_proposal t Proposal (omega arith) (proposes c floor t e (omega arith) fresh) fresh refl)
      (λ n. does_nothing)

  -- the fast quorum is full
  follow_choice_step : (id : CommandId) (t : ℕ) → m.body ≡ MProposeAck id (stamp t)
      → CanAcknowledge s me.partition.0 me.rank.0 (rank_of m.from) (state.sheets id)
      → is_full s.shape (with_acknowledgement m t (state.sheets id)) ≡ true
      → IsTaken
      (follow_choice s me id (fast_choice s.shape (present (with_acknowledgement m t (state.sheets id)).acknowledged))
      (with_acknowledgement m t (state.sheets id)) state)
  unfolding fast_choice
  follow_choice_step id t e can full =
      let new : Sheet = with_acknowledgement m t (state.sheets id) in
      let top : ℕ = greatest_acknowledged new in
      cond_both (is_fast s.shape (present new.acknowledged)) (Fast (stamp top)) (Slow (stamp top))
      (λ (choice : FastChoice). IsTaken (follow_choice s me id choice new state))
      (λ fast. learned_step s me (Took m) state id me.partition.0 top new (commit_messages s.shape me new.command top) refl
      (λ none out last. decides_fast id t e can full fast last)
      (λ some. absurd (both_ways _ (ap (λ (o : Option _). is_some o) can.known) some)))
      (λ slow. changes_sheet state.clock (omega arith) (puts_slow id t e can full slow) refl)

  propose_ack_step : (id : CommandId) (t : ℕ) → m.body ≡ MProposeAck id (stamp t)
      → IsTaken (on_propose_ack s me m.from id t state)
  propose_ack_step id t e =
      let old : Sheet = state.sheets id in
      let new : Sheet = acknowledged (rank_of m.from) t old in
      cond_both (can_acknowledge s me.partition.0 me.rank.0 (rank_of m.from) old) (conclude_fast_path s me id new state)
      (state, []) IsTaken
      (λ y.
      let can = can_acknowledge_is s me.partition.0 me.rank.0 (rank_of m.from) old y in
      cond_both (is_full s.shape new) (follow_choice s me id (fast_choice s.shape (present new.acknowledged)) new state)
      (with_sheet id new state, []) IsTaken
      (λ full. follow_choice_step id t e can full)
      (λ few. changes_sheet state.clock (omega arith) (counts_acknowledgement id t e can few) refl))
      (λ n. does_nothing)

  consensus_step : (c : Command) (t b : ℕ) → m.body ≡ MConsensus c (stamp t) b
      → IsTaken (on_consensus me m.from c t b state)
  consensus_step c t b e =
      let old : Sheet = state.sheets c.id in
      cond_both (can_accept me.partition.0 b old && nat_lt b STAMP_LIMIT) (accept_and_vote me m.from c t b old state) (state, [])
      IsTaken
      (λ y.
      let can =
      and_parts (is_none (stamp_of old me.partition.0)) (nat_le old.ballot b)
      (and_parts (can_accept me.partition.0 b old) (nat_lt b STAMP_LIMIT) y).0 in
      changes_sheet _ (omega arith)
      (accepts c t b e (none_of (stamp_of old me.partition.0) can.0) (leb-true old.ballot b can.1)) refl)
      (λ n. does_nothing)

  vote_step : (id : CommandId) (b : ℕ) → m.body ≡ MConsensusAck id b → stamp_of (state.sheets id) me.partition.0 ≡ None
      → (o : Option PutStamp) → (state.sheets id).put ≡ o → is_put_at b o ≡ true
      → IsTaken (voted s me id (decision s.shape (voted_by (rank_of m.from) o)) (with_vote (rank_of m.from) (state.sheets id)) state)
  vote_step id b e none None is at = absurd cc
  vote_step id b e none (Some put) is at =
      let old : Sheet = state.sheets id in
      let rank : ℕ = rank_of m.from in
      let new : Sheet = with_vote rank old in
      let e_at : m.body ≡ MConsensusAck id put.ballot = e ∙ ap (λ (n : ℕ). MConsensusAck id n) (sym (eqb-true put.ballot b at)) in
      cond_both (nat_le (slow_size s.shape) (count_votes (voted_too rank put).votes)) (Some put.stamp) None
      (λ (o : Option ℕ). IsTaken (voted s me id o new state))
      (λ enough. learned_step s me (Took m) state id me.partition.0 put.stamp new
      (commit_messages s.shape me old.command put.stamp) refl
      (λ _ out last. subst
      (λ (o : Option PutStamp).
      SheetStep s me (Took m) id (record old { put = o })
      (with_stamp me.partition.0 put.stamp (with_vote rank (record old { put = o })))
      (commit_messages s.shape me old.command put.stamp ++ out))
      (sym is)
      (decides_by_votes {m = m} old id put e_at none
      (leb-true (slow_size s.shape) (count_votes (voted_too rank put).votes) enough)
      (subst
      (λ (o : Option PutStamp).
      IsFinal s.shape me (with_stamp me.partition.0 put.stamp (with_vote rank (record old { put = o }))) out)
      is last)))
      (λ known. absurd (both_ways _ (ap (λ (o : Option _). is_some o) none) known)))
      (λ few. changes_sheet state.clock (omega arith)
      (subst
      (λ (o : Option PutStamp).
      SheetStep s me (Took m) id (record old { put = o }) (with_vote rank (record old { put = o })) [])
      (sym is) (counts_vote {m = m} old id put e_at none)) refl)

  consensus_ack_step : (id : CommandId) (b : ℕ) → m.body ≡ MConsensusAck id b
      → IsTaken (on_consensus_ack s me m.from id b state)
  consensus_ack_step id b e =
      let old : Sheet = state.sheets id in
      let new : Sheet = with_vote (rank_of m.from) old in
      cond_both (can_vote me.partition.0 b old) (voted s me id (stamp_decided s.shape new) new state) (state, []) IsTaken
      (λ y.
      let x = and_parts (is_none (stamp_of old me.partition.0)) (is_put_at b old.put) y in
      vote_step id b e (none_of (stamp_of old me.partition.0) x.0) old.put refl x.1)
      (λ n. does_nothing)

  commit_step : (c : Command) (q t : ℕ) → m.body ≡ MCommit c (record { 0 = q }) (stamp t)
      → IsTaken (on_commit s me c q t state)
  commit_step c q t e =
      let old : Sheet = state.sheets c.id in
      cond_both (is_accessed s.shape.partitions c q) (learned s.shape me c.id q t (with_command c old) state) (state, [])
      IsTaken
      (λ y. learned_step s me (Took m) state c.id q t (with_command c old) [] refl
      (λ none out last. learns c q t e none last)
      (λ known. knows_already c q t e))
      (λ n. does_nothing)

  rec_step : (c : Command) (b : ℕ) → m.body ≡ MRec c b → (o : Option ℕ)
      → stamp_of (state.sheets c.id) me.partition.0 ≡ o
      → IsTaken (on_rec_by_stamp s me m.from c b o state)
  rec_step c b e (Some t) known = passes_commit_on c b t refl e known
  rec_step c b e None none =
      let old : Sheet = state.sheets c.id in
      cond_both (nat_lt old.ballot b && nat_lt b STAMP_LIMIT) (answer_recovery s me m.from c b old state) (state, []) IsTaken
      (λ y.
      let low = ltb-true old.ballot b (and_parts (nat_lt old.ballot b) (nat_lt b STAMP_LIMIT) y).0 in
      cond_both (is_untouched old) (propose_and_answer s me m.from c b (next_stamp 0 state) old state)
      (answer_with_old_proposal me m.from c b old state) IsTaken
      (λ first.
      let both = and_parts (is_none old.proposal) (old.ballot == 0) first in
      let nothing = none_of old.proposal both.0 in
      attaches_proposal (next_stamp 0 state) Recovery (omega arith)
      (proposes_and_answers_recovery c b (next_stamp 0 state) e none low nothing (eqb-true old.ballot 0 both.1))
      nothing refl)
      (λ touched. changes_sheet state.clock (omega arith)
      (answers_recovery c b e none low (proposed_before (is_none old.proposal) old.ballot touched)) refl))
      (λ n. does_nothing)

  recovered_step : (id : CommandId) (t : ℕ) (made : Made) (a b : ℕ) → m.body ≡ MRecAck id (stamp t) made a b
      → CanAnswer me.partition.0 b (rank_of m.from) (state.sheets id) → (o : Option Command)
      → (state.sheets id).command ≡ o
      → length (present (with_answer (recovery_answer m t made a) (state.sheets id)).answers) ≡ recovery_size s.shape
      → IsTaken (put_recovered s me id b o (with_answer (recovery_answer m t made a) (state.sheets id)) state)
  recovered_step id t made a b e can None is enough =
      changes_sheet state.clock (omega arith) (counts_answer id t made a b e can) refl
  recovered_step id t made a b e can (Some c) is enough =
      changes_sheet state.clock (omega arith) (puts_recovered id t made a b c e can is enough) refl

  rec_ack_step : (id : CommandId) (t : ℕ) (made : Made) (a b : ℕ) → m.body ≡ MRecAck id (stamp t) made a b
      → IsTaken (on_rec_ack s me m.from id t made a b state)
  rec_ack_step id t made a b e =
      let old : Sheet = state.sheets id in
      let new : Sheet = with_answer (recovery_answer m t made a) old in
      cond_both (can_answer me.partition.0 b (rank_of m.from) old) (recovered s me id b new state) (state, [])
      IsTaken
      (λ y.
      let can = can_answer_is me.partition.0 b (rank_of m.from) old y in
      cond_both (is_recovered s.shape new) (put_recovered s me id b new.command new state)
      (with_sheet id new state, []) IsTaken
      (λ enough. recovered_step id t made a b e can old.command refl
      (eqb-true (length (present new.answers)) (recovery_size s.shape) enough))
      (λ few. changes_sheet state.clock (omega arith) (counts_answer id t made a b e can) refl))
      (λ n. does_nothing)

  body_step : (body : Body) → m.body ≡ body → IsTaken (on_body s me m.from body state)
  body_step (MSubmit c) e = submit_step c e
  body_step (MPropose c floor) e = propose_step c floor.0 e
  body_step (MPayload c) e = changes_sheet state.clock (omega arith) (keeps_payload c e) refl
  body_step (MProposeAck id t) e = propose_ack_step id t.0 e
  body_step (MBump id t) e = bumps_clock _ (omega arith)
  body_step (MConsensus c t b) e = consensus_step c t.0 b e
  body_step (MConsensusAck id b) e = consensus_ack_step id b e
  body_step (MCommit c q t) e = commit_step c q.0 t.0 e
  body_step (MRec c b) e = rec_step c b e (stamp_of (state.sheets c.id) me.partition.0) refl
  body_step (MRecAck id t made a b) e = rec_ack_step id t.0 made a b e
  body_step _ e = does_nothing

recover_step : (s : QuorumRule) (me : Site) (id : CommandId) (state : ProcessState)
    → ProcessStep s me (Did (Recover id)) state (on_recover s.shape me id state)
recover_step s me id state =
    let sheet : Sheet = state.sheets id in
    let b : ℕ = next_ballot s.shape me.rank.0 sheet.ballot sheet.tried in
    cond_both (is_some sheet.command && is_none (stamp_of sheet me.partition.0) && has_next sheet)
    (recovering s.shape me id b sheet state) (state, [])
    (ProcessStep s me (Did (Recover id)) state)
    (λ y.
    let both =
    and_parts (is_some sheet.command) (is_none (stamp_of sheet me.partition.0)) (and_parts _ (has_next sheet) y).0 in
    changes_sheet state.clock (omega arith) (starts_recovery id both.0 (none_of (stamp_of sheet me.partition.0) both.1))
    refl)
    (λ n. does_nothing)

-- each act is a step
pub step_of_act : (s : QuorumRule) (me : Site) (act : Act) (state : ProcessState)
    → ProcessStep s me act state (react s me act state)
step_of_act s me (Took m) state =
    let here : Bool =
    same_name m.to (Process me) && is_name_of s.shape m.from && is_body_at s.shape me.partition.0 m.body in
    let moved : Step = on_body s me m.from m.body state in
    cond_both here (with_room state moved) (state, []) (ProcessStep s me (Took m) state)
    (λ y. cond_both (nat_lt moved.0.clock STAMP_LIMIT) moved (state, []) (ProcessStep s me (Took m) state)
    (λ room. body_step s me m state m.body refl) (λ none. does_nothing))
    (λ n. does_nothing)
step_of_act s me (Did Announce) state =
    cond_both (nat_lt state.told state.clock) (
      record {
        clock = state.clock;
        told = state.clock;
        attached = state.attached;
        sheets = state.sheets;
      },
      announced s.shape me state,
    )
    (state, []) (ProcessStep s me (Did Announce) state) (λ y. announces) (λ n. does_nothing)
step_of_act s me (Did (Recover id)) state = recover_step s me id state
step_of_act s me (Did _) state = does_nothing
