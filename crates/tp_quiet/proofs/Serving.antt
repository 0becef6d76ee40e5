-- A process that takes a message about a command has what it asks for, whether its rule changes anything or not.
-- Used for all messages of a run in which nothing is pending (AllServed).
use Rattle.std.proofs.Common.{◌≡◌, ◌⊎◌, ℕ, ◌<◌, ◌≤◌, Bool, inl, inr, true, false, cond, [], length, Option, Some, None, is_some, refl, sym, ap, subst, arith}
use Rattle.std.specs.Prelude.{◌&&◌, ◌==◌, is_none, nat_lt, not}
use Rattle.std.proofs.lemmas.Bool.{and_from, and_parts, both_ways, cases_Bool, cond_both, eq-eqb, eqb-false, eqb-true, leb-false, lt-ltb, ltb-false}
use Rattle.tp_base.proofs.Ranges.{in_range}
use Rattle.tp_base.proofs.Tables.{kept_here, nth_here}
use Rattle.tp_base.specs.Limits.{STAMP_LIMIT, is_from}
use Rattle.tp_base.specs.Names.{same_id, same_name}
use Rattle.tp_base.specs.Tables.{kept_at, nth}
use Rattle.tp_base.specs.declared.names.ActorName.{ActorName}
use Rattle.tp_base.specs.declared.names.ActorName.TheVariants.{Process}
use Rattle.tp_base.specs.declared.names.CommandId.{CommandId}
use Rattle.tp_base.specs.declared.names.Made.{Made}
use Rattle.tp_base.specs.declared.names.Made.TheVariants.{Proposal}
use Rattle.tp_base.specs.declared.names.Site.{Site}
use Rattle.tp_choice.specs.Choosing.{recovery_choice}
use Rattle.tp_choice.specs.declared.answer.RecoveryAnswer.{RecoveryAnswer}
use Rattle.tp_facts.proofs.RuleTests.{ballot_put}
use Rattle.tp_facts.proofs.SamePartition.{IsPeer}
use Rattle.tp_ops.specs.Parts.{is_accessed}
use Rattle.tp_ops.specs.declared.command.Command.{Command}
use Rattle.tp_paxos.specs.Votes.{PutStamp, is_put_at}
use Rattle.tp_quorum.specs.Choice.{fast_choice, present}
use Rattle.tp_quorum.specs.declared.choice.FastChoice.{FastChoice}
use Rattle.tp_quorum.specs.declared.choice.FastChoice.TheVariants.{Fast, Slow}
use Rattle.tp_rules.specs.Addresses.{is_body_at, is_command_at, is_name_of, rank_of}
use Rattle.tp_rules.specs.Acts.{Took}
use Rattle.tp_rules.specs.Process.{Step, ProcessState, accept_and_vote, answer_recovery, answer_with_old_proposal, conclude_fast_path, follow_choice, learned, next_stamp, on_body, on_commit, on_consensus, on_consensus_ack, on_propose, on_propose_ack, on_rec_ack, on_rec_by_stamp, on_submit, propose_and_acknowledge, propose_and_answer, put_recovered, react, recovered, submitted, voted, with_room, with_sheet}
use Rattle.tp_rules.specs.Sheet.{Proposed, QuorumRule, Sheet, acknowledged, acknowledged_own, can_accept, can_acknowledge, can_answer, can_vote, is_fresh, is_full, is_made_by_proposal, is_member, is_recovered, is_untouched, putting, stamp_decided, stamp_of, with_answer, with_command, with_proposal, with_stamp, with_vote}
use Rattle.tp_topology.specs.Shape.{fast_size}
use Rattle.tp_wire.specs.declared.message.Body.{Body}
use Rattle.tp_wire.specs.declared.message.Body.TheVariants.{MSubmit, MPropose, MProposeAck, MConsensus, MConsensusAck, MCommit, MRec, MRecAck}
use Rattle.tp_wire.specs.declared.message.Message.{Message}
use Rattle.tp_quiet.proofs.EachSheet.{itself, learned_leads, sheet_leads}
use Rattle.tp_quiet.proofs.Gains.{votes_put}
use Rattle.tp_quiet.proofs.Served.{IsServed, IsTouched, IsAcknowledged, IsVoted, IsVoteCounted, IsJoined, IsAnswerCounted, Knows}

-- a full fast quorum was heeded: the stamp is known or put
abbrev pub IsHeeded : QuorumRule → ℕ → Sheet → Type 0
IsHeeded s p sheet = Knows p sheet ⊎ ((0 < ballot_put sheet.put)
    ⊎ (length (present sheet.acknowledged) < fast_size s.shape))

-- a home that sent its own proposal of the command
pub record HasProposed (s : QuorumRule) (me : Site) (of : CommandId → Command) (id : CommandId) (sheet : Sheet) :
    Type 0 where
  pub command : sheet.command ≡ Some (of id)
  pub home : (of id).home.0 ≡ me.rank.0
  pub made : is_made_by_proposal sheet.proposal ≡ true
  pub heeded : IsHeeded s me.partition.0 sheet

-- a message comes in time: its ballot has room, and an answer is to what was asked
abbrev pub IsTimely : QuorumRule → Site → (CommandId → Command) → (CommandId → Sheet) → Body → Type 0
IsTimely s me of sheets (MProposeAck id t) = HasProposed s me of id (sheets id)
IsTimely s me of sheets (MConsensus c t b) = b < STAMP_LIMIT
IsTimely s me of sheets (MConsensusAck id b) = (0 < b) × (b ≤ ballot_put (sheets id).put)
IsTimely s me of sheets (MRec c b) = b < STAMP_LIMIT
IsTimely s me of sheets (MRecAck id t made a b) = (0 < b) × (b ≤ (sheets id).tried)
IsTimely s me of sheets _ = Unit {0}

-- the process and the sender have places in the tables, and what is put has a ballot
pub record HasPlaces (p rank : ℕ) (sheets : CommandId → Sheet) : Type 0 where
  pub partition : 1 ≤ p
  pub rank_low : 1 ≤ rank
  pub stamps : (id : CommandId) → p ≤ length (sheets id).known
  pub acknowledgements : (id : CommandId) → rank ≤ length (sheets id).acknowledged
  pub answered : (id : CommandId) → rank ≤ length (sheets id).answers
  pub voters : (id : CommandId) (put : PutStamp) → (sheets id).put ≡ Some put → rank ≤ length put.votes
  pub ballots : (id : CommandId) (put : PutStamp) → (sheets id).put ≡ Some put → 0 < put.ballot

-- what a rule makes of a command's own sheet

with_sheet_is : (P : Sheet → Type 0) (id : CommandId) (sheet : Sheet) (state : ProcessState) → P sheet
    → P (cond (same_id id id) sheet (state.sheets id))
with_sheet_is P id sheet state h = sheet_leads P id id state (itself P id state) sheet h

module _ (s : QuorumRule) (me : Site) where
  learned_is : (P : Sheet → Type 0) (id : CommandId) (q t : ℕ) (sheet : Sheet) (state : ProcessState)
      → (is_some (stamp_of sheet q) ≡ true → P sheet) → P (with_stamp q t sheet)
      → P ((learned s.shape me id q t sheet state).0.sheets id)
  learned_is P id q t sheet state known new = learned_leads P id id state (itself P id state) s me q t sheet known new

  module _ (of : CommandId → Command) (from : ActorName) (state : ProcessState) where
    -- no stamp, no ballot or no proposal is missing
    untested : (sheet : Sheet) (o : Option ℕ) (q : Option Proposed) → stamp_of sheet me.partition.0 ≡ o
        → sheet.proposal ≡ q → is_fresh me.partition.0 sheet ≡ false → IsTouched s me of sheet
    untested sheet (Some t) q is has_q why = inl (ap (λ (o : Option ℕ). is_some o) is)
    untested sheet None (Some q) is has_q why = inr (inr (ap (λ (o : Option Proposed). is_none o) has_q))
    untested sheet None None is has_q why =
        let apart : (sheet.ballot == 0) ≡ false = grind (arith, why, is, has_q) in
        inr (inl (omega (arith, eqb-false sheet.ballot 0 apart)))

    serve_submit : (c : Command) → c.home.0 ≡ me.rank.0 → IsTouched s me of ((on_submit s me c state).0.sheets c.id)
    serve_submit c home =
        let old : Sheet = state.sheets c.id in
        let t : ℕ = next_stamp 0 state in
        let new : Sheet = with_proposal t Proposal (with_command c old) in
        cond_both ((c.home.0 == me.rank.0) && is_fresh me.partition.0 old) (submitted s me c t old state) (state, [])
        (λ (moved : Step). IsTouched s me of (moved.0.sheets c.id))
        (λ y. with_sheet_is (IsTouched s me of) c.id (acknowledged_own s me.partition.0 me.rank.0 t new) state
        (cond_both (can_acknowledge s me.partition.0 me.rank.0 me.rank.0 new) (acknowledged me.rank.0 t new) new
        (IsTouched s me of) (λ can. inr (inr refl)) (λ cannot. inr (inr refl))))
        (λ n. untested old (stamp_of old me.partition.0) old.proposal refl refl
        (grind (arith, n, eq-eqb c.home.0 me.rank.0 home)))

    serve_propose : (c : Command) (floor : ℕ) → IsTouched s me of ((on_propose s me from c floor state).0.sheets c.id)
    serve_propose c floor =
        let old : Sheet = state.sheets c.id in
        let t : ℕ = next_stamp floor state in
        cond_both (is_fresh me.partition.0 old) (propose_and_acknowledge s me from c t old state) (state, [])
        (λ (moved : Step). IsTouched s me of (moved.0.sheets c.id))
        (λ y. with_sheet_is (IsTouched s me of) c.id (with_proposal t Proposal (with_command c old)) state
        (inr (inr refl)))
        (λ n. untested old (stamp_of old me.partition.0) old.proposal refl refl n)

    serve_consensus : (c : Command) (t b : ℕ) → b < STAMP_LIMIT
        → IsVoted s me of (on_consensus me from c t b state).1 from c.id b
        ((on_consensus me from c t b state).0.sheets c.id)
    serve_consensus c t b room =
        let old : Sheet = state.sheets c.id in
        cond_both (can_accept me.partition.0 b old && nat_lt b STAMP_LIMIT) (accept_and_vote me from c t b old state)
        (state, []) (λ (moved : Step). IsVoted s me of moved.1 from c.id b (moved.0.sheets c.id))
        (λ y. inr (inr (inl refl)))
        (λ n. refused (stamp_of old me.partition.0) refl
        (grind (arith, n, lt-ltb b STAMP_LIMIT room)))
      where
        refused : (o : Option ℕ) → stamp_of (state.sheets c.id) me.partition.0 ≡ o
            → can_accept me.partition.0 b (state.sheets c.id) ≡ false
            → IsVoted s me of [] from c.id b (state.sheets c.id)
        refused (Some x) is why = inl (ap (λ (o : Option ℕ). is_some o) is)
        refused None is why =
            inr (inl (leb-false (state.sheets c.id).ballot b (grind (arith, why, is))))

    serve_vote : (id : CommandId) (b : ℕ) → (0 < b) × (b ≤ ballot_put (state.sheets id).put)
        → HasPlaces me.partition.0 (rank_of from) state.sheets
        → IsVoteCounted s me of from b ((on_consensus_ack s me from id b state).0.sheets id)
    serve_vote id b timely places =
        let old : Sheet = state.sheets id in
        let new : Sheet = with_vote (rank_of from) old in
        cond_both (can_vote me.partition.0 b old) (voted s me id (stamp_decided s.shape new) new state) (state, [])
        (λ (moved : Step). IsVoteCounted s me of from b (moved.0.sheets id))
        (λ y.
        let both = and_parts (is_none (stamp_of old me.partition.0)) (is_put_at b old.put) y in
        let counted = voted_at old.put refl both.1 in
        by_decision (stamp_decided s.shape new) new (inr (inr counted)) (λ t. inr (inr counted)))
        (λ n. refused (stamp_of old me.partition.0) old.put refl refl n)
      where
        voted_at : (o : Option PutStamp) → (state.sheets id).put ≡ o → is_put_at b o ≡ true
            → (ballot_put (with_vote (rank_of from) (state.sheets id)).put ≡ b)
            × (nth (votes_put (with_vote (rank_of from) (state.sheets id)).put) (rank_of from) ≡ Some true)
        voted_at None is at = absurd cc
        voted_at (Some put) is at =
            subst (λ (o : Option PutStamp).
            (ballot_put (with_vote (rank_of from) (record (state.sheets id) { put = o })).put ≡ b)
            × (nth (votes_put (with_vote (rank_of from) (record (state.sheets id) { put = o })).put)
            (rank_of from) ≡ Some true))
            (sym is)
            (eqb-true put.ballot b at, nth_here put.votes (rank_of from) true places.rank_low (places.voters id put is))

        by_decision : (o : Option ℕ) (new : Sheet) → IsVoteCounted s me of from b new
            → ((t : ℕ) → IsVoteCounted s me of from b (with_stamp me.partition.0 t new))
            → IsVoteCounted s me of from b ((voted s me id o new state).0.sheets id)
        by_decision None new same known = with_sheet_is (IsVoteCounted s me of from b) id new state same
        by_decision (Some t) new same known =
            learned_is (IsVoteCounted s me of from b) id me.partition.0 t new state (λ before. same) (known t)

        refused : (o : Option ℕ) (put : Option PutStamp) → stamp_of (state.sheets id) me.partition.0 ≡ o
            → (state.sheets id).put ≡ put → can_vote me.partition.0 b (state.sheets id) ≡ false
            → IsVoteCounted s me of from b (state.sheets id)
        refused (Some t) put is has why = inl (ap (λ (o : Option ℕ). is_some o) is)
        refused None None is has why =
            absurd (let zero : ballot_put (state.sheets id).put ≡ 0 = ap ballot_put has in omega (arith, timely, zero))
        refused None (Some put) is has why =
            let at : ballot_put (state.sheets id).put ≡ put.ballot = ap ballot_put has in
            let apart : (put.ballot == b) ≡ false = grind (arith, why, is, has) in
            inr (inl (omega (arith, timely.1, at, eqb-false put.ballot b apart)))

    serve_commit : (c : Command) (q t : ℕ) → is_accessed s.shape.partitions c q ≡ true → 1 ≤ q
        → q ≤ length (state.sheets c.id).known → Knows q ((on_commit s me c q t state).0.sheets c.id)
    serve_commit c q t on low high =
        let old : Sheet = state.sheets c.id in
        cond_both (is_accessed s.shape.partitions c q) (learned s.shape me c.id q t (with_command c old) state)
        (state, []) (λ (moved : Step). Knows q (moved.0.sheets c.id))
        (λ y. learned_is (Knows q) c.id q t (with_command c old) state (λ known. known)
        (ap (λ (o : Option ℕ). is_some o) (kept_here old.known q t low high)))
        (λ n. absurd cc)

    serve_rec : (c : Command) (b : ℕ) → b < STAMP_LIMIT → (o : Option ℕ)
        → stamp_of (state.sheets c.id) me.partition.0 ≡ o
        → IsJoined s me of b ((on_rec_by_stamp s me from c b o state).0.sheets c.id)
    serve_rec c b room (Some t) is = inl (ap (λ (o : Option ℕ). is_some o) is)
    serve_rec c b room None is =
        let old : Sheet = state.sheets c.id in
        let joined : Sheet → Type 0 = IsJoined s me of b in
        cond_both (nat_lt old.ballot b && nat_lt b STAMP_LIMIT) (answer_recovery s me from c b old state) (state, [])
        (λ (moved : Step). joined (moved.0.sheets c.id))
        (λ y. cond_both (is_untouched old) (propose_and_answer s me from c b (next_stamp 0 state) old state)
        (answer_with_old_proposal me from c b old state) (λ (moved : Step). joined (moved.0.sheets c.id))
        (λ first. with_sheet_is joined c.id _ state (inr (omega arith)))
        (λ touched. with_sheet_is joined c.id _ state (inr (omega arith))))
        (λ n. inr (omega (arith, ltb-false old.ballot b (grind (arith, n, lt-ltb b STAMP_LIMIT room)))))

    serve_propose_ack : (id : CommandId) (t : ℕ) → HasProposed s me of id (state.sheets id)
        → HasPlaces me.partition.0 (rank_of from) state.sheets → s.in_quorum (of id) (rank_of from) ≡ true
        → IsAcknowledged s me of from ((on_propose_ack s me from id t state).0.sheets id)
    serve_propose_ack id t timely places member =
        let old : Sheet = state.sheets id in
        let new : Sheet = acknowledged (rank_of from) t old in
        let counted : Sheet → Type 0 = IsAcknowledged s me of from in
        let there : is_some (kept_at new.acknowledged (rank_of from)) ≡ true =
        ap (λ (o : Option ℕ). is_some o)
        (kept_here old.acknowledged (rank_of from) t places.rank_low (places.acknowledgements id)) in
        cond_both (can_acknowledge s me.partition.0 me.rank.0 (rank_of from) old)
        (conclude_fast_path s me id new state) (state, []) (λ (moved : Step). counted (moved.0.sheets id))
        (λ y. cond_both (is_full s.shape new)
        (follow_choice s me id (fast_choice s.shape (present new.acknowledged)) new state) (with_sheet id new state, [])
        (λ (moved : Step). counted (moved.0.sheets id))
        (λ full. by_choice (fast_choice s.shape (present new.acknowledged)) new there)
        (λ few. with_sheet_is counted id new state (inr (inr (inr there)))))
        (λ n. refused (stamp_of old me.partition.0) old.put
        (cases_Bool (is_some (kept_at old.acknowledged (rank_of from))))
        (cases_Bool (old.ballot == 0)) refl refl n timely.heeded)
      where
        by_choice : (choice : FastChoice) (new : Sheet) → is_some (kept_at new.acknowledged (rank_of from)) ≡ true
            → IsAcknowledged s me of from ((follow_choice s me id choice new state).0.sheets id)
        by_choice (Fast x) new there =
            learned_is (IsAcknowledged s me of from) id me.partition.0 x.0 new state (λ known. inr (inr (inr there)))
            (inr (inr (inr there)))
        by_choice (Slow x) new there =
            with_sheet_is (IsAcknowledged s me of from) id (putting s.shape me.rank.0 x.0 new) state
            (inr (inr (inr there)))

        is_member_here : is_member s me.rank.0 (rank_of from) (state.sheets id).command ≡ true
        is_member_here = subst (λ (o : Option Command). is_member s me.rank.0 (rank_of from) o ≡ true)
            (sym timely.command)
            (and_from ((of id).home.0 == me.rank.0) (s.in_quorum (of id) (rank_of from))
            (eq-eqb (of id).home.0 me.rank.0 timely.home) member)

        refused : (o : Option ℕ) (put : Option PutStamp)
            → (is_some (kept_at (state.sheets id).acknowledged (rank_of from)) ≡ true)
            ⊎ (is_some (kept_at (state.sheets id).acknowledged (rank_of from)) ≡ false)
            → ((state.sheets id).ballot == 0 ≡ true) ⊎ ((state.sheets id).ballot == 0 ≡ false)
            → stamp_of (state.sheets id) me.partition.0 ≡ o → (state.sheets id).put ≡ put
            → can_acknowledge s me.partition.0 me.rank.0 (rank_of from) (state.sheets id) ≡ false
            → IsHeeded s me.partition.0 (state.sheets id) → IsAcknowledged s me of from (state.sheets id)
        refused o put (inl there) low is has why heeded = inr (inr (inr there))
        refused o put (inr none) (inr joined) is has why heeded =
            inr (inl (omega (arith, eqb-false (state.sheets id).ballot 0 joined)))
        refused o put (inr none) (inl low) is has why (inl known) = inl known
        refused o put (inr none) (inl low) is has why (inr (inl some)) = inr (inr (inl some))
        refused (Some t) put (inr none) (inl low) is has why (inr (inr few)) =
            inl (ap (λ (o : Option ℕ). is_some o) is)
        refused None (Some put) (inr none) (inl low) is has why (inr (inr few)) =
            inr (inr (inl (omega (arith, ap ballot_put has, places.ballots id put has))))
        refused None None (inr none) (inl low) is has why (inr (inr few)) =
            absurd (grind (
              arith,
              why,
              is_member_here,
              timely.made,
              low,
              is,
              has,
              none,
              lt-ltb (length (present (state.sheets id).acknowledged)) (fast_size s.shape) few,
            ))

    serve_rec_ack : (id : CommandId) (t : ℕ) (made : Made) (a b : ℕ) → (0 < b) × (b ≤ (state.sheets id).tried)
        → HasPlaces me.partition.0 (rank_of from) state.sheets
        → IsAnswerCounted s me of from b ((on_rec_ack s me from id t made a b state).0.sheets id)
    serve_rec_ack id t made a b timely places =
        let old : Sheet = state.sheets id in
        let answer : RecoveryAnswer = record {
          rank = record { 0 = rank_of from };
          stamp = record { 0 = t };
          made = made;
          accepted = a;
        } in
        let new : Sheet = with_answer answer old in
        let counted : Sheet → Type 0 = IsAnswerCounted s me of from b in
        let there : is_some (kept_at new.answers (rank_of from)) ≡ true =
        ap (λ (o : Option RecoveryAnswer). is_some o)
        (kept_here old.answers (rank_of from) answer places.rank_low (places.answered id)) in
        cond_both (can_answer me.partition.0 b (rank_of from) old) (recovered s me id b new state) (state, [])
        (λ (moved : Step). counted (moved.0.sheets id))
        (λ y.
        let tests = and_parts _ (is_none (kept_at old.answers (rank_of from))) y in
        let earlier = and_parts _ (not (is_put_at b old.put)) tests.0 in
        let tried : old.tried ≡ b = eqb-true old.tried b (and_parts _ (old.tried == b) earlier.0).1 in
        cond_both (is_recovered s.shape new) (put_recovered s me id b new.command new state)
        (with_sheet id new state, [])
        (λ (moved : Step). counted (moved.0.sheets id))
        (λ enough. by_command new.command new (inr (inr (inr (tried, there))))
        (λ x. inr (inr (inr (tried, there)))))
        (λ few. with_sheet_is counted id new state (inr (inr (inr (tried, there))))))
        (λ n. refused (stamp_of old me.partition.0) old.put (cases_Bool (is_some (kept_at old.answers (rank_of from))))
        (cases_Bool (old.tried == b)) (cases_Bool (is_put_at b old.put)) refl refl n)
      where
        by_command : (o : Option Command) (new : Sheet) → IsAnswerCounted s me of from b new
            → ((x : ℕ) → IsAnswerCounted s me of from b (putting s.shape b x new))
            → IsAnswerCounted s me of from b ((put_recovered s me id b o new state).0.sheets id)
        by_command None new same put = with_sheet_is (IsAnswerCounted s me of from b) id new state same
        by_command (Some c) new same put =
            let x : ℕ = recovery_choice (s.in_quorum c) c.home.0 (present new.answers) in
            with_sheet_is (IsAnswerCounted s me of from b) id (putting s.shape b x new) state (put x)

        put_at : (put : Option PutStamp) → (state.sheets id).put ≡ put → is_put_at b put ≡ true
            → b ≤ ballot_put (state.sheets id).put
        put_at None has at = absurd cc
        put_at (Some put) has at = omega (arith, ap ballot_put has, eqb-true put.ballot b at)

        refused : (o : Option ℕ) (put : Option PutStamp)
            → (is_some (kept_at (state.sheets id).answers (rank_of from)) ≡ true)
            ⊎ (is_some (kept_at (state.sheets id).answers (rank_of from)) ≡ false)
            → ((state.sheets id).tried == b ≡ true) ⊎ ((state.sheets id).tried == b ≡ false)
            → (is_put_at b (state.sheets id).put ≡ true) ⊎ (is_put_at b (state.sheets id).put ≡ false)
            → stamp_of (state.sheets id) me.partition.0 ≡ o → (state.sheets id).put ≡ put
            → can_answer me.partition.0 b (rank_of from) (state.sheets id) ≡ false
            → IsAnswerCounted s me of from b (state.sheets id)
        refused (Some t) put there same at is has why = inl (ap (λ (o : Option ℕ). is_some o) is)
        refused None put there (inr apart) at is has why =
            inr (inl (omega (arith, timely, eqb-false (state.sheets id).tried b apart)))
        refused None put there (inl same) (inl at) is has why =
            inr (inr (inl (put_at put has (subst (λ (o : Option PutStamp). is_put_at b o ≡ true) has at))))
        refused None put (inl there) (inl same) (inr not_at) is has why =
            inr (inr (inr (eqb-true (state.sheets id).tried b same, there)))
        refused None put (inr none) (inl same) (inr not_at) is has why =
            absurd (grind (arith, why, same, not_at, is, none, lt-ltb 0 b timely.0))

  -- a message is admitted: its names are of the shape, and the clock has room
  pub record IsAdmitted (state : ProcessState) (m : Message) : Type 0 where
    pub names : same_name m.to (Process me) && is_name_of s.shape m.from && is_body_at s.shape me.partition.0 m.body
        ≡ true
    pub room : nat_lt (on_body s me m.from m.body state).0.clock STAMP_LIMIT ≡ true

  module _ (of : CommandId → Command) (m : Message) (state : ProcessState)
      (places : IsPeer m.body → HasPlaces me.partition.0 (rank_of m.from) state.sheets) where
    abbrev IsServedBy : Step → Type 0
    IsServedBy moved = IsServed s me of moved.1 m.from moved.0.sheets m.body

    -- the rule of each kind of message
    body_serves : (body : Body) → m.body ≡ body → IsTimely s me of state.sheets body
        → is_body_at s.shape me.partition.0 body ≡ true
        → ((c : CommandId) (q : ℕ) → q ≤ s.shape.partitions → q ≤ length (state.sheets c).known)
        → IsServed s me of (on_body s me m.from body state).1 m.from (on_body s me m.from body state).0.sheets body
    body_serves (MSubmit c) e timely names sized = λ home. serve_submit of m.from state c home
    body_serves (MPropose c floor) e timely names sized = serve_propose of m.from state c floor.0
    body_serves (MProposeAck id t) e timely names sized =
        λ member. serve_propose_ack of m.from state id t.0 timely (places (subst IsPeer (sym e) tt)) member
    body_serves (MConsensus c t b) e timely names sized = serve_consensus of m.from state c t.0 b timely
    body_serves (MConsensusAck id b) e timely names sized = serve_vote of m.from state id b timely
        (places (subst IsPeer (sym e) tt))
    body_serves (MCommit c q t) e timely names sized =
        let range = in_range 1 s.shape.partitions q.0
        (and_parts (is_command_at s.shape me.partition.0 c) (is_from 1 s.shape.partitions q.0) names).1 in
        λ on. serve_commit of m.from state c q.0 t.0 on range.0 (sized c.id q.0 range.1)
    body_serves (MRec c b) e timely names sized =
        serve_rec of m.from state c b timely (stamp_of (state.sheets c.id) me.partition.0) refl
    body_serves (MRecAck id t made a b) e timely names sized =
        serve_rec_ack of m.from state id t.0 made a b timely (places (subst IsPeer (sym e) tt))
    body_serves _ e timely names sized = tt

    pub message_serves : IsAdmitted state m → IsTimely s me of state.sheets m.body
        → ((c : CommandId) → length (state.sheets c).known ≡ s.shape.partitions)
        → IsServedBy (react s me (Took m) state)
    message_serves admitted timely sized =
        let names : Bool =
        same_name m.to (Process me) && is_name_of s.shape m.from && is_body_at s.shape me.partition.0 m.body in
        let moved : Step = on_body s me m.from m.body state in
        cond_both names (with_room state moved) (state, []) IsServedBy
        (λ y. cond_both (nat_lt moved.0.clock STAMP_LIMIT) moved (state, []) IsServedBy
        (λ room. body_serves m.body refl timely
        (and_parts (same_name m.to (Process me) && is_name_of s.shape m.from)
        (is_body_at s.shape me.partition.0 m.body) admitted.names).1
        (λ c q high. omega (arith, high, sized c)))
        (λ none. absurd (both_ways _ none admitted.room)))
        (λ n. absurd (both_ways _ n admitted.names))
