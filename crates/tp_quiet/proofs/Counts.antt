-- Enough votes are a decision, and enough answers to a recovery put a stamp: a process that knows no stamp has too few
-- of each. Each step keeps this.
-- Used for each process of a run in which nothing is pending.
use Rattle.std.proofs.Common.{◌≡◌, ◌⊎◌, ℕ, ◌<◌, ◌≤◌, Bool, inl, inr, true, false, cond, List, [], length, Option, Some, None, is_some, refl, sym, ap, subst, arith}
use Rattle.std.specs.Prelude.{◌&&◌, ◌==◌, is_none, nat_le, nat_lt, not, replicate}
use Rattle.std.proofs.lemmas.Bool.{and_parts, cond_both, eqb-false, eqb-true, leb-false}
use Rattle.tp_base.proofs.Tables.{kept_here}
use Rattle.tp_base.specs.Limits.{STAMP_LIMIT}
use Rattle.tp_base.specs.Names.{same_name}
use Rattle.tp_base.specs.Tables.{kept_at}
use Rattle.tp_base.specs.declared.names.ActorName.{ActorName}
use Rattle.tp_base.specs.declared.names.ActorName.TheVariants.{Process}
use Rattle.tp_base.specs.declared.names.CommandId.{CommandId}
use Rattle.tp_base.specs.declared.names.Made.{Made}
use Rattle.tp_base.specs.declared.names.Site.{Site}
use Rattle.tp_choice.specs.Choosing.{recovery_choice}
use Rattle.tp_choice.specs.declared.answer.RecoveryAnswer.{RecoveryAnswer}
use Rattle.tp_facts.proofs.AcceptorKept.{carried}
use Rattle.tp_facts.proofs.ActSteps.{step_of_act}
use Rattle.tp_facts.proofs.Facts.{IsGenuine, IsHere, SheetFacts}
use Rattle.tp_facts.proofs.RuleTests.{ballot_put}
use Rattle.tp_facts.proofs.StepCases.{SheetStep, puts_slow, counts_vote, decides_by_votes, counts_answer, puts_recovered, starts_recovery}
use Rattle.tp_facts.proofs.Tables.{present_none, present_with}
use Rattle.tp_ops.specs.declared.command.Command.{Command}
use Rattle.tp_paxos.specs.Votes.{PutStamp, count_votes, decision, is_put_at}
use Rattle.tp_quorum.specs.Choice.{present}
use Rattle.tp_rules.specs.Acts.{Act, Took, Did}
use Rattle.tp_rules.specs.Addresses.{is_body_at, is_name_of, rank_of}
use Rattle.tp_rules.specs.Process.{Step, ProcessState, on_body, on_consensus_ack, on_rec_ack, put_recovered, react, recovered, voted, with_room, with_sheet}
use Rattle.tp_rules.specs.Sheet.{QuorumRule, Sheet, can_answer, can_vote, is_recovered, putting, stamp_decided, with_answer, with_vote}
use Rattle.tp_topology.specs.Shape.{IsShape, recovery_size, slow_size}
use Rattle.tp_wire.specs.declared.message.Body.{Body}
use Rattle.tp_wire.specs.declared.message.Body.TheVariants.{MConsensusAck, MRecAck}
use Rattle.tp_wire.specs.declared.message.Message.{Message}
use Rattle.tp_quiet.proofs.EachSheet.{each_sheet, learned_leads, sheet_leads}
use Rattle.tp_quiet.proofs.Gains.{no_votes, votes_put}
use Rattle.tp_quiet.proofs.Onward.{step_onward}
use Rattle.tp_quiet.proofs.Served.{Knows, Onward}

-- too few votes for a decision
abbrev pub IsUndecided : QuorumRule → ℕ → Sheet → Type 0
IsUndecided s p sheet = Knows p sheet ⊎ (count_votes (votes_put sheet.put) < slow_size s.shape)

-- a stamp is put at the ballot that is tried, or too few have answered
abbrev pub IsUnanswered : QuorumRule → ℕ → Sheet → Type 0
IsUnanswered s p sheet = Knows p sheet ⊎ ((sheet.tried ≤ ballot_put sheet.put)
    ⊎ (length (present sheet.answers) < recovery_size s.shape))

-- a message that is no vote, or no answer to a recovery

abbrev IsNoVote : Body → Type 0
IsNoVote (MConsensusAck id b) = ⊥
IsNoVote _ = Unit {0}

abbrev IsNoAnswer : Body → Type 0
IsNoAnswer (MRecAck id t made a b) = ⊥
IsNoAnswer _ = Unit {0}

abbrev pub IsActWith : (Body → Type 0) → Act → Type 0
IsActWith P (Took m) = P m.body
IsActWith P (Did inner) = Unit {0}

module _ (s : QuorumRule) (me : Site) where
  -- too few votes

  undecided_onward : (old new : Sheet) → Onward old new → new.put ≡ old.put → IsUndecided s me.partition.0 old
      → IsUndecided s me.partition.0 new
  undecided_onward old new goes same (inl known) = inl (goes.knows me.partition.0 known)
  undecided_onward old new goes same (inr few) =
      inr (subst (λ (o : Option PutStamp). count_votes (votes_put o) < slow_size s.shape) (sym same) few)

  undecided_kept : {act : Act} {id : CommandId} {old new : Sheet} {out : List Message}
      → SheetStep s me act id old new out → IsActWith IsNoVote act → Onward old new → IsUndecided s me.partition.0 old
      → IsUndecided s me.partition.0 new
  undecided_kept (puts_slow id t e can full slow) other goes h = inr (omega (arith, no_votes s.shape.replicas))
  undecided_kept (puts_recovered id t made a b c e can is enough) other goes h =
      inr (omega (arith, no_votes s.shape.replicas))
  undecided_kept (counts_vote {m} old id put e none) other goes h = absurd (subst IsNoVote e other)
  undecided_kept (decides_by_votes {m} old id put e none enough last) other goes h = absurd (subst IsNoVote e other)
  undecided_kept {old = old} {new = new} _ other goes h = undecided_onward old new goes refl h

  vote_undecided : (from : ActorName) (id : CommandId) (b : ℕ) (state : ProcessState)
      → 1 ≤ me.partition.0 → ((i : CommandId) → me.partition.0 ≤ length (state.sheets i).known)
      → ((i : CommandId) → IsUndecided s me.partition.0 (state.sheets i)) → (other : CommandId)
      → IsUndecided s me.partition.0 ((on_consensus_ack s me from id b state).0.sheets other)
  vote_undecided from id b state low size h other =
      let old : Sheet = state.sheets id in
      let new : Sheet = with_vote (rank_of from) old in
      cond_both (can_vote me.partition.0 b old) (voted s me id (stamp_decided s.shape new) new state) (state, [])
      (λ (moved : Step). IsUndecided s me.partition.0 (moved.0.sheets other))
      (λ y. by_decision (stamp_decided s.shape new) refl)
      (λ n. h other)
    where
      few_votes : (o : Option PutStamp) → decision s.shape o ≡ None → count_votes (votes_put o) < slow_size s.shape
      few_votes None none = omega arith
      few_votes (Some put) none =
          by_test (nat_le (slow_size s.shape) (count_votes put.votes)) refl none
        where
          by_test : (test : Bool) → nat_le (slow_size s.shape) (count_votes put.votes) ≡ test
              → cond test (Some put.stamp) None ≡ None → count_votes put.votes < slow_size s.shape
          by_test true is none = absurd cc
          by_test false is none = leb-false (slow_size s.shape) (count_votes put.votes) is

      by_decision : (o : Option ℕ) → stamp_decided s.shape (with_vote (rank_of from) (state.sheets id)) ≡ o
          → IsUndecided s me.partition.0
          ((voted s me id o (with_vote (rank_of from) (state.sheets id)) state).0.sheets other)
      by_decision None none =
          sheet_leads (IsUndecided s me.partition.0) id other state (λ apart. h other)
          (with_vote (rank_of from) (state.sheets id))
          (inr (few_votes (with_vote (rank_of from) (state.sheets id)).put none))
      by_decision (Some t) decided =
          learned_leads (IsUndecided s me.partition.0) id other state (λ apart. h other) s me me.partition.0 t
          (with_vote (rank_of from) (state.sheets id)) (λ known. inl known)
          (inl (ap (λ (o : Option ℕ). is_some o) (kept_here (state.sheets id).known me.partition.0 t low (size id))))

  -- too few answers

  unanswered_onward : (old new : Sheet) → Onward old new → new.tried ≡ old.tried → new.answers ≡ old.answers
      → IsUnanswered s me.partition.0 old → IsUnanswered s me.partition.0 new
  unanswered_onward old new goes same table (inl known) = inl (goes.knows me.partition.0 known)
  unanswered_onward old new goes same table (inr (inl put)) = elim goes.put [
    | inl rises ↦ inr (inl (omega (arith, same, put)))
    | inr stays ↦ inr (inl (omega (arith, same, put, stays.0)))
  ]
  unanswered_onward old new goes same table (inr (inr few)) =
      inr (inr (subst (λ (xs : List (Option RecoveryAnswer)). length (present xs) < recovery_size s.shape)
      (sym table) few))

  unanswered_kept : {act : Act} {id : CommandId} {old new : Sheet} {out : List Message}
      → SheetStep s me act id old new out → IsActWith IsNoAnswer act → IsShape s.shape → Onward old new
      → IsUnanswered s me.partition.0 old → IsUnanswered s me.partition.0 new
  unanswered_kept (starts_recovery id some none) other shape goes h =
      let count : length (present {X = RecoveryAnswer} (replicate s.shape.replicas None)) ≡ 0 =
      ap (λ (xs : List RecoveryAnswer). length xs) (present_none s.shape.replicas) in
      inr (inr (omega (arith, count, shape.minority, shape.some_replicas)))
  unanswered_kept (counts_answer {m} id t made a b e can) other shape goes h = absurd (subst IsNoAnswer e other)
  unanswered_kept (puts_recovered {m} id t made a b c e can is enough) other shape goes h =
      absurd (subst IsNoAnswer e other)
  unanswered_kept {old = old} {new = new} _ other shape goes h = unanswered_onward old new goes refl refl h

  -- a command that is recovered here is kept here
  answer_unanswered : (from : ActorName) (id : CommandId) (t : ℕ) (made : Made) (a b : ℕ) (state : ProcessState) → 0 < b
      → ((i : CommandId) → 0 < (state.sheets i).tried → is_some (state.sheets i).command ≡ true)
      → ((i : CommandId) → IsUnanswered s me.partition.0 (state.sheets i)) → (other : CommandId)
      → IsUnanswered s me.partition.0 ((on_rec_ack s me from id t made a b state).0.sheets other)
  answer_unanswered from id t made a b state some kept h other =
      let old : Sheet = state.sheets id in
      let answer : RecoveryAnswer = record {
        rank = record { 0 = rank_of from };
        stamp = record { 0 = t };
        made = made;
        accepted = a;
      } in
      let new : Sheet = with_answer answer old in
      let unanswered : Sheet → Type 0 = IsUnanswered s me.partition.0 in
      cond_both (can_answer me.partition.0 b (rank_of from) old) (recovered s me id b new state) (state, [])
      (λ (moved : Step). unanswered (moved.0.sheets other))
      (λ y.
      let tests = and_parts _ (is_none (kept_at old.answers (rank_of from))) y in
      let earlier = and_parts _ (not (is_put_at b old.put)) tests.0 in
      let tried : old.tried ≡ b = eqb-true old.tried b (and_parts _ (old.tried == b) earlier.0).1 in
      cond_both (is_recovered s.shape new) (put_recovered s me id b new.command new state) (with_sheet id new state, [])
      (λ (moved : Step). unanswered (moved.0.sheets other))
      (λ enough. by_command old.command refl tried)
      (λ few. sheet_leads unanswered id other state (λ apart. h other) new
      (fewer (eqb-false (length (present new.answers)) (recovery_size s.shape) few) tried (h id))))
      (λ n. h other)
    where
      answer_here : RecoveryAnswer
      answer_here = record { rank = record { 0 = rank_of from }; stamp = record { 0 = t }; made = made; accepted = a }

      by_command : (o : Option Command) → (state.sheets id).command ≡ o → (state.sheets id).tried ≡ b
          → IsUnanswered s me.partition.0
          ((put_recovered s me id b o (with_answer answer_here (state.sheets id)) state).0.sheets other)
      by_command None none tried =
          absurd (let wrong : is_some (state.sheets id).command ≡ false = ap (λ (o : Option Command). is_some o) none in
          let right = kept id (omega (arith, tried, some)) in cc)
      by_command (Some c) is tried =
          let new : Sheet = with_answer answer_here (state.sheets id) in
          let x : ℕ = recovery_choice (s.in_quorum c) c.home.0 (present new.answers) in
          sheet_leads (IsUnanswered s me.partition.0) id other state (λ apart. h other) (putting s.shape b x new)
          (inr (inl (omega (arith, tried))))

      fewer : (length (present (with_answer answer_here (state.sheets id)).answers) ≡ recovery_size s.shape → ⊥)
          → (state.sheets id).tried ≡ b → IsUnanswered s me.partition.0 (state.sheets id)
          → IsUnanswered s me.partition.0 (with_answer answer_here (state.sheets id))
      fewer apart tried (inl known) = inl known
      fewer apart tried (inr (inl put)) = inr (inl put)
      fewer apart tried (inr (inr few)) =
          inr (inr (omega (arith, apart, few, present_with (state.sheets id).answers (rank_of from) answer_here)))

  -- an admitted message does what the rule of its kind says, another nothing
  pub admitted : (P : ProcessState → Type 0) (m : Message) (state : ProcessState) → P state
      → P (on_body s me m.from m.body state).0 → P (react s me (Took m) state).0
  admitted P m state stays goes =
      let names : Bool =
      same_name m.to (Process me) && is_name_of s.shape m.from && is_body_at s.shape me.partition.0 m.body in
      let moved : Step = on_body s me m.from m.body state in
      cond_both names (with_room state moved) (state, []) (λ (x : Step). P x.0)
      (λ y. cond_both (nat_lt moved.0.clock STAMP_LIMIT) moved (state, []) (λ (x : Step). P x.0)
      (λ room. goes) (λ none. stays))
      (λ n. stays)

  -- each act leaves too few votes and answers
  module _ (of : CommandId → Command) (here : IsHere s me) (acts : List Act) (sent : List Message) where
    by_step : (act : Act) (state : ProcessState) → IsActWith IsNoVote act → IsGenuine of act
        → ((i : CommandId) → SheetFacts s me of acts sent i (state.sheets i))
        → ((i : CommandId) → IsUndecided s me.partition.0 (state.sheets i)) → (id : CommandId)
        → IsUndecided s me.partition.0 ((react s me act state).0.sheets id)
    by_step act state other genuine facts h id =
        each_sheet (λ out i sheet. IsUndecided s me.partition.0 sheet) s me act state (react s me act state)
        (step_of_act s me act state)
        (λ i new out change. undecided_kept change other (step_onward s me of here acts sent change genuine (facts i))
        (h i))
        (λ out i. h i) id

    pub act_undecided : (act : Act) (state : ProcessState) → IsGenuine of act
        → ((i : CommandId) → SheetFacts s me of acts sent i (state.sheets i))
        → ((i : CommandId) → IsUndecided s me.partition.0 (state.sheets i)) → (id : CommandId)
        → IsUndecided s me.partition.0 ((react s me act state).0.sheets id)
    act_undecided (Did inner) state genuine facts h id = by_step (Did inner) state tt genuine facts h id
    act_undecided (Took m) state genuine facts h id = by_body m.body refl
      where
        size : (i : CommandId) → me.partition.0 ≤ length (state.sheets i).known
        size i = omega (arith, here.partition.1, (facts i).places.stamps)

        by_body : (body : Body) → m.body ≡ body → IsUndecided s me.partition.0 ((react s me (Took m) state).0.sheets id)
        by_body (MConsensusAck i b) e =
            admitted (λ (x : ProcessState). IsUndecided s me.partition.0 (x.sheets id)) m state (h id)
            (subst
            (λ (body : Body). IsUndecided s me.partition.0 ((on_body s me m.from body state).0.sheets id)) (sym e)
            (vote_undecided m.from i b state here.partition.0 size h id))
        by_body body e = by_step (Took m) state (subst IsNoVote (sym e) tt) genuine facts h id

    answer_by_step : (act : Act) (state : ProcessState) → IsShape s.shape → IsActWith IsNoAnswer act → IsGenuine of act
        → ((i : CommandId) → SheetFacts s me of acts sent i (state.sheets i))
        → ((i : CommandId) → IsUnanswered s me.partition.0 (state.sheets i)) → (id : CommandId)
        → IsUnanswered s me.partition.0 ((react s me act state).0.sheets id)
    answer_by_step act state shape other genuine facts h id =
        each_sheet (λ out i sheet. IsUnanswered s me.partition.0 sheet) s me act state (react s me act state)
        (step_of_act s me act state)
        (λ i new out change. unanswered_kept change other shape
        (step_onward s me of here acts sent change genuine (facts i)) (h i))
        (λ out i. h i) id

    pub act_unanswered : (shape : IsShape s.shape) (act : Act) (state : ProcessState) → IsGenuine of act
        → ((i : CommandId) → SheetFacts s me of acts sent i (state.sheets i))
        → ((i : CommandId) → 0 < (state.sheets i).tried → is_some (state.sheets i).command ≡ true)
        → ((i : CommandId) → IsUnanswered s me.partition.0 (state.sheets i)) → (id : CommandId)
        → IsUnanswered s me.partition.0 ((react s me act state).0.sheets id)
    act_unanswered shape (Did inner) state genuine facts kept h id =
        answer_by_step (Did inner) state shape tt genuine facts h id
    act_unanswered shape (Took m) state genuine facts kept h id = by_body m.body refl
      where
        by_body : (body : Body) → m.body ≡ body
            → IsUnanswered s me.partition.0 ((react s me (Took m) state).0.sheets id)
        by_body (MRecAck i t made a b) e =
            admitted (λ (x : ProcessState). IsUnanswered s me.partition.0 (x.sheets id)) m state (h id)
            (subst
            (λ (body : Body). IsUnanswered s me.partition.0 ((on_body s me m.from body state).0.sheets id)) (sym e)
            (answer_unanswered m.from i t.0 made a b state (carried of m _ e genuine).1 kept h id))
        by_body body e = answer_by_step (Took m) state shape (subst IsNoAnswer (sym e) tt) genuine facts h id
