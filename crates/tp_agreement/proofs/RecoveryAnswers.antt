-- Where a stamp that is put comes from, and what answers to a recovery say. Used for both paths and the majority.
use Rattle.std.proofs.Common.{◌≡◌, ℕ, zero, suc, ◌<◌, ◌≤◌, inl, inr, true, List, length, Option, Some, refl, sym, subst, arith}
use Rattle.std.proofs.lemmas.Bool.{cases_lt}
use Rattle.tp_base.specs.Lists.{IsIn}
use Rattle.tp_base.specs.Tables.{kept_at}
use Rattle.tp_choice.proofs.Cases.{choice_cases}
use Rattle.tp_choice.specs.Choosing.{IsChosen, accepted, of_all, of_members}
use Rattle.tp_choice.specs.declared.answer.RecoveryAnswer.{RecoveryAnswer}
use Rattle.tp_quorum.specs.Choice.{present, greatest}
use Rattle.tp_rules.proofs.fit.Choices.{is_there, present_counted, present_kept}
use Rattle.tp_rules.specs.Sheet.{Proposed}
use Rattle.tp_topology.specs.Counting.{count_up_to}
use Rattle.tp_topology.specs.Shape.{recovery_size}
use Rattle.tp_wire.specs.declared.message.Body.TheVariants.{MRecAck}
use Rattle.tp_facts.proofs.Facts.{IsFast, IsRecovered}
use Rattle.tp_facts.proofs.Tables.{present_place}
use Rattle.tp_facts.proofs.Consequences.{answer_of}
use Rattle.tp_agreement.proofs.Acknowledgements.{IsWhole}
use Rattle.tp_agreement.proofs.Moment.{IsRank, Moment, SentBy, acts_of, by_acts, command, facts_of, home, is_put, process, put, received, received_from, replicas, in_quorum, quorum_rule, shape, sheet}

-- the proposal that an answer tells of
abbrev pub proposal_in : RecoveryAnswer → Proposed
proposal_in a = record { stamp = a.stamp.0; made = a.made }

module _ (m : Moment) where
  -- rank i gave this answer to a recovery at ballot b
  pub record Answered (i : ℕ) (a : RecoveryAnswer) (b : ℕ) : Type 0 where
    pub rank : a.rank.0 ≡ i
    pub known : IsRank m i
    pub sent : SentBy m i (MRecAck m.id a.stamp a.made a.accepted b)
    pub below : a.accepted < b
    -- what it tells of as accepted was put at that ballot
    pub accepts : 0 < a.accepted → (k : ℕ) × SentBy m k (put m a.stamp.0 a.accepted)
    -- where it tells of nothing accepted, it tells of its proposal
    pub proposed : a.accepted ≡ 0 → (sheet m i).proposal ≡ Some (proposal_in a)
    -- who decided fast doesn't answer
    pub slow : IsFast (quorum_rule m) (sheet m i).acknowledged → ⊥

  -- a recovery at ballot b chose stamp u from these answers
  pub record RecoveryAt (u b : ℕ) : Type 0 where
    -- the answers by rank, as many as a recovery waits for
    pub table : List (Option RecoveryAnswer)
    pub places : length table ≡ replicas m
    pub enough : length (present table) ≡ recovery_size (shape m)
    pub answers : (i : ℕ) (a : RecoveryAnswer) → kept_at table i ≡ Some a → Answered i a b
    -- the case of the rule of choice that gave u
    pub choice : IsChosen (in_quorum m) (home m) (present table) u

  -- the home put the greatest stamp that was acknowledged, at the ballot of its rank
  pub record FirstPut (j u b : ℕ) : Type 0 where
    pub known : IsRank m j
    pub low : b ≤ replicas m
    pub ballot : b ≡ j
    pub of_home : home m ≡ j
    pub whole : IsWhole m j
    pub stamp : u ≡ greatest (present (sheet m j).acknowledged)

  -- which of both puts is at hand
  pub data PutCase (j u b : ℕ) : Type 0 where
    at_first : FirstPut j u b → PutCase j u b
    by_recovery : replicas m < b → RecoveryAt u b → PutCase j u b

  -- each answer that a process took to its recovery, its sender gave
  answered : (j u b : ℕ) (r : IsRecovered (quorum_rule m) (acts_of m j) m.id (command m) u b) (i : ℕ) (a : RecoveryAnswer)
      → kept_at r.table i ≡ Some a → Answered i a b
  answered j u b r i a kept =
      let from = r.answers i a kept in
      let sent : SentBy m i (MRecAck m.id a.stamp a.made a.accepted b) =
      received_from m (process m j) i _ tt refl from.1 in
      let answer =
      answer_of (facts_of m i sent.known) sent.message m.id a.stamp a.made a.accepted b (by_acts m sent) sent.is in
      record {
        rank = from.0;
        known = sent.known;
        sent = sent;
        below = answer.above;
        accepts = λ some. received m (process m i) (put m a.stamp.0 a.accepted) tt refl (answer.accepted some);
        proposed = answer.proposed;
        slow = answer.slow;
      }

  -- a put is the home's first one or a recovery's
  pub put_case : (j u b : ℕ) → SentBy m j (put m u b) → PutCase j u b
  put_case j u b sent =
      let is = is_put m sent in
      elim (cases_lt (replicas m) b) [
        | inl above ↦
            let r : IsRecovered (quorum_rule m) (acts_of m j) m.id (command m) u b = (is.later above).1 in
            by_recovery above (record {
              table = r.table;
              places = r.places;
              enough = r.enough;
              answers = answered j u b r;
              choice = subst (IsChosen (in_quorum m) (home m) (present r.table)) (sym r.choice)
                  (choice_cases (in_quorum m) (home m) (present r.table));
            })
        | inr low ↦
            let f = is.first low in
            at_first (record { known = sent.known; low = low; ballot = f.0; of_home = f.1; whole = f.2; stamp = f.3 })
      ]

  module _ {u b : ℕ} (r : RecoveryAt u b) where
    -- as many ranks answered as a recovery waits for
    pub answered_count : recovery_size (shape m) ≤ count_up_to (is_there r.table) (replicas m)
    answered_count =
        let counted = present_counted r.table (replicas m) (omega (arith, r.places)) in
        omega (arith, counted, r.enough)

    -- the answer of a member's rank is a member's, and the other way round
    pub of_member : (i : ℕ) (a : RecoveryAnswer) → kept_at r.table i ≡ Some a → in_quorum m i ≡ true
        → in_quorum m a.rank.0 ≡ true
    of_member i a kept = subst (λ (k : ℕ). in_quorum m k ≡ true) (sym (r.answers i a kept).rank)

    pub member_of : (i : ℕ) (a : RecoveryAnswer) → kept_at r.table i ≡ Some a → in_quorum m a.rank.0 ≡ true
        → in_quorum m i ≡ true
    member_of i a kept = subst (λ (k : ℕ). in_quorum m k ≡ true) (r.answers i a kept).rank

    -- no answer tells of an accepted stamp
    abbrev pub NoneAccepted : Type 0
    NoneAccepted = (a : RecoveryAnswer) → IsIn a (present r.table) → a.accepted ≡ 0

    -- so each tells of its sender's proposal
    pub told_proposal : NoneAccepted → (i : ℕ) (a : RecoveryAnswer) → kept_at r.table i ≡ Some a
        → (sheet m i).proposal ≡ Some (proposal_in a)
    told_proposal none i a kept = (r.answers i a kept).proposed (none a (present_kept r.table i a kept))

    -- where a recovery chose the stamp that an answer tells of as accepted, that stamp was put at a lower ballot
    pub put_before : (a : RecoveryAnswer) → IsIn a (present r.table) → 0 < a.accepted → a.stamp.0 ≡ u
        → (k : ℕ) × SentBy m k (put m u a.accepted) × (a.accepted < b)
    put_before a there some is =
        let at = present_place r.table a there in
        let answer = r.answers at.0 a at.1 in
        let old = answer.accepts some in
        (old.0, subst (λ (t : ℕ). SentBy m old.0 (put m t a.accepted)) is old.1, answer.below)

  -- where a stamp that is put comes from: the home's acknowledgements, or a recovery that was told of proposals alone
  pub data Origin (u : ℕ) : Type 0 where
    of_acknowledgements : (j b : ℕ) → FirstPut j u b → Origin u
    of_proposals : (b : ℕ) (r : RecoveryAt u b) → NoneAccepted r → Origin u

  -- by induction on the ballot: a recovery that chose an accepted stamp puts one that was put at a lower ballot
  origin_up_to : (n j u b : ℕ) → b ≤ n → SentBy m j (put m u b) → Origin u
  origin_up_to zero j u b le sent = elim (put_case j u b sent) [
    | at_first f ↦ of_acknowledgements j b f
    | by_recovery above r ↦ absurd (omega (arith, le, above))
  ]
  origin_up_to (suc n) j u b le sent = elim (put_case j u b sent) [
    | at_first f ↦ of_acknowledgements j b f
    | by_recovery above r ↦ elim r.choice [
      | accepted a there some is best ↦
          let old = put_before r a there some is in origin_up_to n old.0 u a.accepted (omega (arith, le, old.2)) old.1
      | of_all none a there member why greatest source ↦ of_proposals b r none
      | of_members none why greatest source ↦ of_proposals b r none
    ]
  ]

  -- each stamp that is put has such an origin
  pub origin : (j u b : ℕ) → SentBy m j (put m u b) → Origin u
  origin j u b sent = origin_up_to b j u b (omega arith) sent
