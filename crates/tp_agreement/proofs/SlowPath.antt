-- A slow decision against later ballots: what a slow quorum accepted is all that is put above. Used for one decision.
use Rattle.std.proofs.Common.{◌≡◌, ℕ, zero, suc, ◌<◌, ◌≤◌, inl, inr, Bool, true, List, length, Some, refl, sym, ap, ◌∙◌, arith}
use Rattle.std.proofs.lemmas.Bool.{cases_lt}
use Rattle.tp_base.specs.Lists.{IsIn}
use Rattle.tp_base.specs.Tables.{nth}
use Rattle.tp_choice.specs.Choosing.{accepted, of_all, of_members}
use Rattle.tp_choice.specs.declared.answer.RecoveryAnswer.{RecoveryAnswer}
use Rattle.tp_paxos.specs.Votes.{count_votes}
use Rattle.tp_quorum.specs.Choice.{present}
use Rattle.tp_rules.proofs.fit.Messages.{site_is}
use Rattle.tp_rules.proofs.sent.SendsOfProcess.{stamp}
use Rattle.tp_topology.specs.Shape.{slow_size}
use Rattle.tp_wire.specs.declared.message.Body.TheVariants.{MConsensusAck}
use Rattle.tp_facts.proofs.RunFacts.{one_put_per_ballot}
use Rattle.tp_facts.proofs.Commands.{command_in_names}
use Rattle.tp_facts.proofs.Tables.{meets}
use Rattle.tp_facts.proofs.Consequences.{no_vote_between}
use Rattle.tp_agreement.proofs.Moment.{Moment, SentBy, by_acts, command, facts_of, is_put, named, process, put, replicas, shape}
use Rattle.tp_agreement.proofs.RecoveryAnswers.{Answered, RecoveryAt, at_first, by_recovery, put_before, put_case}
use Rattle.tp_rules.proofs.fit.Choices.{present_kept}
use Rattle.tp_topology.proofs.Sizes.{recovery_meets_slow}

module _ (m : Moment) where
  -- a slow quorum accepted stamp t at ballot b
  pub record DecidedSlow (b t : ℕ) : Type 0 where
    -- who put it
    pub rank : ℕ
    pub sent : SentBy m rank (put m t b)
    -- which ranks voted for it, and that they did
    pub votes : List Bool
    pub enough : slow_size (shape m) ≤ count_votes votes
    pub places : length votes ≡ replicas m
    pub voters : (j : ℕ) → nth votes j ≡ Some true → SentBy m j (MConsensusAck m.id b)

  -- a ballot at which a stamp is put is at least 1: the home's rank, or above all ranks
  ballot_is_positive : (j u b : ℕ) → SentBy m j (put m u b) → 0 < b
  ballot_is_positive j u b sent =
      let rank = (site_is (shape m) (process m j) sent.known).1.0 in
      elim (cases_lt (replicas m) b) [
        | inl high ↦ omega (arith, high)
        | inr low ↦ omega (arith, ((is_put m sent).first low).0, rank)
      ]

  -- a ballot has one owner, who puts one stamp at it
  pub one_stamp_per_ballot : (j k t u a b : ℕ) → a ≡ b → SentBy m j (put m t a) → SentBy m k (put m u b) → u ≡ t
  one_stamp_per_ballot j k t u a b same x y =
      one_put_per_ballot m.script (named m) m.accepted (command_in_names m.script m.accepted) m.journal m.history (process m j)
      (process m k) x.message y.message (command m) (command m) (stamp t) (stamp u) a x.known y.known refl
      x.there y.there x.from y.from x.is (y.is ∙ ap (λ (c : ℕ). put m u c) (sym same)) refl

  -- a recovery at a later ballot chooses a stamp that was accepted at the decided ballot or above it
  chosen_above : (a t u b : ℕ) → DecidedSlow a t → a < b → (r : RecoveryAt m u b)
      → (x : RecoveryAnswer) × IsIn x (present r.table) × (a ≤ x.accepted) × (0 < x.accepted) × (x.stamp.0 ≡ u)
  chosen_above a t u b decided lt r =
      -- the recovery's answers and the slow quorum's votes are too many to be apart: some rank voted and answered
      let both = meets r.table decided.votes (r.places ∙ sym decided.places)
      (omega (arith, r.places, r.enough, decided.enough, recovery_meets_slow (shape m) m.accepted.shape)) in
      let told : Answered m both.place both.value b = r.answers both.place both.value both.kept in
      let vote : SentBy m both.place (MConsensusAck m.id a) = decided.voters both.place both.voted in
      let some : 0 < a = ballot_is_positive decided.rank t a decided.sent in
      -- it voted at no ballot between the told one and the recovery's, so the told one is the decided one or above it
      let gap = no_vote_between (facts_of m both.place told.known) told.sent.message vote.message m.id both.value.stamp
      both.value.made both.value.accepted b a (by_acts m told.sent) (by_acts m vote) told.sent.is vote.is in
      let above : a ≤ both.value.accepted =
      elim gap [ inl within ↦ within | inr beyond ↦ absurd (omega (arith, beyond, lt)) ] in
      let there : IsIn both.value (present r.table) = present_kept r.table both.place both.value both.kept in
      elim r.choice [
        | accepted x x_there x_some is best ↦
            let higher : a ≤ x.accepted = elim (best both.value there) [
              | inl less ↦ omega (arith, less, above)
              | inr same ↦ omega (arith, same.0, above)
            ] in
            (x, x_there, higher, x_some, is)
        -- some answer tells of an accepted stamp, so the choice isn't one of proposals
        | of_all none y y_there member why greatest source ↦ absurd (omega (arith, none both.value there, above, some))
        | of_members none why greatest source ↦ absurd (omega (arith, none both.value there, above, some))
      ]

  -- by induction on the later ballot, up to n
  later_up_to : (n a t u b j : ℕ) → b ≤ n → DecidedSlow a t → a < b → SentBy m j (put m u b) → u ≡ t
  later_up_to zero a t u b j le decided lt sent = absurd (omega (arith, le, lt))
  later_up_to (suc n) a t u b j le decided lt sent = elim (put_case m j u b sent) [
    -- the home's own ballot is the only first one: no ballot that is put is below it
    | at_first f ↦ elim (put_case m decided.rank t a decided.sent) [
      | at_first g ↦ absurd (omega (arith, lt, f.ballot, f.of_home, g.ballot, g.of_home))
      | by_recovery above r ↦ absurd (omega (arith, lt, f.low, above))
    ]
    -- a recovery chooses a stamp that was put at the decided ballot, or above it and below its own
    | by_recovery above r ↦
        let x = chosen_above a t u b decided lt r in
        let old = put_before m r x.0 x.1 x.3 x.4 in
        elim (cases_lt a x.0.accepted) [
          | inl later ↦ later_up_to n a t u x.0.accepted old.0 (omega (arith, le, old.2)) decided later old.1
          | inr not_later ↦
              one_stamp_per_ballot decided.rank old.0 t u a x.0.accepted
              (omega (arith, x.2, not_later)) decided.sent old.1
        ]
  ]

  -- what a slow quorum accepted at a ballot is put at each later one
  pub slow_decision_fixes_later_ballots : (a t b u j : ℕ) → DecidedSlow a t → a < b → SentBy m j (put m u b) → u ≡ t
  slow_decision_fixes_later_ballots a t b u j decided lt sent = later_up_to b a t u b j (omega arith) decided lt sent
