-- The fast path against recovery: where the home decided fast, no other stamp is put. Used for one decision.
use Rattle.std.proofs.Common.{◌≡◌, ℕ, ◌≤◌, inl, inr, Bool, true, false, List, Option, Some, refl, sym, ap, ◌∙◌, subst, arith}
use Rattle.std.proofs.lemmas.Bool.{cases_lt, false_from_ne_true, leb-true}
use Rattle.tp_base.specs.Tables.{kept_at}
use Rattle.tp_base.specs.declared.names.Made.TheVariants.{Proposal}
use Rattle.tp_choice.specs.Choosing.{IsChosen, accepted, of_all, of_members}
use Rattle.tp_choice.specs.declared.answer.RecoveryAnswer.{RecoveryAnswer}
use Rattle.tp_quorum.specs.Choice.{present, greatest, count_of}
use Rattle.tp_rules.proofs.fit.Messages.{site_is, site_known}
use Rattle.tp_rules.proofs.fit.Choices.{is_there, present_kept}
use Rattle.tp_topology.proofs.Meetings.{shared}
use Rattle.tp_topology.specs.Counting.{count_up_to}
use Rattle.tp_facts.proofs.Facts.{IsFast}
use Rattle.tp_facts.proofs.Tables.{present_place}
use Rattle.tp_agreement.proofs.Acknowledgements.{Proposes, acknowledged, acknowledged_at_most, home_proposed_at_most, member_acknowledged, one_proposal, table_size, whole_is_of_home}
use Rattle.tp_agreement.proofs.Counting.{answers_from_top, has_value, has_value_is, value_count, value_of}
use Rattle.tp_agreement.proofs.Moment.{IsRank, Moment, SentBy, home, process, put, quorum_size, replicas, in_quorum, quorum_rule, shape, sheet}
use Rattle.tp_agreement.proofs.RecoveryAnswers.{NoneAccepted, RecoveryAt, answered_count, member_of, of_acknowledgements, of_member, of_proposals, origin, proposal_in, told_proposal}
use Rattle.tp_topology.proofs.Sizes.{recovery_meets_fast}

module _ (m : Moment) where
  -- a rank has a whole fast quorum's acknowledgements, of which at least as many as may fail are the greatest, t
  pub record DecidedFast (t : ℕ) : Type 0 where
    pub rank : ℕ
    pub known : IsRank m rank
    pub fast : IsFast (quorum_rule m) (sheet m rank).acknowledged
    pub top : greatest (present (sheet m rank).acknowledged) ≡ t

  -- only the home decides fast
  pub fast_is_of_home : {t : ℕ} (f : DecidedFast t) → home m ≡ f.rank
  fast_is_of_home f = whole_is_of_home m f.rank f.known f.fast.0

  -- a fast decision, and the answers to a recovery that was told of nothing accepted
  module _ {t u b : ℕ} (f : DecidedFast t) (r : RecoveryAt m u b) (none : NoneAccepted m r) where
    abbrev acknowledgements : List (Option ℕ)
    acknowledgements = (sheet m f.rank).acknowledged

    home_is_rank : (1 ≤ home m) × (home m ≤ replicas m)
    home_is_rank =
        let is = (site_is (shape m) (process m f.rank) f.known).1 in
        (omega (arith, fast_is_of_home f, is.0), omega (arith, fast_is_of_home f, is.1))

    -- the home's exclusion: a home that decided answers no recovery
    home_is_silent : (a : RecoveryAnswer) → kept_at r.table (home m) ≡ Some a → ⊥
    home_is_silent a kept = (r.answers (home m) a kept).slow
        (subst (λ (k : ℕ). IsFast (quorum_rule m) (sheet m k).acknowledged) (sym (fast_is_of_home f)) f.fast)

    home_is_out : is_there r.table (home m) ≡ false
    home_is_out = false_from_ne_true (is_there r.table (home m)) (λ e.
        let a = value_of (kept_at r.table (home m)) e in home_is_silent a.0 a.1)

    -- each member of the fast quorum acknowledged, so proposed without a recovery, and at most t
    member_proposed : (j : ℕ) → 1 ≤ j → j ≤ replicas m → in_quorum m j ≡ true → (x : ℕ) × Proposes m j x × (x ≤ t)
    member_proposed j low high member =
        let there = member_acknowledged m f.rank j f.known f.fast.0 low high member in
        let x = acknowledged_at_most m f.rank j f.known there in
        (x.0, x.1, omega (arith, x.2, f.top))

    -- and its answer says so
    member_told : (i : ℕ) (a : RecoveryAnswer) → kept_at r.table i ≡ Some a → in_quorum m i ≡ true
        → (a.made ≡ Proposal) × (a.stamp.0 ≤ t)
    member_told i a kept member =
        let is = (site_is (shape m) (process m i) (r.answers i a kept).known).1 in
        let x = member_proposed i is.0 is.1 member in
        let told = one_proposal m i x.0 (proposal_in a) x.1 (told_proposal m r none i a kept) in
        (told.0, omega (arith, told.1, x.2))

    -- a member that answered and proposed at least t
    record AnsweredFromTop : Type 0 where
      rank : ℕ
      there : is_there r.table rank ≡ true
      member : in_quorum m rank ≡ true
      stamp : ℕ
      proposed : Proposes m rank stamp
      from_top : t ≤ stamp

    -- where the home itself proposed t: no member proposed less than the home, and some member answered
    where_home_is_at_top : has_value t acknowledgements (home m) ≡ true → AnsweredFromTop
    where_home_is_at_top e =
        let own : Proposes m (home m) t =
        (acknowledged m f.rank (home m) t f.known (has_value_is t acknowledgements (home m) e)).proposed in
        let size = quorum_size m home_is_rank in
        let meet = recovery_meets_fast (shape m) m.accepted.shape in
        let both = shared (in_quorum m) (is_there r.table) (replicas m)
        (omega (arith, size, answered_count m r, meet, m.accepted.shape.some_replicas)) in
        let x = member_proposed both.rank both.low both.high both.first in
        let known : IsRank m both.rank =
        site_known (shape m) m.partition both.rank (site_is (shape m) (process m f.rank) f.known).0
        (both.low, both.high) in
        let low = home_proposed_at_most m both.rank x.0 known x.1 in
        let of_home = one_proposal m (home m) t (record { stamp = low.0; made = Proposal }) own low.1 in
        record {
          rank = both.rank;
          there = both.second;
          member = both.first;
          stamp = x.0;
          proposed = x.1;
          from_top = omega (arith, of_home.1, low.2);
        }

    -- where the home proposed less: as many other members as may fail proposed t. They and the home, which is silent,
    -- are more than a recovery can miss, so one of them answered
    where_home_is_below : has_value t acknowledgements (home m) ≡ false → AnsweredFromTop
    where_home_is_below e =
        let enough : (shape m).failures ≤ count_of (greatest (present acknowledgements)) (present acknowledgements) =
        leb-true _ _ f.fast.1 in
        let counted : count_up_to (has_value t acknowledgements) (replicas m) ≡ count_of t (present acknowledgements) =
        subst (λ (n : ℕ). count_up_to (has_value t acknowledgements) n ≡ count_of t (present acknowledgements))
        (table_size m f.rank f.known) (value_count t acknowledgements) in
        let many : (shape m).failures ≤ count_up_to (has_value t acknowledgements) (replicas m) =
        subst (λ (n : ℕ). (shape m).failures ≤ n) (sym counted)
        (subst (λ (n : ℕ). (shape m).failures ≤ count_of n (present acknowledgements)) f.top enough) in
        let both = answers_from_top (shape m) (home m) (has_value t acknowledgements) (is_there r.table)
        m.accepted.shape home_is_rank.0 home_is_rank.1 many (answered_count m r) e home_is_out in
        let a = acknowledged m f.rank both.rank t f.known (has_value_is t acknowledgements both.rank both.first) in
        record {
          rank = both.rank;
          there = both.second;
          member = a.member;
          stamp = t;
          proposed = a.proposed;
          from_top = omega arith;
        }

    -- in either case
    answered_from_top : AnsweredFromTop
    answered_from_top = go (has_value t acknowledgements (home m)) refl
      where
        go : (o : Bool) → has_value t acknowledgements (home m) ≡ o → AnsweredFromTop
        go true e = where_home_is_at_top e
        go false e = where_home_is_below e

    -- such a recovery chooses the stamp that was decided fast. By the cases of the rule of choice:
    fast_decision_fixes_choice : IsChosen (in_quorum m) (home m) (present r.table) u → u ≡ t
    -- an accepted stamp is chosen: no answer tells of one
    fast_decision_fixes_choice (accepted a there some is best) = absurd (omega (arith, some, none a there))
    -- the greatest of all is, as the home answered or a member proposed in a recovery: but the home is silent, and each
    -- member proposed without a recovery
    fast_decision_fixes_choice (of_all zeros a there member why highest source) =
        let at = present_place r.table a there in
        let answer = r.answers at.0 a at.1 in
        elim why [
          | inl of_home ↦
              absurd (home_is_silent a (subst (λ (i : ℕ). kept_at r.table i ≡ Some a) (sym answer.rank ∙ of_home) at.1))
          | inr late ↦ absurd (let early = (member_told at.0 a at.1 (member_of m r at.0 a at.1 member)).0 in cc)
        ]
    -- the greatest of the members is: at least t, since a member that proposed t answered; at most t, as each member is
    fast_decision_fixes_choice (of_members zeros why highest source) =
        let top = answered_from_top in
        let a = value_of (kept_at r.table top.rank) top.there in
        let told =
        one_proposal m top.rank top.stamp (proposal_in a.0) top.proposed (told_proposal m r none top.rank a.0 a.1) in
        let low = highest a.0 (present_kept r.table top.rank a.0 a.1) (of_member m r top.rank a.0 a.1 top.member) in
        elim (cases_lt 0 u) [
          | inl some ↦
              let s = source some in
              let at = present_place r.table s.0 s.1 in
              let high = (member_told at.0 s.0 at.1 (member_of m r at.0 s.0 at.1 s.2)).1 in
              omega (arith, low, told.1, top.from_top, high, s.3)
          | inr nothing ↦ omega (arith, low, told.1, top.from_top, nothing)
        ]

  -- whoever puts a stamp at any ballot, before or after the home decided fast, puts the decided one
  pub fast_decision_fixes_all_ballots : (t u b j : ℕ) → DecidedFast t → SentBy m j (put m u b) → u ≡ t
  fast_decision_fixes_all_ballots t u b j f sent = elim (origin m j u b sent) [
    -- the home puts the greatest of the acknowledgements by which it decides
    | of_acknowledgements k c first ↦
        let same : k ≡ f.rank = sym first.of_home ∙ fast_is_of_home f in
        first.stamp ∙ ap (λ (i : ℕ). greatest (present (sheet m i).acknowledged)) same ∙ f.top
    | of_proposals c r none ↦ fast_decision_fixes_choice f r none r.choice
  ]
