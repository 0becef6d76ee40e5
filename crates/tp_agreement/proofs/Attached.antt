-- A majority attached: a majority of ranks proposed at or below each stamp that is put. Used for the decisions.
use Rattle.std.proofs.Common.{◌≡◌, ◌≢◌, ℕ, ◌≤◌, inl, inr, Bool, true, false, Option, Some, sym, ap, ◌∙◌, subst, arith}
use Rattle.std.proofs.lemmas.Bool.{and_parts, false_from_ne_true, le-leb}
use Rattle.tp_base.specs.Limits.{IsFrom}
use Rattle.tp_base.specs.Lists.{IsIn}
use Rattle.tp_base.specs.Tables.{kept_at}
use Rattle.tp_base.specs.declared.names.Made.{Made}
use Rattle.tp_base.specs.declared.names.Made.TheVariants.{Proposal}
use Rattle.tp_choice.specs.Choosing.{IsChosen, accepted, of_all, of_members}
use Rattle.tp_choice.specs.declared.answer.RecoveryAnswer.{RecoveryAnswer}
use Rattle.tp_quorum.specs.Choice.{present, greatest}
use Rattle.tp_rules.proofs.fit.Choices.{is_there, present_kept}
use Rattle.tp_rules.specs.Sheet.{Proposed}
use Rattle.tp_topology.proofs.Meetings.{both, shared, share}
use Rattle.tp_topology.proofs.Passing.{count_more}
use Rattle.tp_topology.specs.Counting.{count_up_to}
use Rattle.tp_topology.specs.Shape.{majority_size}
use Rattle.tp_facts.specs.Settled.{is_proposed}
use Rattle.tp_agreement.proofs.Acknowledgements.{IsWhole, Proposes, acknowledged_at_most, home_proposed_at_most, whole_count}
use Rattle.tp_agreement.proofs.Counting.{count_with_rank, value_of, with_rank, with_rank_cases}
use Rattle.tp_agreement.proofs.Moment.{IsRank, Moment, SentBy, home, put, quorum_size, replicas, in_quorum, shape, sheet}
use Rattle.tp_agreement.proofs.RecoveryAnswers.{NoneAccepted, RecoveryAt, answered_count, of_acknowledgements, of_member, of_proposals, origin, told_proposal}
use Rattle.tp_topology.proofs.Sizes.{fast_is_majority, recovery_is_majority, recovery_meets_fast}

module _ (m : Moment) where
  -- rank j has a proposal at or below stamp u
  abbrev pub is_attached : ℕ → ℕ → Bool
  is_attached u j = is_proposed (sheet m j).proposal u

  -- and a majority has
  abbrev pub IsMajorityAttached : ℕ → Type 0
  IsMajorityAttached u = majority_size (shape m) ≤ count_up_to (is_attached u) (replicas m)

  attached : (j u : ℕ) (q : Proposed) → (sheet m j).proposal ≡ Some q → q.stamp ≤ u → is_attached u j ≡ true
  attached j u q is le = subst (λ (o : Option Proposed). is_proposed o u ≡ true) (sym is) (le-leb q.stamp u le)

  attached_by_proposal : (j u t : ℕ) → Proposes m j t → t ≤ u → is_attached u j ≡ true
  attached_by_proposal j u t is le = attached j u (record { stamp = t; made = Proposal }) is le

  -- a whole fast quorum is a majority, and each of it proposed at most the greatest stamp acknowledged
  pub acknowledged_is_attached : (k : ℕ) → IsRank m k → IsWhole m k
      → IsMajorityAttached (greatest (present (sheet m k).acknowledged))
  acknowledged_is_attached k known whole =
      let top : ℕ = greatest (present (sheet m k).acknowledged) in
      let more : count_up_to (is_there (sheet m k).acknowledged) (replicas m)
      ≤ count_up_to (is_attached top) (replicas m) =
      count_more (is_there (sheet m k).acknowledged) (is_attached top) (replicas m) (λ j low high e.
      let t = acknowledged_at_most m k j known e in attached_by_proposal j top t.0 t.1 t.2) in
      omega (arith, more, whole_count m k known whole, fast_is_majority (shape m) m.accepted.shape)

  -- a recovery that was told of nothing accepted
  module _ {u b : ℕ} (r : RecoveryAt m u b) (none : NoneAccepted m r) (ranked : IsFrom 1 (replicas m) (home m)) where
    -- the members that answered
    abbrev answering : ℕ → Bool
    answering = both (in_quorum m) (is_there r.table)

    -- the greatest of all answers: each rank that answered proposed at most that, and a recovery quorum is a majority
    all_are_attached : ((a : RecoveryAnswer) → IsIn a (present r.table) → a.stamp.0 ≤ u) → IsMajorityAttached u
    all_are_attached highest =
        let more : count_up_to (is_there r.table) (replicas m) ≤ count_up_to (is_attached u) (replicas m) =
        count_more (is_there r.table) (is_attached u) (replicas m) (λ j low high e.
        let a = value_of (kept_at r.table j) e in
        attached j u _ (told_proposal m r none j a.0 a.1) (highest a.0 (present_kept r.table j a.0 a.1))) in
        omega (arith, more, answered_count m r, recovery_is_majority (shape m) m.accepted.shape)

    -- P of each member's answer
    abbrev OfMembers : (RecoveryAnswer → Type 0) → Type 0
    OfMembers P = (a : RecoveryAnswer) → IsIn a (present r.table) → in_quorum m a.rank.0 ≡ true → P a

    module _ (why : OfMembers (λ a. (a.rank.0 ≢ home m) × (a.made ≡ Proposal)))
        (highest : OfMembers (λ a. a.stamp.0 ≤ u)) where
      -- a member that answered proposed without a recovery, at most the greatest of the members' answers
      member_proposed : (j : ℕ) → answering j ≡ true → (t : ℕ) × IsRank m j × Proposes m j t × (t ≤ u)
      member_proposed j e =
          let parts = and_parts (in_quorum m j) (is_there r.table j) e in
          let a = value_of (kept_at r.table j) parts.1 in
          let there : IsIn a.0 (present r.table) = present_kept r.table j a.0 a.1 in
          let member = of_member m r j a.0 a.1 parts.0 in
          let made : a.0.made ≡ Proposal = (why a.0 there member).1 in
          let proposed : Proposes m j a.0.stamp.0 = told_proposal m r none j a.0 a.1
          ∙ ap (λ (x : Made). let q : Proposed = record { stamp = a.0.stamp.0; made = x } in Some q) made in
          (a.0.stamp.0, (r.answers j a.0 a.1).known, proposed, highest a.0 there member)

      -- the home isn't one of them
      home_is_out : answering (home m) ≡ false
      home_is_out = false_from_ne_true (answering (home m)) (λ e.
          let parts = and_parts (in_quorum m (home m)) (is_there r.table (home m)) e in
          let a = value_of (kept_at r.table (home m)) parts.1 in
          let member = of_member m r (home m) a.0 a.1 parts.0 in
          (why a.0 (present_kept r.table (home m) a.0 a.1) member).0 (r.answers (home m) a.0 a.1).rank)

      -- the greatest of the members' answers: at least half of the ranks are members that answered. The home is one
      -- rank more: it didn't answer, but proposed at most what each of them did
      members_are_attached : IsMajorityAttached u
      members_are_attached =
          let size = quorum_size m ranked in
          let meet = recovery_meets_fast (shape m) m.accepted.shape in
          let sizes = share (in_quorum m) (is_there r.table) (replicas m) in
          let one = shared (in_quorum m) (is_there r.table) (replicas m)
          (omega (arith, size, answered_count m r, meet, m.accepted.shape.some_replicas)) in
          let x = member_proposed one.rank (both_pass one.rank one.first one.second) in
          let low = home_proposed_at_most m one.rank x.0 x.1 x.2 in
          let more : count_up_to (with_rank answering (home m)) (replicas m)
          ≤ count_up_to (is_attached u) (replicas m) =
          count_more (with_rank answering (home m)) (is_attached u) (replicas m) (λ j above below e.
          elim (with_rank_cases answering (home m) j e) [
            | inl same ↦ subst (λ (i : ℕ). is_attached u i ≡ true) (sym same)
                (attached_by_proposal (home m) u low.0 low.1 (omega (arith, low.2, x.3)))
            | inr answers ↦ let y = member_proposed j answers in attached_by_proposal j u y.0 y.2 y.3
          ]) in
          let home_more = count_with_rank answering (replicas m) (home m) ranked.0 ranked.1 home_is_out in
          omega (arith, more, home_more, sizes, size, answered_count m r, meet)
        where
          both_pass : (j : ℕ) → in_quorum m j ≡ true → is_there r.table j ≡ true → answering j ≡ true
          both_pass j e f = cc

    -- by the cases of the rule of choice
    chosen_is_attached : IsChosen (in_quorum m) (home m) (present r.table) u → IsMajorityAttached u
    chosen_is_attached (accepted a there some is best) = absurd (omega (arith, some, none a there))
    chosen_is_attached (of_all zeros a there member why highest source) = all_are_attached highest
    chosen_is_attached (of_members zeros why highest source) = members_are_attached why highest

  -- each stamp that is put has a majority attached
  pub put_is_attached : (j u b : ℕ) → IsFrom 1 (replicas m) (home m) → SentBy m j (put m u b) → IsMajorityAttached u
  put_is_attached j u b ranked sent = elim (origin m j u b sent) [
    | of_acknowledgements k c first ↦
        subst IsMajorityAttached (sym first.stamp) (acknowledged_is_attached k first.known first.whole)
    | of_proposals c r none ↦ chosen_is_attached r none ranked r.choice
  ]
