-- A partition decides one stamp for a command, with a majority attached at or below it. Used for the final stamps.
use Rattle.std.proofs.Common.{◌≡◌, ℕ, inl, inr, sym, ap, ◌∙◌, subst, arith}
use Rattle.std.proofs.lemmas.Bool.{cases_lt}
use Rattle.tp_base.specs.Limits.{IsFrom}
use Rattle.tp_quorum.specs.Choice.{present, greatest}
use Rattle.tp_agreement.proofs.Attached.{IsMajorityAttached, acknowledged_is_attached, put_is_attached}
use Rattle.tp_agreement.proofs.FastPath.{DecidedFast, fast_decision_fixes_all_ballots, fast_is_of_home}
use Rattle.tp_agreement.proofs.Moment.{Moment, home, replicas, sheet}
use Rattle.tp_agreement.proofs.SlowPath.{DecidedSlow, one_stamp_per_ballot, slow_decision_fixes_later_ballots}

module _ (m : Moment) where
  -- the stamp was decided by the fast path, or by a slow quorum at a ballot
  pub data Decided (t : ℕ) : Type 0 where
    fast_path : DecidedFast m t → Decided t
    slow_path : (b : ℕ) → DecidedSlow m b t → Decided t

  pub one_decision : (t u : ℕ) → Decided t → Decided u → t ≡ u
  -- the home has one table of acknowledgements
  one_decision t u (fast_path f) (fast_path g) =
      let same : f.rank ≡ g.rank = sym (fast_is_of_home m f) ∙ fast_is_of_home m g in
      sym f.top ∙ ap (λ (j : ℕ). greatest (present (sheet m j).acknowledged)) same ∙ g.top
  -- what a slow quorum accepted was put
  one_decision t u (fast_path f) (slow_path b y) = sym (fast_decision_fixes_all_ballots m t u b y.rank f y.sent)
  one_decision t u (slow_path a x) (fast_path g) = fast_decision_fixes_all_ballots m u t a x.rank g x.sent
  -- the one of the lower ballot fixes what is put at the other's
  one_decision t u (slow_path a x) (slow_path b y) = elim (cases_lt a b) [
    | inl lower ↦ sym (slow_decision_fixes_later_ballots m a t b u y.rank x lower y.sent)
    | inr from ↦ elim (cases_lt b a) [
      | inl above ↦ slow_decision_fixes_later_ballots m b u a t x.rank y above x.sent
      | inr to ↦ sym (one_stamp_per_ballot m x.rank y.rank t u a b (omega (arith, from, to)) x.sent y.sent)
    ]
  ]

  -- a majority of the partition's ranks has a proposal at or below a decided stamp
  pub majority_attached : (t : ℕ) → IsFrom 1 (replicas m) (home m) → Decided t → IsMajorityAttached m t
  majority_attached t ranked (fast_path f) =
      subst (IsMajorityAttached m) f.top (acknowledged_is_attached m f.rank f.known f.fast.0)
  majority_attached t ranked (slow_path b x) = put_is_attached m x.rank t b ranked x.sent
