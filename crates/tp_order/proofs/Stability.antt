-- Stability, as a fact of counting: what a majority has attached at or below a stable stamp is committed.
-- Used for the commands that are due at an executor (CommittedAndDue).
use Rattle.std.proofs.Common.{◌≡◌, ℕ, ◌≤◌, ◌<◌, Bool, true, List, [], ◌∷◌, Option, Some, None, subst, arith}
use Rattle.std.specs.Prelude.{◌==◌, ◌&&◌, nat_lt, nat_le}
use Rattle.std.proofs.lemmas.Bool.{cond_both, and_parts, eqb-true, ltb-true, leb-true}
use Rattle.tp_base.specs.Lists.{Each, has}
use Rattle.tp_base.specs.Names.{same_id}
use Rattle.tp_base.specs.declared.names.CommandId.{CommandId}
use Rattle.tp_topology.specs.Counting.{count_up_to, all_up_to}
use Rattle.tp_topology.specs.Shape.{Shape, majority_size}
use Rattle.tp_topology.specs.Stability.{Telling, attached_to, told_by, told_as, first_of_both, counts, is_counted, is_stable}
use Rattle.tp_topology.proofs.Meetings.{shared}
use Rattle.tp_topology.proofs.Passing.{all_each}
use Rattle.tp_topology.proofs.Sizes.{majorities_meet}

-- some number from 1 up to the stamp is attached to the command
pub record AttachedPromise (owner : ℕ → Option CommandId) (id : CommandId) (stamp : ℕ) : Type 0 where
  pub number : ℕ
  pub positive : 1 ≤ number
  pub at_or_below : number ≤ stamp
  pub attached : owner number ≡ Some id

-- the owner of each rank's numbers
module _ (owner : ℕ → ℕ → Option CommandId) where
  -- what was told of a rank's numbers is so
  abbrev pub IsTrueTelling : Telling → Type 0
  IsTrueTelling t = (n : ℕ) → t.lo < n → n ≤ t.hi → attached_to t.attached n ≡ owner t.rank n

  abbrev IsTrueOf : ℕ → ℕ → Option (Option CommandId) → Type 0
  IsTrueOf rank n None = Unit {0}
  IsTrueOf rank n (Some told) = told ≡ owner rank n

  telling_is_true : (t : Telling) (rank n : ℕ) → IsTrueTelling t → IsTrueOf rank n (told_by t rank n)
  telling_is_true t rank n true_telling =
      let same = t.rank == rank in
      let above = nat_lt t.lo n in
      let within = nat_le n t.hi in
      cond_both (same && above && within) (Some (attached_to t.attached n)) None (IsTrueOf rank n)
      (λ covers.
      let outer : (same && above ≡ true) × (within ≡ true) = and_parts (same && above) within covers in
      let inner : (same ≡ true) × (above ≡ true) = and_parts same above outer.0 in
      subst (λ (r : ℕ). attached_to t.attached n ≡ owner r n) (eqb-true t.rank rank inner.0)
      (true_telling n (ltb-true t.lo n inner.1) (leb-true n t.hi outer.1)))
      (λ silent. tt)

  first_is_true : (rank n : ℕ) (a b : Option (Option CommandId)) → IsTrueOf rank n a → IsTrueOf rank n b →
      IsTrueOf rank n (first_of_both a b)
  first_is_true rank n None b first second = second
  first_is_true rank n (Some told) b first second = first

  told_is_true : (told : List Telling) (rank n : ℕ) → Each IsTrueTelling told → IsTrueOf rank n (told_as told rank n)
  told_is_true [] rank n all = tt
  told_is_true (t ∷ earlier) rank n all =
      first_is_true rank n (told_as earlier rank n) (told_by t rank n) (told_is_true earlier rank n all.1)
      (telling_is_true t rank n all.0)

  -- an attached number counts only where its command is committed
  counted_is_committed : (committed : List CommandId) (id : CommandId) (rank n : ℕ) (o : Option (Option CommandId)) →
      IsTrueOf rank n o → owner rank n ≡ Some id → counts committed o ≡ true → has same_id id committed ≡ true
  counted_is_committed committed id rank n None is attached counted = absurd cc
  counted_is_committed committed id rank n (Some None) is attached counted = absurd cc
  counted_is_committed committed id rank n (Some (Some told)) is attached counted =
      let same : told ≡ id = cc in
      subst (λ (i : CommandId). has same_id i committed ≡ true) same counted

  -- the majority that makes a stamp stable meets the majority that has the command attached at or below it
  pub majority_attached_is_committed : (shape : Shape) (told : List Telling) (committed : List CommandId)
      (id : CommandId) (final stable : ℕ) (has_proposal : ℕ → Bool) → Each IsTrueTelling told →
      is_stable shape told committed stable ≡ true → final ≤ stable →
      majority_size shape ≤ count_up_to has_proposal shape.replicas →
      ((rank : ℕ) → 1 ≤ rank → rank ≤ shape.replicas → has_proposal rank ≡ true →
      AttachedPromise (owner rank) id final) →
      has same_id id committed ≡ true
  majority_attached_is_committed shape told committed id final stable has_proposal all is_stable low majority attached =
      let counts_all : ℕ → Bool = λ rank. all_up_to (is_counted told committed rank) stable in
      let counted : majority_size shape ≤ count_up_to counts_all shape.replicas =
      leb-true (majority_size shape) (count_up_to counts_all shape.replicas) is_stable in
      let meet = shared has_proposal counts_all shape.replicas (omega (arith, majorities_meet shape)) in
      let promise = attached meet.rank meet.low meet.high meet.first in
      counted_is_committed committed id meet.rank promise.number (told_as told meet.rank promise.number)
      (told_is_true told meet.rank promise.number all) promise.attached
      (all_each (is_counted told committed meet.rank) stable promise.number meet.second promise.positive
      (omega (arith, promise.at_or_below, low)))
