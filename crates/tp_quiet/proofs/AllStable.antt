-- Where each rank told all numbers up to a stamp, and each attached one is committed, the stamp is stable.
-- Used for the executors in the end.
use Rattle.std.proofs.Common.{◌≡◌, ◌⊎◌, ℕ, ◌<◌, ◌≤◌, Bool, inl, inr, true, false, List, [], ◌∷◌, Option, Some, None, is_some, refl, sym, ap, subst, arith}
use Rattle.std.specs.Prelude.{◌&&◌, ◌==◌, nat_lt, nat_le}
use Rattle.std.proofs.lemmas.Bool.{and_from, and_parts, cond_both, cond-true, eq-eqb, eqb-true, le-leb, leb-true, lt-ltb, ltb-true}
use Rattle.tp_base.specs.Limits.{IsFrom}
use Rattle.tp_base.specs.Lists.{Each, IsIn, has}
use Rattle.tp_base.specs.Names.{same_id}
use Rattle.tp_base.specs.declared.names.CommandId.{CommandId}
use Rattle.tp_topology.proofs.Passing.{all_from, count_more}
use Rattle.tp_topology.specs.Counting.{all_up_to, count_up_to}
use Rattle.tp_topology.specs.Shape.{Shape, majority_size}
use Rattle.tp_topology.specs.Stability.{Telling, attached_to, told_by, told_as, first_of_both, counts, is_counted, is_stable}
use Rattle.tp_order.proofs.Stability.{IsTrueTelling}
use Rattle.tp_quiet.proofs.NotStuck.{all_count}

-- a telling of a rank's number
pub record IsToldBy (told : List Telling) (rank n : ℕ) : Type 0 where
  pub telling : Telling
  pub there : IsIn telling told
  pub rank_is : telling.rank ≡ rank
  pub above : telling.lo < n
  pub within : n ≤ telling.hi

module _ (owner : ℕ → ℕ → Option CommandId) (committed : List CommandId) (rank n : ℕ)
    (owned : (id : CommandId) → owner rank n ≡ Some id → has same_id id committed ≡ true) where
  -- nothing was said, or it counts
  abbrev IsFair : Option (Option CommandId) → Type 0
  IsFair o = (o ≡ None) ⊎ (counts committed o ≡ true)

  owner_counts : (o : Option CommandId) → owner rank n ≡ o → counts committed (Some o) ≡ true
  owner_counts None is = refl
  owner_counts (Some id) is = owned id is

  telling_is_fair : (t : Telling) → IsTrueTelling owner t → IsFair (told_by t rank n)
  telling_is_fair t true_telling =
      let same = t.rank == rank in
      let above = nat_lt t.lo n in
      let within = nat_le n t.hi in
      cond_both (same && above && within) (Some (attached_to t.attached n)) None IsFair
      (λ covers.
      let outer = and_parts (same && above) within covers in
      let inner = and_parts same above outer.0 in
      let is : attached_to t.attached n ≡ owner rank n =
      subst (λ (r : ℕ). attached_to t.attached n ≡ owner r n) (eqb-true t.rank rank inner.0)
      (true_telling n (ltb-true t.lo n inner.1) (leb-true n t.hi outer.1)) in
      inr (owner_counts (attached_to t.attached n) (sym is)))
      (λ silent. inl refl)

  both_fair : (a b : Option (Option CommandId)) → IsFair a → IsFair b → IsFair (first_of_both a b)
  both_fair None b first second = second
  both_fair (Some x) b first second = first

  told_is_fair : (told : List Telling) → Each (IsTrueTelling owner) told → IsFair (told_as told rank n)
  told_is_fair [] all = inl refl
  told_is_fair (t ∷ earlier) all =
      both_fair (told_as earlier rank n) (told_by t rank n) (told_is_fair earlier all.1) (telling_is_fair t all.0)

  second_some : (a b : Option (Option CommandId)) → is_some b ≡ true → is_some (first_of_both a b) ≡ true
  second_some None b some = some
  second_some (Some x) b some = refl

  first_some : (a b : Option (Option CommandId)) → is_some a ≡ true → is_some (first_of_both a b) ≡ true
  first_some None b some = absurd cc
  first_some (Some x) b some = refl

  covered : (t : Telling) → t.rank ≡ rank → t.lo < n → n ≤ t.hi → is_some (told_by t rank n) ≡ true
  covered t same above within = ap is_some
      (cond-true ((t.rank == rank) && nat_lt t.lo n && nat_le n t.hi) (Some (attached_to t.attached n)) None
      (and_from ((t.rank == rank) && nat_lt t.lo n) (nat_le n t.hi)
      (and_from (t.rank == rank) (nat_lt t.lo n) (eq-eqb t.rank rank same) (lt-ltb t.lo n above))
      (le-leb n t.hi within)))

  told_some : (told : List Telling) (t : Telling) → IsIn t told → t.rank ≡ rank → t.lo < n → n ≤ t.hi
      → is_some (told_as told rank n) ≡ true
  told_some [] t there same above within = absurd there
  told_some (x ∷ earlier) t (inr there) same above within =
      first_some (told_as earlier rank n) (told_by x rank n) (told_some earlier t there same above within)
  told_some (x ∷ earlier) t (inl is) same above within =
      second_some (told_as earlier rank n) (told_by x rank n)
      (subst (λ (y : Telling). is_some (told_by y rank n) ≡ true) is (covered t same above within))

  told_counts : (told : List Telling) → Each (IsTrueTelling owner) told → IsToldBy told rank n
      → is_counted told committed rank n ≡ true
  told_counts told all by =
      let some = told_some told by.telling by.there by.rank_is by.above by.within in
      elim (told_is_fair told all) [
        | inl none ↦ absurd (let wrong : is_some (told_as told rank n) ≡ false = ap is_some none in cc)
        | inr counted ↦ counted
      ]

pub all_stable : (owner : ℕ → ℕ → Option CommandId) (told : List Telling) (committed : List CommandId)
    → Each (IsTrueTelling owner) told → (shape : Shape) (stamp : ℕ) → 1 ≤ shape.replicas
    → ((rank n : ℕ) → IsFrom 1 shape.replicas rank → IsFrom 1 stamp n → IsToldBy told rank n)
    → ((rank n : ℕ) (id : CommandId) → IsFrom 1 shape.replicas rank → IsFrom 1 stamp n → owner rank n ≡ Some id
    → has same_id id committed ≡ true)
    → is_stable shape told committed stamp ≡ true
all_stable owner told committed all shape stamp some by owned =
    let test : ℕ → Bool = λ rank. all_up_to (is_counted told committed rank) stamp in
    let more = count_more (λ k. true) test shape.replicas (λ rank low high t.
    all_from (is_counted told committed rank) stamp (λ n up down.
    told_counts owner committed rank n (λ id is. owned rank n id (low, high) (up, down) is) told all
    (by rank n (low, high) (up, down)))) in
    le-leb (majority_size shape) (count_up_to test shape.replicas)
    (omega (arith, more, all_count shape.replicas, some))
