-- What a telling, a commit and an advance of the front leave of a page.
use Rattle.std.proofs.Common.{◌≡◌, ◌≢◌, ℕ, ◌+◌, ◌<◌, ◌≤◌, ◌⊎◌, ◌↔◌, inl, inr, Bool, true, false, not, cond, List, [], ◌∷◌, ◌++◌, Option, Some, None, refl, sym, ap, subst, ◌∙◌, arith}
use Rattle.std.specs.Prelude.{◌||◌, ◌&&◌, ◌==◌, filter, nat_le, nat_lt, is_some}
use Rattle.std.proofs.lemmas.Bool.{cases_lt, or_right, eq-eqb, eqb-true, ltb-true, lt-ltb, le-leb, ne_eqb}
use Rattle.tp_base.specs.declared.names.CommandId.{CommandId}
use Rattle.tp_base.specs.declared.names.Pair.{Pair}
use Rattle.tp_base.specs.Lists.{Ascends, IsIn, has}
use Rattle.tp_base.specs.Names.{same_id}
use Rattle.tp_base.proofs.Each.{each_in}
use Rattle.tp_base.proofs.Members.{in_either, in_left, in_right}
use Rattle.tp_base.proofs.Options.{absent}
use Rattle.tp_base.proofs.Tests.{filter_in, in_filter}
use Rattle.tp_promise.specs.declared.ranges.Range.{Range}
use Rattle.tp_promise.specs.Pages.{in_ranges, is_attached, waits, Advances, AreTold, IsPage, IsStopped, Page}
use Rattle.tp_promise.proofs.Numbers.{attached_is, attached_out}
use Rattle.tp_topology.specs.Counting.{all_up_to}
use Rattle.tp_topology.specs.Stability.{Telling, attached_to, counts, first_of_both, is_counted, told_as, told_by}
use Rattle.tp_topology.proofs.Passing.{all_from}

abbrev pair_at : ℕ → CommandId → Pair
pair_at n id = record { id = id; stamp = record { 0 = n } }

-- counted promises stay counted

counted_more : (committed : List CommandId) (o later : Option (Option CommandId)) → counts committed o ≡ true → counts committed (first_of_both o later) ≡ true
counted_more committed None later e = absurd cc
counted_more committed (Some owner) later e = e

counts_more : (id : CommandId) (committed : List CommandId) (o : Option (Option CommandId)) → counts committed o ≡ true → counts (id ∷ committed) o ≡ true
counts_more id committed None e = e
counts_more id committed (Some None) e = e
counts_more id committed (Some (Some owner)) e = or_right (same_id owner id) (has same_id owner committed) e

-- a told number that is not attached is counted, and one that is not told or is attached is not

abbrev Waiting : List CommandId → Option (Option CommandId) → CommandId → Type 0
Waiting committed o id = (o ≡ Some (Some id)) × (has same_id id committed ≡ false)

counted_told : (committed : List CommandId) (o : Option (Option CommandId)) → is_some o ≡ true → ((id : CommandId) → Waiting committed o id → ⊥) → counts committed o ≡ true
counted_told committed None told free = absurd cc
counted_told committed (Some None) told free = refl
counted_told committed (Some (Some id)) told free = go (has same_id id committed) refl
  where
    go : (t : Bool) → has same_id id committed ≡ t → t ≡ true
    go true e = refl
    go false e = absurd (free id (refl, e))

not_counted : (committed : List CommandId) (o : Option (Option CommandId)) (id : CommandId) → Waiting committed o id → counts committed o ≡ false
not_counted committed o id w = ap (counts committed) w.0 ∙ w.1

not_told : (committed : List CommandId) (o : Option (Option CommandId)) → is_some o ≡ false → counts committed o ≡ false
not_told committed None e = refl
not_told committed (Some owner) e = absurd cc

-- the front

pub front_counted : (page : Page) (told : List Telling) (committed : List CommandId) (rank : ℕ) → IsPage page told committed rank
    → all_up_to (is_counted told committed rank) page.front ≡ true
front_counted page told committed rank is = all_from (is_counted told committed rank) page.front is.below

pub front_stopped : (page : Page) (told : List Telling) (committed : List CommandId) (rank : ℕ) → IsPage page told committed rank
    → IsStopped page.ranges page.attached page.front → is_counted told committed rank (page.front + 1) ≡ false
front_stopped page told committed rank is (inl out) =
    not_told committed (told_as told rank (page.front + 1)) (sym (is.above (page.front + 1) (omega arith)) ∙ out)
front_stopped page told committed rank is (inr attached) =
    let pair = attached_out page.attached (page.front + 1) attached in
    not_counted committed (told_as told rank (page.front + 1)) pair.0 ((is.waiting (page.front + 1) pair.0 (omega arith)).0 pair.1)

pub fresh : (rank : ℕ) → IsPage (record { front = 0; ranges = []; attached = [] }) [] [] rank
fresh rank = record {
  below = λ n low high. absurd (omega arith);
  above = λ n lt. refl;
  waiting = λ n id lt. (λ h. absurd h, λ w. let no = w.0 in absurd cc);
}

-- an advance of the front

pub advance : (page page' : Page) (told : List Telling) (committed : List CommandId) (rank : ℕ) → IsPage page told committed rank
    → Advances page.ranges page.attached page.front page'.front
    → ((n : ℕ) → page'.front < n → in_ranges page'.ranges n ≡ in_ranges page.ranges n) → page'.attached ≡ page.attached
    → IsPage page' told committed rank
advance page page' told committed rank is advances ranges attached = record {
  below = below;
  above = λ n lt. ranges n lt ∙ is.above n (omega (arith, advances.later));
  waiting = λ n id lt. subst (λ (pairs : List Pair). IsIn (pair_at n id) pairs ↔ Waiting committed (told_as told rank n) id) (sym attached) (is.waiting n id (omega (arith, advances.later)));
}
  where
    below : (n : ℕ) → 1 ≤ n → n ≤ page'.front → is_counted told committed rank n ≡ true
    below n low high = elim (cases_lt page.front n) [
      | inl lt ↦
          let passed = advances.passed n lt high in
          counted_told committed (told_as told rank n) (sym (is.above n lt) ∙ passed.0) (λ id w.
          let attached : is_attached page.attached n ≡ true = attached_is page.attached n id ((is.waiting n id lt).1 w) in
          let free : is_attached page.attached n ≡ false = passed.1 in cc)
      | inr ge ↦ is.below n low ge
    ]

-- a commit

abbrev others : CommandId → Pair → Bool
others id p = not (same_id p.id id)

pub commit : (page : Page) (attached : List Pair) (told : List Telling) (committed : List CommandId) (rank : ℕ) (id : CommandId)
    → IsPage page told committed rank → attached ≡ filter (others id) page.attached
    → IsPage (record { front = page.front; ranges = page.ranges; attached = attached }) told (id ∷ committed) rank
commit page attached told committed rank id is left = record {
  below = λ n low high. counts_more id committed (told_as told rank n) (is.below n low high);
  above = is.above;
  waiting = λ n other lt. subst (λ (pairs : List Pair). IsIn (pair_at n other) pairs ↔ Waiting (id ∷ committed) (told_as told rank n) other) (sym left) (there n other lt, back n other lt);
}
  where
    there : (n : ℕ) (other : CommandId) → page.front < n → IsIn (pair_at n other) (filter (others id) page.attached) → Waiting (id ∷ committed) (told_as told rank n) other
    there n other lt h =
        let parts = filter_in (others id) page.attached (pair_at n other) h in
        let w = (is.waiting n other lt).0 parts.0 in
        let passes : not (same_id other id) ≡ true = parts.1 in
        let old : has same_id other committed ≡ false = w.1 in
        (w.0, grind arith)

    back : (n : ℕ) (other : CommandId) → page.front < n → Waiting (id ∷ committed) (told_as told rank n) other → IsIn (pair_at n other) (filter (others id) page.attached)
    back n other lt w =
        let more : has same_id other (id ∷ committed) ≡ false = w.1 in
        let old : has same_id other committed ≡ false = grind arith in
        let passes : not (same_id other id) ≡ true = grind arith in
        in_filter (others id) page.attached (pair_at n other) ((is.waiting n other lt).1 (w.0, old)) passes

-- a telling

told_which : (lo hi rank n : ℕ) (pairs : List Pair) → told_by (record { rank = rank; lo = lo; hi = hi; attached = pairs }) rank n
    ≡ cond (nat_lt lo n && nat_le n hi) (Some (attached_to pairs n)) None
told_which lo hi rank n pairs =
    ap (λ (t : Bool). cond (t && nat_lt lo n && nat_le n hi) (Some (attached_to pairs n)) None) (eq-eqb rank rank refl)

-- one number has one attached promise
attached_only : (pairs : List Pair) (n : ℕ) (id : CommandId) → Ascends (λ a b. nat_lt a.stamp.0 b.stamp.0) pairs → IsIn (pair_at n id) pairs → attached_to pairs n ≡ Some id
attached_only [] n id up h = absurd h
attached_only (p ∷ ps) n id up (inl e) =
    let stamp : p.stamp.0 ≡ n = ap (λ (q : Pair). q.stamp.0) (sym e) in
    let owner : p.id ≡ id = ap (λ (q : Pair). q.id) (sym e) in
    ap (λ (t : Bool). cond t (Some p.id) (attached_to ps n)) (eq-eqb p.stamp.0 n stamp) ∙ ap (λ (i : CommandId). Some i) owner
attached_only (p ∷ ps) n id up (inr h) =
    let less : nat_lt p.stamp.0 n ≡ true = each_in (λ (q : Pair). nat_lt p.stamp.0 q.stamp.0 ≡ true) ps (pair_at n id) up.0 h in
    let apart : p.stamp.0 ≢ n = λ same. let lt : p.stamp.0 < n = ltb-true p.stamp.0 n less in absurd (omega arith) in
    ap (λ (t : Bool). cond t (Some p.id) (attached_to ps n)) (ne_eqb p.stamp.0 n apart) ∙ attached_only ps n id up.1 h

attached_in : (pairs : List Pair) (n : ℕ) (id : CommandId) → attached_to pairs n ≡ Some id → IsIn (pair_at n id) pairs
attached_in [] n id e = absurd cc
attached_in (p ∷ ps) n id e = go (p.stamp.0 == n) refl e (attached_in ps n id)
  where
    go : (t : Bool) → (p.stamp.0 == n) ≡ t → cond t (Some p.id) (attached_to ps n) ≡ Some id → (attached_to ps n ≡ Some id → IsIn (pair_at n id) ps)
        → IsIn (pair_at n id) (p ∷ ps)
    go true same is rest =
        let owner : p.id ≡ id = cc in
        let stamp : p.stamp.0 ≡ n = eqb-true p.stamp.0 n same in
        inl (ap (λ (i : CommandId). pair_at n i) (sym owner) ∙ ap (λ (k : ℕ). pair_at k p.id) (sym stamp))
    go false same is rest = inr (rest is)

module _ (page : Page) (told : List Telling) (committed keys : List CommandId) (rank lo hi : ℕ) (pairs : List Pair)
    (is : IsPage page told committed rank) (ids : (id : CommandId) → has same_id id keys ≡ has same_id id committed) (are : AreTold lo hi pairs) where
  abbrev telling : Telling
  telling = record { rank = rank; lo = lo; hi = hi; attached = pairs }

  abbrev within : ℕ → Bool
  within n = nat_lt lo n && nat_le n hi

  some_of_both : (o later : Option (Option CommandId)) → is_some (first_of_both o later) ≡ (is_some o || is_some later)
  some_of_both None later = refl
  some_of_both (Some owner) later = refl

  some_told : (n : ℕ) (t : Bool) → is_some (cond t (Some (attached_to pairs n)) None) ≡ t
  some_told n true = refl
  some_told n false = refl

  told_now : (n : ℕ) → told_as (telling ∷ told) rank n ≡ first_of_both (told_as told rank n) (cond (within n) (Some (attached_to pairs n)) None)
  told_now n = ap (first_of_both (told_as told rank n)) (told_which lo hi rank n pairs)

  above_now : (n : ℕ) → page.front < n → (in_ranges page.ranges n || within n) ≡ is_some (told_as (telling ∷ told) rank n)
  above_now n lt =
      ap (λ (t : Bool). t || within n) (is.above n lt)
      ∙ sym (ap is_some (told_now n) ∙ some_of_both (told_as told rank n) (cond (within n) (Some (attached_to pairs n)) None) ∙ ap (λ (t : Bool). is_some (told_as told rank n) || t) (some_told n (within n)))

  first_is : (o later : Option (Option CommandId)) (id : CommandId) → o ≡ Some (Some id) → first_of_both o later ≡ Some (Some id)
  first_is o later id e = ap (λ (x : Option (Option CommandId)). first_of_both x later) e

  later_is : (o later : Option (Option CommandId)) → o ≡ None → first_of_both o later ≡ later
  later_is o later e = ap (λ (x : Option (Option CommandId)). first_of_both x later) e

  -- a promise that waits now
  there : (n : ℕ) (id : CommandId) → page.front < n → IsIn (pair_at n id) page.attached ⊎ IsIn (pair_at n id) (filter (waits page.front page.ranges keys) pairs)
      → Waiting committed (told_as (telling ∷ told) rank n) id
  there n id lt (inl old) = let w = (is.waiting n id lt).0 old in (told_now n ∙ first_is (told_as told rank n) (cond (within n) (Some (attached_to pairs n)) None) id w.0, w.1)
  there n id lt (inr new) =
      let parts = filter_in (waits page.front page.ranges keys) pairs (pair_at n id) new in
      let passes : waits page.front page.ranges keys (pair_at n id) ≡ true = parts.1 in
      let untold : in_ranges page.ranges n ≡ false = grind arith in
      let uncommitted : has same_id id keys ≡ false = grind arith in
      let none : told_as told rank n ≡ None = absent (told_as told rank n) (sym (is.above n lt) ∙ untold) in
      let range : (lo < n) × (n ≤ hi) = each_in (λ (p : Pair). (lo < p.stamp.0) × (p.stamp.0 ≤ hi)) pairs (pair_at n id) are.within parts.0 in
      let inside : within n ≡ true = let low : nat_lt lo n ≡ true = lt-ltb lo n range.0 in let high : nat_le n hi ≡ true = le-leb n hi range.1 in grind arith in
      let owner : attached_to pairs n ≡ Some id = attached_only pairs n id are.ascending parts.0 in (
        told_now n ∙ later_is (told_as told rank n) (cond (within n) (Some (attached_to pairs n)) None) none
            ∙ ap (λ (t : Bool). cond t (Some (attached_to pairs n)) None) inside ∙ ap (λ (o : Option CommandId). Some o) owner,
        sym (ids id) ∙ uncommitted,
      )

  told_inside : (n : ℕ) (id : CommandId) (t : Bool) → cond t (Some (attached_to pairs n)) None ≡ Some (Some id) → attached_to pairs n ≡ Some id
  told_inside n id true e = cc
  told_inside n id false e = absurd cc

  back : (n : ℕ) (id : CommandId) → page.front < n → Waiting committed (told_as (telling ∷ told) rank n) id
      → IsIn (pair_at n id) page.attached ⊎ IsIn (pair_at n id) (filter (waits page.front page.ranges keys) pairs)
  back n id lt w = go (told_as told rank n) refl (sym (told_now n) ∙ w.0)
    where
      go : (o : Option (Option CommandId)) → told_as told rank n ≡ o → first_of_both o (cond (within n) (Some (attached_to pairs n)) None) ≡ Some (Some id)
          → IsIn (pair_at n id) page.attached ⊎ IsIn (pair_at n id) (filter (waits page.front page.ranges keys) pairs)
      go (Some owner) before e = inl ((is.waiting n id lt).1 (before ∙ e, w.1))
      go None before e =
          let owner : attached_to pairs n ≡ Some id = told_inside n id (within n) e in
          let untold : in_ranges page.ranges n ≡ false = is.above n lt ∙ ap is_some before in
          let past : nat_lt page.front n ≡ true = lt-ltb page.front n lt in
          let uncommitted : has same_id id keys ≡ false = ids id ∙ w.1 in
          let passes : waits page.front page.ranges keys (pair_at n id) ≡ true = grind arith in
          inr (in_filter (waits page.front page.ranges keys) pairs (pair_at n id) (attached_in pairs n id owner) passes)

  pub tell : (ranges : List Range) (attached : List Pair) → ((n : ℕ) → in_ranges ranges n ≡ (in_ranges page.ranges n || within n))
      → attached ≡ page.attached ++ filter (waits page.front page.ranges keys) pairs
      → IsPage (record { front = page.front; ranges = ranges; attached = attached }) (telling ∷ told) committed rank
  tell ranges attached more left = record {
    below = λ n low high. counted_more committed (told_as told rank n) (told_by telling rank n) (is.below n low high);
    above = λ n lt. more n ∙ above_now n lt;
    waiting = λ n id lt. subst (λ (l : List Pair). IsIn (pair_at n id) l ↔ Waiting committed (told_as (telling ∷ told) rank n) id) (sym left) (
      λ h. there n id lt (in_either page.attached (filter (waits page.front page.ranges keys) pairs) (pair_at n id) h),
      λ w. elim (back n id lt w) [
        | inl old ↦ in_left page.attached (filter (waits page.front page.ranges keys) pairs) (pair_at n id) old
        | inr new ↦ in_right page.attached (filter (waits page.front page.ranges keys) pairs) (pair_at n id) new
      ],
    );
  }

-- a telling of another rank

pub other_rank : (page : Page) (told : List Telling) (committed : List CommandId) (rank : ℕ) (t : Telling) → t.rank ≢ rank
    → IsPage page told committed rank → IsPage page (t ∷ told) committed rank
other_rank page told committed rank t apart is = record {
  below = λ n low high. counted_more committed (told_as told rank n) (told_by t rank n) (is.below n low high);
  above = λ n lt. is.above n lt ∙ sym (ap is_some (same n));
  waiting = λ n id lt. subst (λ (o : Option (Option CommandId)). IsIn (pair_at n id) page.attached ↔ Waiting committed o id) (sym (same n)) (is.waiting n id lt);
}
  where
    keeps : (o : Option (Option CommandId)) → first_of_both o None ≡ o
    keeps None = refl
    keeps (Some owner) = refl

    same : (n : ℕ) → told_as (t ∷ told) rank n ≡ told_as told rank n
    same n =
        ap (λ (b : Bool). first_of_both (told_as told rank n) (cond (b && nat_lt t.lo n && nat_le n t.hi) (Some (attached_to t.attached n)) None)) (ne_eqb t.rank rank apart)
        ∙ keeps (told_as told rank n)
