-- Numbers in ranges, and those that are attached.
use Rattle.std.proofs.Common.{◌≡◌, ◌≢◌, ℕ, ◌+◌, ◌<◌, ◌≤◌, inl, inr, Bool, true, false, cond, List, [], ◌∷◌, ◌++◌, length, get_or, drop, take, refl, sym, ap, subst, ◌∙◌, arith}
use Rattle.std.specs.Prelude.{◌-◌, ◌||◌, ◌&&◌, ◌==◌, filter, nat_le, nat_lt}
use Rattle.std.proofs.lemmas.Grind.{take_at_read}
use Rattle.std.proofs.lemmas.Bool.{or_cases, eqb-true}
use Rattle.std.proofs.lemmas.List.{drop_all, drop_more}
use Rattle.tp_base.specs.declared.names.CommandId.{CommandId}
use Rattle.tp_base.specs.declared.names.Pair.{Pair}
use Rattle.tp_base.specs.Lists.{IsIn}
use Rattle.tp_promise.specs.declared.ranges.Range.{Range}
use Rattle.tp_promise.specs.Pages.{IsStopped, Page, in_range, in_ranges, is_attached}

pub in_append : (xs ys : List Range) (n : ℕ) → in_ranges (xs ++ ys) n ≡ (in_ranges xs n || in_ranges ys n)
in_append [] ys n = refl
in_append (x ∷ xs) ys n = let rest = in_append xs ys n in grind arith

-- the first of the ranges that are left
pub in_drop : (xs : List Range) (i : ℕ) (d : Range) (n : ℕ) → i < length xs
    → in_ranges (drop i xs) n ≡ (in_range (get_or xs i d) n || in_ranges (drop (i + 1) xs) n)
in_drop xs i d n lt = ap (λ (l : List Range). in_ranges l n) (drop_more xs i d lt)

-- what ends before a number does not have it
pub in_past : (front n : ℕ) (xs : List Range) → front < n → in_ranges (filter (λ r. nat_lt front r.hi) xs) n ≡ in_ranges xs n
in_past front n [] lt = refl
in_past front n (x ∷ xs) lt = let rest = in_past front n xs lt in grind arith

pub attached_is : (pairs : List Pair) (n : ℕ) (id : CommandId) → IsIn (record { id = id; stamp = record { 0 = n } }) pairs → is_attached pairs n ≡ true
attached_is [] n id h = absurd h
attached_is (p ∷ ps) n id (inl e) = let here : p.stamp.0 ≡ n = ap (λ (q : Pair). q.stamp.0) (sym e) in grind arith
attached_is (p ∷ ps) n id (inr h) = let rest : is_attached ps n ≡ true = attached_is ps n id h in grind arith

pub attached_out : (pairs : List Pair) (n : ℕ) → is_attached pairs n ≡ true → (id : CommandId) × IsIn {X = Pair} (record { id = id; stamp = record { 0 = n } }) pairs
attached_out [] n e = absurd cc
attached_out (p ∷ ps) n e = elim (or_cases (p.stamp.0 == n) (is_attached ps n) e) [
  | inl here ↦ let same : n ≡ p.stamp.0 = sym (eqb-true p.stamp.0 n here) in (p.id, inl (ap (λ (k : ℕ). let pair : Pair = record { id = p.id; stamp = record { 0 = k } } in pair) same))
  | inr later ↦ let rest = attached_out ps n later in (rest.0, inr rest.1)
]

attached_push : (pairs : List Pair) (p : Pair) (n : ℕ) → is_attached (pairs ++ p ∷ []) n ≡ (is_attached pairs n || (p.stamp.0 == n))
attached_push [] p n = go (p.stamp.0 == n)
  where
    go : (t : Bool) → (t || false) ≡ t
    go true = refl
    go false = refl
attached_push (q ∷ qs) p n = let rest = attached_push qs p n in grind arith

attached_take : (pairs : List Pair) (i n : ℕ) (d : Pair) → i < length pairs
    → is_attached (take (i + 1) pairs) n ≡ (is_attached (take i pairs) n || ((get_or pairs i d).stamp.0 == n))
attached_take pairs i n d lt = ap (λ (l : List Pair). is_attached l n) (take_at_read pairs i d lt).1 ∙ attached_push (take i pairs) (get_or pairs i d) n

-- how far the numbers are clear of the attached ones, one of these further
pub record IsClear (front last clear : ℕ) (attached : List Pair) : Type 0 where
  pub from : front ≤ clear
  pub to : clear ≤ last
  pub clear_of : (n : ℕ) → front < n → n ≤ clear → is_attached attached n ≡ false
  pub stopped : clear < last → is_attached attached (clear + 1) ≡ true

pub clear_further : (pairs : List Pair) (i front last clear clear' : ℕ) (d p : Pair) → i < length pairs → get_or pairs i d ≡ p
    → clear' ≡ cond (nat_lt front p.stamp.0 && nat_le p.stamp.0 clear) (p.stamp.0 - 1) clear
    → IsClear front last clear (take i pairs) → IsClear front last clear' (take (i + 1) pairs)
clear_further pairs i front last clear clear' d p lt at is so_far = go (nat_lt front p.stamp.0 && nat_le p.stamp.0 clear) refl is
  where
    taken : (n : ℕ) → is_attached (take (i + 1) pairs) n ≡ (is_attached (take i pairs) n || (p.stamp.0 == n))
    taken n = attached_take pairs i n d lt ∙ ap (λ (q : Pair). is_attached (take i pairs) n || (q.stamp.0 == n)) at

    before : (n : ℕ) → front < n → n ≤ clear → n ≢ p.stamp.0 → is_attached (take (i + 1) pairs) n ≡ false
    before n low high apart = let old : is_attached (take i pairs) n ≡ false = so_far.clear_of n low high in let more = taken n in grind (arith, old, more)

    go : (t : Bool) → (nat_lt front p.stamp.0 && nat_le p.stamp.0 clear) ≡ t → clear' ≡ cond t (p.stamp.0 - 1) clear → IsClear front last clear' (take (i + 1) pairs)
    go true e e' =
        let lower : front < p.stamp.0 = grind arith in
        let upper : p.stamp.0 ≤ clear = grind arith in
        record {
          from = omega arith;
          to = omega (arith, so_far.to);
          clear_of = λ n low high. before n low (omega arith) (λ same. absurd (omega arith));
          stopped = λ _. let at' : clear' + 1 ≡ p.stamp.0 = omega arith in let more = taken (clear' + 1) in let here : (p.stamp.0 == clear' + 1) ≡ true = grind arith in grind (arith, more, here);
        }
    go false e e' = record {
      from = omega (arith, so_far.from);
      to = omega (arith, so_far.to);
      clear_of = λ n low high. before n low (omega arith) (λ same. let no : (nat_lt front p.stamp.0 && nat_le p.stamp.0 clear) ≡ true = grind arith in cc);
      stopped = λ lt'. let same : clear' ≡ clear = e' in
          let old : is_attached (take i pairs) (clear + 1) ≡ true = so_far.stopped (omega arith) in
          let more = taken (clear + 1) in
          subst (λ (k : ℕ). is_attached (take (i + 1) pairs) (k + 1) ≡ true) (sym same) (grind (arith, old, more));
    }

-- the page of a rank that told nothing
abbrev pub blank : Page
blank = record { front = 0; ranges = []; attached = [] }

-- ranges with one more, one step of the way through them

or_none : (b : Bool) → (b || false) ≡ b
or_none true = refl
or_none false = refl

in_push : (xs : List Range) (r : Range) (n : ℕ) → in_ranges (xs ++ r ∷ []) n ≡ (in_ranges xs n || in_range r n)
in_push xs r n = in_append xs (r ∷ []) n ∙ ap (λ (b : Bool). in_ranges xs n || b) (or_none (in_range r n))

-- the number is in what is done so far or in what is left
abbrev pub in_parts : List Range → Range → List Range → Bool → ℕ → Bool
in_parts before merged after left n = in_ranges before n || in_range merged n || in_ranges after n || left

to_first : (b m a r q : Bool) → (((b || r) || m || a || q)) ≡ (b || m || a || (r || q))
to_first true m a r q = refl
to_first false true a true q = refl
to_first false true a false q = refl
to_first false false true true q = refl
to_first false false true false q = refl
to_first false false false true q = refl
to_first false false false false q = refl

to_last : (b m a r q : Bool) → (b || m || (a || r) || q) ≡ (b || m || a || (r || q))
to_last true m a r q = refl
to_last false true a r q = refl
to_last false false true r q = refl
to_last false false false r q = refl

to_middle : (b m a r q : Bool) → (b || (r || m) || a || q) ≡ (b || m || a || (r || q))
to_middle true m a r q = refl
to_middle false true a true q = refl
to_middle false true a false q = refl
to_middle false false true true q = refl
to_middle false false true false q = refl
to_middle false false false true q = refl
to_middle false false false false q = refl

pub put_before : (ranges before before' after : List Range) (merged d : Range) (i n : ℕ) → i < length ranges → before' ≡ before ++ get_or ranges i d ∷ []
    → in_parts before' merged after (in_ranges (drop (i + 1) ranges) n) n ≡ in_parts before merged after (in_ranges (drop i ranges) n) n
put_before ranges before before' after merged d i n lt is =
    ap (λ (t : Bool). t || in_range merged n || in_ranges after n || in_ranges (drop (i + 1) ranges) n) (ap (λ (l : List Range). in_ranges l n) is ∙ in_push before (get_or ranges i d) n)
    ∙ to_first (in_ranges before n) (in_range merged n) (in_ranges after n) (in_range (get_or ranges i d) n) (in_ranges (drop (i + 1) ranges) n)
    ∙ ap (λ (t : Bool). in_ranges before n || in_range merged n || in_ranges after n || t) (sym (in_drop ranges i d n lt))

pub put_after : (ranges before after after' : List Range) (merged d : Range) (i n : ℕ) → i < length ranges → after' ≡ after ++ get_or ranges i d ∷ []
    → in_parts before merged after' (in_ranges (drop (i + 1) ranges) n) n ≡ in_parts before merged after (in_ranges (drop i ranges) n) n
put_after ranges before after after' merged d i n lt is =
    ap (λ (t : Bool). in_ranges before n || in_range merged n || t || in_ranges (drop (i + 1) ranges) n) (ap (λ (l : List Range). in_ranges l n) is ∙ in_push after (get_or ranges i d) n)
    ∙ to_last (in_ranges before n) (in_range merged n) (in_ranges after n) (in_range (get_or ranges i d) n) (in_ranges (drop (i + 1) ranges) n)
    ∙ ap (λ (t : Bool). in_ranges before n || in_range merged n || in_ranges after n || t) (sym (in_drop ranges i d n lt))

pub put_into : (ranges before after : List Range) (merged merged' d : Range) (i n : ℕ) → i < length ranges → in_range merged' n ≡ (in_range (get_or ranges i d) n || in_range merged n)
    → in_parts before merged' after (in_ranges (drop (i + 1) ranges) n) n ≡ in_parts before merged after (in_ranges (drop i ranges) n) n
put_into ranges before after merged merged' d i n lt is =
    ap (λ (t : Bool). in_ranges before n || t || in_ranges after n || in_ranges (drop (i + 1) ranges) n) is
    ∙ to_middle (in_ranges before n) (in_range merged n) (in_ranges after n) (in_range (get_or ranges i d) n) (in_ranges (drop (i + 1) ranges) n)
    ∙ ap (λ (t : Bool). in_ranges before n || in_range merged n || in_ranges after n || t) (sym (in_drop ranges i d n lt))

-- before the first
or_swap : (a b : Bool) → (false || a || false || b) ≡ (b || a)
or_swap true true = refl
or_swap true false = refl
or_swap false true = refl
or_swap false false = refl

pub parts_first : (ranges : List Range) (added : Range) (n : ℕ) → in_parts [] added [] (in_ranges ranges n) n ≡ (in_ranges ranges n || in_range added n)
parts_first ranges added n = or_swap (in_range added n) (in_ranges ranges n)

-- after the last
ends : (b m a : Bool) → ((b || m) || a) ≡ (b || m || a || false)
ends true m a = refl
ends false true a = refl
ends false false true = refl
ends false false false = refl

pub parts_last : (ranges before before' after all : List Range) (merged : Range) (i n : ℕ) → length ranges ≤ i → before' ≡ before ++ merged ∷ [] → all ≡ before' ++ after
    → in_ranges all n ≡ in_parts before merged after (in_ranges (drop i ranges) n) n
parts_last ranges before before' after all merged i n le is whole =
    ap (λ (l : List Range). in_ranges l n) whole ∙ in_append before' after n
    ∙ ap (λ (t : Bool). t || in_ranges after n) (ap (λ (l : List Range). in_ranges l n) is ∙ in_push before merged n)
    ∙ ends (in_ranges before n) (in_range merged n) (in_ranges after n)
    ∙ ap (λ (l : List Range). in_parts before merged after (in_ranges l n) n) (sym (drop_all i ranges le))

pub stopped_past : (ranges ranges' : List Range) (attached : List Pair) (front : ℕ) → ranges' ≡ filter (λ r. nat_lt front r.hi) ranges
    → IsStopped ranges attached front → IsStopped ranges' attached front
stopped_past ranges ranges' attached front is (inl out) = inl (ap (λ (l : List Range). in_ranges l (front + 1)) is ∙ in_past front (front + 1) ranges (omega arith) ∙ out)
stopped_past ranges ranges' attached front is (inr waits) = inr waits
