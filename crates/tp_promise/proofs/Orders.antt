-- Ranges stay in order and apart.
use Rattle.std.proofs.Common.{◌≡◌, ℕ, ◌+◌, ◌<◌, ◌≤◌, inl, inr, min, max, Bool, true, false, cond, List, [], ◌∷◌, ◌++◌, refl, sym, ap, subst, ◌∙◌, arith, append_assoc, length, get_or, drop}
use Rattle.std.proofs.lemmas.List.{drop_more}
use Rattle.std.specs.Prelude.{filter, nat_lt}
use Rattle.std.proofs.lemmas.Bool.{lt-ltb, ltb-true}
use Rattle.tp_base.specs.Lists.{Ascends, Each, IsIn}
use Rattle.tp_base.proofs.Each.{each_in, each_of, each_push}
use Rattle.tp_base.proofs.Members.{in_either, in_left, in_right}
use Rattle.tp_base.proofs.Orders.{ascends_before, ascends_push, ascends_right}
use Rattle.tp_promise.specs.declared.ranges.Range.{Range}
use Rattle.tp_promise.specs.Pages.{AreApart}

abbrev before : Range → Range → Bool
before a b = nat_lt a.hi b.lo

abbrev Some : List Range → Type 0
Some ranges = Each (λ r. r.lo < r.hi) ranges

-- between those before it and those after it
ascends_insert : (xs ys : List Range) (r : Range) → Ascends before (xs ++ ys) → ((x : Range) → IsIn x xs → before x r ≡ true) → ((y : Range) → IsIn y ys → before r y ≡ true)
    → Ascends before (xs ++ r ∷ ys)
ascends_insert [] ys r up low high = (each_of (λ y. before r y ≡ true) ys high, up)
ascends_insert (x ∷ xs) ys r up low high = (
  each_of (λ y. before x y ≡ true) (xs ++ r ∷ ys) (λ y h. elim (in_either xs (r ∷ ys) y h) [
    | inl l ↦ each_in (λ z. before x z ≡ true) (xs ++ ys) y up.0 (in_left xs ys y l)
    | inr there ↦ elim there [
      | inl e ↦ subst (λ z. before x z ≡ true) (sym e) (low x (inl refl))
      | inr g ↦ each_in (λ z. before x z ≡ true) (xs ++ ys) y up.0 (in_right xs ys y g)
    ]
  ]),
  ascends_insert xs ys r up.1 (λ z h. low z (inr h)) high,
)

ascends_remove : (xs ys : List Range) (r : Range) → Ascends before (xs ++ r ∷ ys) → Ascends before (xs ++ ys)
ascends_remove [] ys r up = up.1
ascends_remove (x ∷ xs) ys r up = (
  each_of (λ y. before x y ≡ true) (xs ++ ys) (λ y h. each_in (λ z. before x z ≡ true) (xs ++ r ∷ ys) y up.0 (elim (in_either xs ys y h) [
    | inl l ↦ in_left xs (r ∷ ys) y l
    | inr g ↦ in_right xs (r ∷ ys) y (inr g)
  ])),
  ascends_remove xs ys r up.1,
)

ascends_filter : (p : Range → Bool) (xs : List Range) → AreApart xs → AreApart (filter p xs)
ascends_filter p [] are = record { ascending = tt; some = tt }
ascends_filter p (x ∷ xs) are = go (p x) (ascends_filter p xs (record { ascending = are.ascending.1; some = are.some.1 }))
  where
    kept : (ys : List Range) → Each (λ y. before x y ≡ true) ys → Each (λ y. before x y ≡ true) (filter p ys)
    kept [] each = tt
    kept (y ∷ ys) each = head (p y) (kept ys each.1)
      where
        head : (t : Bool) → Each (λ z. before x z ≡ true) (filter p ys) → Each (λ z. before x z ≡ true) (cond t (y ∷ filter p ys) (filter p ys))
        head true rest = (each.0, rest)
        head false rest = rest

    go : (t : Bool) → AreApart (filter p xs) → AreApart (cond t (x ∷ filter p xs) (filter p xs))
    go true rest = record { ascending = (kept xs are.ascending.0, rest.ascending); some = (are.some.0, rest.some) }
    go false rest = rest

pub filter_apart : (p : Range → Bool) (xs ys : List Range) → ys ≡ filter p xs → AreApart xs → AreApart ys
filter_apart p xs ys is are = subst (λ l. AreApart l) (sym is) (ascends_filter p xs are)

-- the parts that are done, and what is left
pub record IsPlaced (first : List Range) (merged : Range) (last left : List Range) : Type 0 where
  pub whole : Ascends before (first ++ merged ∷ last)
  pub first_left : Ascends before (first ++ left)
  pub last_left : Ascends before (last ++ left)
  pub some_first : Some first
  pub some_merged : merged.lo < merged.hi
  pub some_last : Some last
  pub some_left : Some left

pub placed_none : (ranges : List Range) (added : Range) → AreApart ranges → added.lo < added.hi → IsPlaced [] added [] ranges
placed_none ranges added are some = record {
  whole = (tt, tt);
  first_left = are.ascending;
  last_left = are.ascending;
  some_first = tt;
  some_merged = some;
  some_last = tt;
  some_left = are.some;
}

pub placed_first : (first last left : List Range) (merged r : Range) → IsPlaced first merged last (r ∷ left) → r.hi < merged.lo → IsPlaced (first ++ r ∷ []) merged last left
placed_first first last left merged r is lt = record {
  whole = subst (λ l. Ascends before l) (sym (append_assoc first (r ∷ []) (merged ∷ last)))
      (ascends_insert first (merged ∷ last) r is.whole
      (λ x h. ascends_before before first (r ∷ left) x r is.first_left h (inl refl))
      (λ y h. elim h [
        | inl e ↦ subst (λ z. before r z ≡ true) (sym e) (lt-ltb r.hi merged.lo lt)
        | inr g ↦
            let after : merged.hi < y.lo = ltb-true merged.hi y.lo (each_in (λ z. before merged z ≡ true) last y (ascends_right before first (merged ∷ last) is.whole).0 g) in
            lt-ltb r.hi y.lo (omega (arith, is.some_merged))
      ]));
  first_left = subst (λ l. Ascends before l) (sym (append_assoc first (r ∷ []) left)) is.first_left;
  last_left = ascends_remove last left r is.last_left;
  some_first = each_push (λ x. x.lo < x.hi) first r is.some_first is.some_left.0;
  some_merged = is.some_merged;
  some_last = is.some_last;
  some_left = is.some_left.1;
}

pub placed_last : (first last left : List Range) (merged r : Range) → IsPlaced first merged last (r ∷ left) → merged.hi < r.lo → IsPlaced first merged (last ++ r ∷ []) left
placed_last first last left merged r is lt = record {
  whole = subst (λ l. Ascends before l) (append_assoc first (merged ∷ last) (r ∷ []))
      (ascends_push before (first ++ merged ∷ last) r is.whole (each_of (λ x. before x r ≡ true) (first ++ merged ∷ last) (λ x h. elim (in_either first (merged ∷ last) x h) [
        | inl l ↦ ascends_before before first (r ∷ left) x r is.first_left l (inl refl)
        | inr g ↦ elim g [
          | inl e ↦ subst (λ z. before z r ≡ true) (sym e) (lt-ltb merged.hi r.lo lt)
          | inr later ↦ ascends_before before last (r ∷ left) x r is.last_left later (inl refl)
        ]
      ])));
  first_left = ascends_remove first left r is.first_left;
  last_left = subst (λ l. Ascends before l) (sym (append_assoc last (r ∷ []) left)) is.last_left;
  some_first = is.some_first;
  some_merged = is.some_merged;
  some_last = each_push (λ x. x.lo < x.hi) last r is.some_last is.some_left.0;
  some_left = is.some_left.1;
}

pub placed_into : (first last left : List Range) (merged merged' r : Range) → IsPlaced first merged last (r ∷ left) → merged.lo ≤ r.hi → r.lo ≤ merged.hi
    → (merged'.lo ≡ min r.lo merged.lo) × (merged'.hi ≡ max r.hi merged.hi) → IsPlaced first merged' last left
placed_into first last left merged merged' r is low high ends = record {
  whole = ascends_insert first last merged' (ascends_remove first last merged is.whole)
      (λ x h.
      let one : x.hi < r.lo = ltb-true x.hi r.lo (ascends_before before first (r ∷ left) x r is.first_left h (inl refl)) in
      let other : x.hi < merged.lo = ltb-true x.hi merged.lo (ascends_before before first (merged ∷ last) x merged is.whole h (inl refl)) in
      lt-ltb x.hi merged'.lo (omega (arith, ends.0)))
      (λ y h.
      let after : merged.hi < y.lo = ltb-true merged.hi y.lo (each_in (λ z. before merged z ≡ true) last y (ascends_right before first (merged ∷ last) is.whole).0 h) in
      let earlier : y.hi < r.lo = ltb-true y.hi r.lo (ascends_before before last (r ∷ left) y r is.last_left h (inl refl)) in
      let some : y.lo < y.hi = each_in (λ z. z.lo < z.hi) last y is.some_last h in
      absurd (omega arith));
  first_left = ascends_remove first left r is.first_left;
  last_left = ascends_remove last left r is.last_left;
  some_first = is.some_first;
  some_merged = omega (arith, ends.0, ends.1, is.some_merged);
  some_last = is.some_last;
  some_left = is.some_left.1;
}

pub placed_all : (first first' last left all : List Range) (merged : Range) → IsPlaced first merged last left → first' ≡ first ++ merged ∷ [] → all ≡ first' ++ last → AreApart all
placed_all first first' last left all merged is one whole =
    let same : all ≡ first ++ merged ∷ last = whole ∙ ap (λ (l : List Range). l ++ last) one ∙ append_assoc first (merged ∷ []) last in
    record {
      ascending = subst (λ l. Ascends before l) (sym same) is.whole;
      some = subst (λ l. Some l) (sym same) (each_of (λ x. x.lo < x.hi) (first ++ merged ∷ last) (λ x h. elim (in_either first (merged ∷ last) x h) [
        | inl l ↦ each_in (λ z. z.lo < z.hi) first x is.some_first l
        | inr g ↦ elim g [
          | inl e ↦ subst (λ z. z.lo < z.hi) (sym e) is.some_merged
          | inr later ↦ each_in (λ z. z.lo < z.hi) last x is.some_last later
        ]
      ]));
    }

-- the first of what is left
pub left_first : (first last ranges : List Range) (merged d : Range) (i : ℕ) → i < length ranges → IsPlaced first merged last (drop i ranges)
    → IsPlaced first merged last (get_or ranges i d ∷ drop (i + 1) ranges)
left_first first last ranges merged d i lt is = subst (λ l. IsPlaced first merged last l) (drop_more ranges i d lt) is
