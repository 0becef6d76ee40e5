-- Where an element that passes a test stands first, as a list grows; so a desk that looked at some entries looks at the rest
-- alone. Used where a desk looks for a crash of its actor's site.
use Rattle.std.proofs.Common.{◌≡◌, ℕ, suc, ◌+◌, ◌<◌, ◌≤◌, inl, inr, Bool, true, false, cond, List, [], ◌∷◌, ◌++◌, Option, Some, None, option_map, is_some, length, take, drop, refl, sym, ap, subst, ◌∙◌, take-append-drop, length-take-le, arith}
use Rattle.std.specs.List.{position, position_or_len}
use Rattle.std.specs.Option.{option_and_then}
use Rattle.std.specs.Prelude.{nat_lt}
use Rattle.std.proofs.lemmas.Bool.{cases_Bool, cond-true, le-ltb, lt-ltb, ltb-false, ltb-true}
use Rattle.tp_base.proofs.Options.{absent}
use Rattle.tp_base.specs.Lists.{IsIn}
use Rattle.tp_base.specs.declared.names.ActorName.{ActorName}
use Rattle.tp_base.specs.declared.names.Site.{Site}
use Rattle.tp_journal.specs.Entered.{first_crash, is_crash_of}
use Rattle.tp_rules.specs.declared.event.Entry.{Entry}
use Rattle.tp_shared.specs.Histories.{site_of}
use Rattle.tp_shared.specs.Known.{crash_in}

shift : (n m : ℕ) → nat_lt (1 + n) (suc m) ≡ nat_lt n m
shift n m = elim (cases_Bool (nat_lt n m)) [
  | inl t ↦ let lt : n < m = ltb-true n m t in lt-ltb (1 + n) (suc m) (omega arith) ∙ sym t
  | inr f ↦ let le : m ≤ n = ltb-false n m f in le-ltb (1 + n) (suc m) (omega arith) ∙ sym f
]

module _ {X : Type 0} (p : X → Bool) where
  here : (x : X) (xs : List X) → p x ≡ true → position p (x ∷ xs) ≡ Some 0
  here x xs e = rw e (cond-true (nat_lt 0 (suc (length xs))) (Some 0) None (lt-ltb 0 (suc (length xs)) (omega arith)))

  next : (x : X) (xs : List X) → p x ≡ false → position p (x ∷ xs) ≡ option_map (λ i. suc i) (position p xs)
  next x xs e =
      rw e (ap (λ (b : Bool). cond b (Some (1 + position_or_len p xs)) None) (shift (position_or_len p xs) (length xs))
      ∙ by (nat_lt (position_or_len p xs) (length xs)) (position_or_len p xs))
    where
      by : (b : Bool) (n : ℕ) → cond b (Some (1 + n)) None ≡ option_map (λ i. suc i) (cond b (Some n) None)
      by true n = let same : 1 + n ≡ suc n = omega arith in ap (λ (i : ℕ). Some i) same
      by false n = refl

  pub found_still : (xs ys : List X) (i : ℕ) → position p xs ≡ Some i → position p (xs ++ ys) ≡ Some i
  found_still [] ys i e = absurd cc
  found_still (x ∷ xs) ys i e = by (p x) refl (found_still xs ys)
    where
      of_rest : (o : Option ℕ) → position p xs ≡ o → option_map (λ i. suc i) o ≡ Some i → ((j : ℕ) → position p xs ≡ Some j → position p (xs ++ ys) ≡ Some j)
          → option_map (λ i. suc i) (position p (xs ++ ys)) ≡ Some i
      of_rest None is f rest = absurd cc
      of_rest (Some j) is f rest = ap (option_map (λ i. suc i)) (rest j is) ∙ f

      by : (b : Bool) → p x ≡ b → ((j : ℕ) → position p xs ≡ Some j → position p (xs ++ ys) ≡ Some j) → position p (x ∷ xs ++ ys) ≡ Some i
      by true is rest = here x (xs ++ ys) is ∙ sym (here x xs is) ∙ e
      by false is rest = next x (xs ++ ys) is ∙ of_rest (position p xs) refl (sym (next x xs is) ∙ e) rest

  pub found_later : (xs ys : List X) → position p xs ≡ None → position p (xs ++ ys) ≡ option_map (λ i. length xs + i) (position p ys)
  found_later [] ys e = by (position p ys)
    where
      by : (o : Option ℕ) → o ≡ option_map (λ i. 0 + i) o
      by None = refl
      by (Some n) = let same : n ≡ 0 + n = omega arith in ap (λ (i : ℕ). Some i) same
  found_later (x ∷ xs) ys e = by (p x) refl (found_later xs ys)
    where
      none_of_rest : (o : Option ℕ) → option_map (λ i. suc i) o ≡ None → o ≡ None
      none_of_rest None f = refl
      none_of_rest (Some j) f = absurd cc

      one_more : (o : Option ℕ) → option_map (λ i. suc i) (option_map (λ i. length xs + i) o) ≡ option_map (λ i. suc (length xs) + i) o
      one_more None = refl
      one_more (Some n) = let same : suc (length xs + n) ≡ suc (length xs) + n = omega arith in ap (λ (i : ℕ). Some i) same

      by : (b : Bool) → p x ≡ b → (position p xs ≡ None → position p (xs ++ ys) ≡ option_map (λ i. length xs + i) (position p ys))
          → position p (x ∷ xs ++ ys) ≡ option_map (λ i. suc (length xs) + i) (position p ys)
      by true is rest = absurd (let wrong : Some 0 ≡ None = sym (here x xs is) ∙ e in cc)
      by false is rest =
          next x (xs ++ ys) is ∙ ap (option_map (λ i. suc i)) (rest (none_of_rest (position p xs) (sym (next x xs is) ∙ e))) ∙ one_more (position p ys)

  -- where there is no first place, nothing passes
  pub nowhere_passes : (xs : List X) (y : X) → position p xs ≡ None → IsIn y xs → p y ≡ false
  nowhere_passes [] y e h = absurd h
  nowhere_passes (x ∷ xs) y e h = by (p x) refl (nowhere_passes xs y) h
    where
      none_of_rest : (o : Option ℕ) → option_map (λ i. suc i) o ≡ None → o ≡ None
      none_of_rest None f = refl
      none_of_rest (Some j) f = absurd cc

      by : (b : Bool) → p x ≡ b → (position p xs ≡ None → IsIn y xs → p y ≡ false) → IsIn y (x ∷ xs) → p y ≡ false
      by true is rest k = absurd (let wrong : Some 0 ≡ None = sym (here x xs is) ∙ e in cc)
      by false is rest (inl same) = ap p same ∙ is
      by false is rest (inr later) = rest (none_of_rest (position p xs) (sym (next x xs is) ∙ e)) later

-- the first crash of a site

site_stays : (s : Site) (xs ys : List Entry) (n : ℕ) → first_crash s xs ≡ Some n → first_crash s (xs ++ ys) ≡ Some n
site_stays s xs ys n e = of_place (position (is_crash_of s) xs) refl e
  where
    of_place : (o : Option ℕ) → position (is_crash_of s) xs ≡ o → option_map (λ i. i + 1) o ≡ Some n → first_crash s (xs ++ ys) ≡ Some n
    of_place None is f = absurd cc
    of_place (Some i) is f = ap (option_map (λ i. i + 1)) (found_still (is_crash_of s) xs ys i is) ∙ f

of_site : (a : ActorName) (s : Site) (journal : List Entry) → site_of a ≡ Some s → crash_in (Some a) journal ≡ first_crash s journal
of_site a s journal e = ap (option_and_then (λ (t : Site). first_crash t journal)) e

pub crash_stays : (actor : Option ActorName) (xs ys : List Entry) (n : ℕ) → crash_in actor xs ≡ Some n → crash_in actor (xs ++ ys) ≡ Some n
crash_stays None xs ys n e = absurd cc
crash_stays (Some a) xs ys n e = of_its (site_of a) refl e
  where
    of_its : (o : Option Site) → site_of a ≡ o → option_and_then (λ t. first_crash t xs) o ≡ Some n → crash_in (Some a) (xs ++ ys) ≡ Some n
    of_its None is f = absurd cc
    of_its (Some s) is f = of_site a s (xs ++ ys) is ∙ site_stays s xs ys n f

-- what was found among the entries looked at is what is found among all
pub found_already : (actor : Option ActorName) (crash : Option ℕ) (looked : ℕ) (journal : List Entry) → is_some crash ≡ true
    → crash ≡ crash_in actor (take looked journal) → crash ≡ crash_in actor journal
found_already actor None looked journal some e = absurd cc
found_already actor (Some n) looked journal some e =
    sym (subst (λ (l : List Entry). crash_in actor l ≡ Some n) (take-append-drop looked journal) (crash_stays actor (take looked journal) (drop looked journal) n (sym e)))

-- and otherwise it is found among the rest
found_behind : (s : Site) (looked : ℕ) (journal : List Entry) → length (take looked journal) ≡ looked → first_crash s (take looked journal) ≡ None
    → option_map (λ i. looked + i + 1) (position (is_crash_of s) (drop looked journal)) ≡ first_crash s journal
found_behind s looked journal long none =
    by_number (position (is_crash_of s) (drop looked journal))
    ∙ sym (ap (option_map (λ i. i + 1)) (found_later (is_crash_of s) (take looked journal) (drop looked journal) (nowhere (position (is_crash_of s) (take looked journal)) none)))
    ∙ ap (first_crash s) (take-append-drop looked journal)
  where
    nowhere : (o : Option ℕ) → option_map (λ i. i + 1) o ≡ None → o ≡ None
    nowhere None e = refl
    nowhere (Some i) e = absurd cc

    by_number : (o : Option ℕ) → option_map (λ i. looked + i + 1) o ≡ option_map (λ i. i + 1) (option_map (λ i. length (take looked journal) + i) o)
    by_number None = refl
    by_number (Some i) = ap (λ (n : ℕ). Some (n + i + 1)) (sym long)

pub found_of : (actor : Option ActorName) (crash : Option ℕ) (a : ActorName) (s : Site) (looked : ℕ) (journal : List Entry) → actor ≡ Some a → site_of a ≡ Some s
    → looked ≤ length journal → is_some crash ≡ false → crash ≡ crash_in actor (take looked journal)
    → option_map (λ i. looked + i + 1) (position (is_crash_of s) (drop looked journal)) ≡ crash_in actor journal
found_of actor crash a s looked journal is at within new known =
    let none : crash_in actor (take looked journal) ≡ None = sym known ∙ absent crash new in
    let in_all : crash_in actor journal ≡ first_crash s journal = ap (λ (o : Option ActorName). crash_in o journal) is ∙ of_site a s journal at in
    let in_some : crash_in actor (take looked journal) ≡ first_crash s (take looked journal) =
    ap (λ (o : Option ActorName). crash_in o (take looked journal)) is ∙ of_site a s (take looked journal) at in
    found_behind s looked journal (length-take-le looked journal within) (sym in_some ∙ none) ∙ sym in_all
