-- What becomes of a cell by one step after the other. Used where a cell works, and by the rounds.
use Rattle.std.proofs.Common.{◌≡◌, ◌<◌, ◌≤◌, ℕ, zero, suc, List, [], ◌∷◌, ◌++◌, length, take, sym, ap, subst, ◌∙◌, length-append, take_all, arith}
use Rattle.std.specs.Prelude.{slice_index_or}
use Rattle.atomic_table.specs.Seated.{TableId}
use Rattle.tp_base.proofs.Each.{each_in}
use Rattle.tp_base.proofs.Prefixes.{prefix_then}
use Rattle.tp_base.specs.Lists.{Each}
use Rattle.tp_rules.specs.Acts.{Identity}
use Rattle.tp_shared.specs.Known.{Known}
use Rattle.tp_worker.specs.Cells.{AllDone, AllGoOn, GoesOn, HasGrown, IsDone, Worker, with_more}
use Rattle.tp_worker.specs.declared.cell.CellState.TheVariants.{Live}

pub grown_then : (j k l : Known) → HasGrown j k → HasGrown k l → HasGrown j l
grown_then j k l h i = record {
  same = i.same ∙ ap (λ (m : Known). with_more m l.own l.seen) h.same;
  own = prefix_then j.own k.own l.own h.own i.own;
  seen = prefix_then j.seen k.seen l.seen h.seen i.seen;
}

pub table_then : (j k : Known) → HasGrown j k → k.table ≡ j.table
table_then j k h = ap (λ (m : Known). m.table) h.same

module _ {A : Type 0} (identity_of : A → Identity) where
  pub goes_then : (u v w : Worker A) → GoesOn identity_of u v → GoesOn identity_of v w → GoesOn identity_of u w
  goes_then u v w h i = record {
    identity = i.identity ∙ h.identity;
    desk = grown_then u.desk v.desk w.desk h.desk i.desk;
    ended = λ e. let same = h.ended e in i.ended (λ (l : v.state ≡ Live). e (sym (ap (λ (x : Worker A). x.state) same) ∙ l)) ∙ same;
  }

-- the longer of two own lists counts what was made
pub counted : (j k : Known) (before after : ℕ) → HasGrown j k → before ≡ length j.own → after ≡ length k.own → before ≤ after
counted j k before after h e f =
    let long = length-append j.own h.own.0 in
    let whole : length (j.own ++ h.own.0) ≡ length k.own = ap length h.own.1 in
    omega (arith, e, f)

-- all cells

pub each_place : {X : Type 0} (P : X → Type 0) (xs : List X) → ((i : ℕ) (d : X) → i < length xs → P (slice_index_or xs i d)) → Each P xs
each_place P [] h = tt
each_place P (x ∷ xs) h = (h zero x (omega arith), each_place P xs (λ i d lt. h (suc i) d (omega (arith, lt))))

pub place_each : {X : Type 0} (P : X → Type 0) (xs : List X) → Each P xs → (i : ℕ) (d : X) → i < length xs → P (slice_index_or xs i d)
place_each P [] each i d lt = absurd (omega (arith, lt))
place_each P (x ∷ xs) each zero d lt = each.0
place_each P (x ∷ xs) each (suc i) d lt = place_each P xs each.1 i d (omega (arith, lt))

module _ {A : Type 0} (identity_of : A → Identity) where
  pub all_then : (us vs ws : List (Worker A)) → AllGoOn identity_of us vs → AllGoOn identity_of vs ws → AllGoOn identity_of us ws
  all_then us vs ws h k = (
    k.0 ∙ h.0,
    λ i d lt.
        goes_then identity_of (slice_index_or us i d) (slice_index_or vs i d) (slice_index_or ws i d) (h.1 i d lt) (k.1 i d (omega (arith, lt, h.0))),
  )

  -- they stay at their table
  pub all_at : (table : TableId) (us vs : List (Worker A)) → AllGoOn identity_of us vs → Each (λ c. c.desk.table ≡ table) us → Each (λ c. c.desk.table ≡ table) vs
  all_at table us vs h each = each_place (λ c. c.desk.table ≡ table) vs (λ i d lt.
      let before : i < length us = omega (arith, lt, h.0) in
      table_then (slice_index_or us i d).desk (slice_index_or vs i d).desk (h.1 i d before).desk ∙ place_each (λ c. c.desk.table ≡ table) us each i d before)

-- where each live cell is done and has seen the most that any has
pub all_done : {A : Type 0} (cells : List (Worker A)) (most : ℕ) → Each (λ c. c.state ≡ Live → IsDone c) cells → Each (λ c. length c.desk.seen ≤ most) cells
    → Each (λ c. c.state ≡ Live → length c.desk.seen ≡ most) cells → AllDone cells
all_done {A} cells most done within all = record {
  done = λ w h live. each_in (λ (c : Worker A). c.state ≡ Live → IsDone c) cells w done h live;
  longest = λ v w h k live.
      let low = each_in (λ (c : Worker A). length c.desk.seen ≤ most) cells v within h in
      let long = each_in (λ (c : Worker A). c.state ≡ Live → length c.desk.seen ≡ most) cells w all k live in
      omega (arith, low, long);
}

-- one more of a list

pub each_all : {X : Type 0} (P : X → Type 0) (xs : List X) (n : ℕ) → length xs ≤ n → Each P (take n xs) → Each P xs
each_all P xs n past each = subst (Each P) (take_all n xs past) each

pub none_before : {X : Type 0} (P : X → Type 0) (xs : List X) → Each P (take 0 xs)
none_before P xs = tt
