-- Tables and votes only gain: what was kept or voted stays, and is there once it came.
-- Used for what a message leaves behind (Served), and where nothing is under way (NotStuck).
use Rattle.std.proofs.Common.{◌≡◌, ℕ, zero, suc, ◌≤◌, Bool, true, false, List, [], ◌∷◌, length, Option, Some, None, is_some, refl, arith}
use Rattle.std.specs.Prelude.{replicate, slice_get, slice_set}
use Rattle.tp_base.specs.Tables.{flat, kept_at, nth, with_nth}
use Rattle.tp_paxos.specs.Votes.{PutStamp, count_votes}

abbrev pub votes_put : Option PutStamp → List Bool
votes_put None = []
votes_put (Some put) = put.votes

set_true : (votes : List Bool) (i j : ℕ) → slice_get votes j ≡ Some true
    → slice_get (slice_set votes i true) j ≡ Some true
set_true [] i j e = e
set_true (v ∷ votes) zero zero e = refl
set_true (v ∷ votes) zero (suc j) e = e
set_true (v ∷ votes) (suc i) zero e = e
set_true (v ∷ votes) (suc i) (suc j) e = set_true votes i j e

pub vote_stays : (votes : List Bool) (i j : ℕ) → nth votes j ≡ Some true → nth (with_nth votes i true) j ≡ Some true
vote_stays votes zero j e = e
vote_stays votes (suc i) zero e = absurd cc
vote_stays votes (suc i) (suc j) e = set_true votes i j e

pub no_votes : (n : ℕ) → count_votes (replicate n false) ≡ 0
no_votes zero = refl
no_votes (suc n) = no_votes n

pub all_votes : (votes : List Bool) → ((k : ℕ) → 1 ≤ k → k ≤ length votes → nth votes k ≡ Some true)
    → count_votes votes ≡ length votes
all_votes [] all = refl
all_votes (true ∷ votes) all = omega (arith, all_votes votes (rest votes all))
  where
    rest : (votes : List Bool) → ((k : ℕ) → 1 ≤ k → k ≤ suc (length votes) → nth (true ∷ votes) k ≡ Some true)
        → (k : ℕ) → 1 ≤ k → k ≤ length votes → nth votes k ≡ Some true
    rest votes all zero low high = absurd (omega arith)
    rest votes all (suc i) low high = all (suc (suc i)) (omega arith) (omega arith)
all_votes (false ∷ votes) all =
    absurd (let wrong : Some false ≡ Some true = all 1 (omega arith) (omega arith) in cc)

set_kept : {X : Type 0} (table : List (Option X)) (i j : ℕ) (x : X) → is_some (flat (slice_get table j)) ≡ true
    → is_some (flat (slice_get (slice_set table i (Some x)) j)) ≡ true
set_kept [] i j x some = some
set_kept (o ∷ table) zero zero x some = refl
set_kept (o ∷ table) zero (suc j) x some = some
set_kept (o ∷ table) (suc i) zero x some = some
set_kept (o ∷ table) (suc i) (suc j) x some = set_kept table i j x some

-- what a table keeps, it keeps with one more
pub kept_more : {X : Type 0} (table : List (Option X)) (i j : ℕ) (x : X) → is_some (kept_at table j) ≡ true
    → is_some (kept_at (with_nth table i (Some x)) j) ≡ true
kept_more table zero j x some = some
kept_more table (suc i) zero x some = absurd cc
kept_more table (suc i) (suc j) x some = set_kept table i j x some
