-- Ballots, rings and stable stamps at shapes of odd and even numbers of replicas.
use Rattle.std.proofs.Common.{◌≡◌, ℕ, true, false, List, [], ◌∷◌, filter, refl}
use Rattle.tp_histories.proofs.Words.{id, pair}
use Rattle.tp_topology.specs.Ballots.{owner, next_ballot}
use Rattle.tp_topology.specs.Counting.{all_up_to, up_to}
use Rattle.tp_topology.specs.Shape.{Shape, in_ring}
use Rattle.tp_topology.specs.Stability.{Telling, is_counted, is_stable}

abbrev of_replicas : ℕ → ℕ → Shape
of_replicas replicas failures = record { partitions = 1; replicas = replicas; failures = failures }

-- rank 2 of three, after its own ballot 6 and a try at 5
next_after_6 : next_ballot (of_replicas 3 1) 2 6 5 ≡ 8
next_after_6 = refl

first_of_rank_2 : next_ballot (of_replicas 3 1) 2 0 0 ≡ 5
first_of_rank_2 = refl

owner_of_8 : owner (of_replicas 3 1) 8 ≡ 2
owner_of_8 = refl

-- the ring of rank 4 among five goes round
ring_of_4 : filter (in_ring (of_replicas 5 2) 4) (up_to 5) ≡ 1 ∷ 2 ∷ 4 ∷ 5 ∷ []
ring_of_4 = refl

-- a rank told so many numbers, all of them detached
abbrev up_from_0 : ℕ → ℕ → Telling
up_from_0 rank hi = record { rank = rank; lo = 0; hi = hi; attached = [] }

-- two of four are no majority
two_of_four : is_stable (of_replicas 4 1) (up_from_0 2 7 ∷ up_from_0 1 7 ∷ []) [] 1 ≡ false
two_of_four = refl

abbrev three_told : List Telling
three_told = up_from_0 3 5 ∷ up_from_0 2 7 ∷ up_from_0 1 7 ∷ []

three_of_four : is_stable (of_replicas 4 1) three_told [] 5 ≡ true
three_of_four = refl

third_is_behind : is_stable (of_replicas 4 1) three_told [] 6 ≡ false
third_is_behind = refl

-- 3 to 5 told first, and then 1 and 2
abbrev late : List Telling
late = record { rank = 1; lo = 0; hi = 2; attached = [] } ∷ record { rank = 1; lo = 2; hi = 5; attached = [] } ∷ []

late_counts : is_counted late [] 1 5 ≡ true
late_counts = refl

-- rank 1 told these numbers, all of them detached
abbrev told_past : ℕ → ℕ → Telling
told_past lo hi = record { rank = 1; lo = lo; hi = hi; attached = [] }

-- 5 and 6 are missing: the front is 4
abbrev with_gap : List Telling
with_gap = told_past 0 3 ∷ told_past 6 8 ∷ told_past 3 4 ∷ []

front_at_gap : (all_up_to (is_counted with_gap [] 1) 4 ≡ true) × (is_counted with_gap [] 1 5 ≡ false)
front_at_gap = (refl, refl)

-- they come, with one number more on each side: the front is 8
front_past_gap : (all_up_to (is_counted (told_past 2 6 ∷ with_gap) [] 1) 8 ≡ true)
    × (is_counted (told_past 2 6 ∷ with_gap) [] 1 9 ≡ false)
front_past_gap = (refl, refl)

-- a promise to a command counts once it is committed
abbrev attached : List Telling
attached = record { rank = 1; lo = 0; hi = 1; attached = pair (id 1 1) 1 ∷ [] } ∷ []

before_commit : is_counted attached [] 1 1 ≡ false
before_commit = refl

after_commit : is_counted attached (id 1 1 ∷ []) 1 1 ≡ true
after_commit = refl
