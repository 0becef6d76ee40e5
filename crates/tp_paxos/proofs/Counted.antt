-- Votes counted one after another.
use Rattle.std.proofs.Common.{◌≡◌, ℕ, ◌+◌, ◌<◌, ◌≤◌, Bool, true, false, List, [], ◌∷◌, ◌++◌, length, get_or, take, refl, sym, ap, ◌∙◌, arith}
use Rattle.std.proofs.lemmas.Grind.{take_at_read}
use Rattle.std.specs.Prelude.{cond}
use Rattle.tp_paxos.specs.Votes.{count_votes}

count_push : (votes : List Bool) (vote : Bool) → count_votes (votes ++ vote ∷ []) ≡ cond vote (count_votes votes + 1) (count_votes votes)
count_push [] true = refl
count_push [] false = refl
count_push (true ∷ votes) true = let rest = count_push votes true in omega arith
count_push (true ∷ votes) false = let rest = count_push votes false in omega arith
count_push (false ∷ votes) vote = count_push votes vote

pub count_within : (votes : List Bool) → count_votes votes ≤ length votes
count_within [] = omega arith
count_within (true ∷ votes) = let rest = count_within votes in omega arith
count_within (false ∷ votes) = let rest = count_within votes in omega arith

-- one place further on
pub count_further : (votes : List Bool) (i n : ℕ) (vote : Bool) → get_or votes i false ≡ vote → i < length votes → n ≡ count_votes (take i votes)
    → cond vote (n + 1) n ≡ count_votes (take (i + 1) votes)
count_further votes i n vote e lt so_far =
    ap (λ (k : ℕ). cond vote (k + 1) k) so_far
    ∙ sym (ap (λ (l : List Bool). count_votes l) ((take_at_read votes i false lt).1 ∙ ap (λ (v : Bool). take i votes ++ v ∷ []) e) ∙ count_push (take i votes) vote)
