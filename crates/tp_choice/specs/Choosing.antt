-- Which stamp a recovery chooses from the answers to it.
use Rattle.std.specs.Prelude.{◌≡◌, ◌≢◌, ◌≤◌, ◌<◌, ◌⊎◌, ℕ, ◌==◌, ◌&&◌, ◌||◌, nat_lt, max, Bool, true, false, cond, List, [], ◌∷◌, Option, Some, None}
use Rattle.std.specs.List.{list_any}
use Rattle.tp_base.specs.declared.names.Made.{Made}
use Rattle.tp_base.specs.declared.names.Made.TheVariants.{Proposal, Recovery}
use Rattle.tp_base.specs.Lists.{IsIn}
use Rattle.tp_choice.specs.declared.answer.RecoveryAnswer.{RecoveryAnswer}

abbrev pub greatest_by : (RecoveryAnswer → ℕ) → List RecoveryAnswer → ℕ
greatest_by f [] = 0
greatest_by f (a ∷ answers) = max (f a) (greatest_by f answers)

-- whether an answer's accepted ballot is greater than another's, or the same and of a lesser rank
abbrev pub is_over : RecoveryAnswer → RecoveryAnswer → Bool
is_over a b = nat_lt b.accepted a.accepted || ((a.accepted == b.accepted) && nat_lt a.rank.0 b.rank.0)

abbrev pub better : RecoveryAnswer → Option RecoveryAnswer → RecoveryAnswer
better a None = a
better a (Some b) = cond (is_over a b) a b

-- the answer with the greatest accepted ballot, of the least rank among those, or the one found so far
abbrev pub best_from : Option RecoveryAnswer → List RecoveryAnswer → Option RecoveryAnswer
best_from found [] = found
best_from found (a ∷ answers) = best_from (Some (better a found)) answers

abbrev pub is_recovery : Made → Bool
is_recovery Proposal = false
is_recovery Recovery = true

-- whether an answer is of a member of the fast quorum that is the home, or whose proposal was made by a recovery
abbrev pub tells_slow : (ℕ → Bool) → ℕ → RecoveryAnswer → Bool
tells_slow in_quorum home a = in_quorum a.rank.0 && ((a.rank.0 == home) || is_recovery a.made)

-- a member's stamp, and 0 of another
abbrev pub member_stamp : (ℕ → Bool) → RecoveryAnswer → ℕ
member_stamp in_quorum a = cond (in_quorum a.rank.0) a.stamp.0 0

-- where nothing was accepted
abbrev pub chosen_of_proposals : (ℕ → Bool) → ℕ → List RecoveryAnswer → ℕ
chosen_of_proposals in_quorum home answers = cond (list_any (tells_slow in_quorum home) answers)
    (greatest_by (λ a. a.stamp.0) answers)
    (greatest_by (member_stamp in_quorum) answers)

abbrev pub chosen_with : (ℕ → Bool) → ℕ → List RecoveryAnswer → Option RecoveryAnswer → ℕ
chosen_with in_quorum home answers None = chosen_of_proposals in_quorum home answers
chosen_with in_quorum home answers (Some best) = cond (nat_lt 0 best.accepted) best.stamp.0 (chosen_of_proposals in_quorum home answers)

-- the stamp accepted at the greatest ballot, of the least rank among those. Where none is accepted, the greatest stamp:
-- of all answers where the home answered or a member's proposal was made by a recovery, else of the members of the fast quorum
unfoldable pub recovery_choice : (ℕ → Bool) → ℕ → List RecoveryAnswer → ℕ
recovery_choice in_quorum home answers = chosen_with in_quorum home answers (best_from None answers)

-- which case of the choice gave a stamp
pub data IsChosen (in_quorum : ℕ → Bool) (home : ℕ) (answers : List RecoveryAnswer) (stamp : ℕ) : Type 0 where
  accepted : (a : RecoveryAnswer) → IsIn a answers → 0 < a.accepted → a.stamp.0 ≡ stamp
      → ((b : RecoveryAnswer) → IsIn b answers → (b.accepted < a.accepted) ⊎ ((b.accepted ≡ a.accepted) × (a.rank.0 ≤ b.rank.0)))
      → IsChosen in_quorum home answers stamp
  of_all : ((b : RecoveryAnswer) → IsIn b answers → b.accepted ≡ 0)
      → (m : RecoveryAnswer) → IsIn m answers → in_quorum m.rank.0 ≡ true → (m.rank.0 ≡ home) ⊎ (m.made ≡ Recovery)
      → ((b : RecoveryAnswer) → IsIn b answers → b.stamp.0 ≤ stamp)
      → (0 < stamp → (a : RecoveryAnswer) × IsIn a answers × (a.stamp.0 ≡ stamp))
      → IsChosen in_quorum home answers stamp
  of_members : ((b : RecoveryAnswer) → IsIn b answers → b.accepted ≡ 0)
      → ((b : RecoveryAnswer) → IsIn b answers → in_quorum b.rank.0 ≡ true → (b.rank.0 ≢ home) × (b.made ≡ Proposal))
      → ((b : RecoveryAnswer) → IsIn b answers → in_quorum b.rank.0 ≡ true → b.stamp.0 ≤ stamp)
      → (0 < stamp → (a : RecoveryAnswer) × IsIn a answers × (in_quorum a.rank.0 ≡ true) × (a.stamp.0 ≡ stamp))
      → IsChosen in_quorum home answers stamp
