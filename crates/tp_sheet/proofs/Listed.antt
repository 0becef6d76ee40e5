-- The answers that a table keeps, in a list.
use Rattle.std.proofs.Common.{◌≡◌, ℕ, zero, suc, ◌+◌, ◌≤◌, ◌<◌, List, [], ◌∷◌, ◌++◌, length, get_or, set, take, Option, Some, None, refl, sym, ap, ◌∙◌, arith}
use Rattle.tp_base.specs.Lists.{Each}
use Rattle.tp_choice.specs.declared.answer.RecoveryAnswer.{RecoveryAnswer}
use Rattle.tp_quorum.specs.Choice.{present}
use Rattle.tp_quorum.proofs.Present.{present_past_none, present_some}
use Rattle.tp_sheet.specs.View.{IsRanked}

pub present_before : {X : Type 0} (table : List (Option X)) (i : ℕ) → length (present (take i table)) ≤ i
present_before table zero = omega arith
present_before [] (suc i) = omega arith
present_before (None ∷ table) (suc i) = let rest = present_before table i in omega (arith, rest)
present_before (Some x ∷ table) (suc i) = let rest = present_before table i in omega (arith, rest)

-- a write at the end of what is listed
write_next : {X : Type 0} (xs : List X) (n : ℕ) (x : X) → n < length xs → take (suc n) (set xs n x) ≡ take n xs ++ x ∷ []
write_next [] n x lt = absurd (omega arith)
write_next (y ∷ ys) zero x lt = refl
write_next (y ∷ ys) (suc n) x lt = ap (λ (zs : List _). y ∷ zs) (write_next ys n x (omega arith))

set_length : {X : Type 0} (xs : List X) (i : ℕ) (x : X) → length (set xs i x) ≡ length xs
set_length [] i x = refl
set_length (y ∷ ys) zero x = refl
set_length (y ∷ ys) (suc i) x = ap (λ (n : ℕ). suc n) (set_length ys i x)

-- what is listed of the first places of a table
pub record IsListed (table : List (Option RecoveryAnswer)) (i count : ℕ) (gathered : List RecoveryAnswer) : Type 0 where
  pub counted : count ≡ length (present (take i table))
  pub listed : take count gathered ≡ present (take i table)
  pub room : length gathered ≡ 7

length_push : {X : Type 0} (xs : List X) (x : X) → length (xs ++ x ∷ []) ≡ length xs + 1
length_push [] x = refl
length_push (y ∷ ys) x = let rest = length_push ys x in omega (arith, rest)

pub listed_some : (table : List (Option RecoveryAnswer)) (i count count' : ℕ) (gathered gathered' : List RecoveryAnswer) (a : RecoveryAnswer)
    → get_or table i None ≡ Some a → i < length table → count < 7 → count' ≡ count + 1 → gathered' ≡ set gathered count a
    → IsListed table i count gathered → IsListed table (i + 1) count' gathered'
listed_some table i count count' gathered gathered' a e lt few more_count more_gathered is =
    let more : present (take (i + 1) table) ≡ present (take i table) ++ a ∷ [] = present_some table i a e lt in
    let next : count' ≡ suc count = omega (arith, more_count) in
    let longer : length (present (take i table) ++ a ∷ []) ≡ length (present (take i table)) + 1 = length_push (present (take i table)) a in
    let grown : length (present (take (i + 1) table)) ≡ length (present (take i table) ++ a ∷ []) = ap (λ (xs : List RecoveryAnswer). length xs) more in
    let same : take count' gathered' ≡ take (suc count) (set gathered count a) =
    ap (λ (n : ℕ). take n gathered') next ∙ ap (λ (xs : List RecoveryAnswer). take (suc count) xs) more_gathered in
    record {
      counted = omega (arith, next, longer, grown, is.counted);
      listed =
          same
          ∙ write_next gathered count a (omega (arith, is.room, few))
          ∙ ap (λ (xs : List RecoveryAnswer). xs ++ a ∷ []) is.listed
          ∙ sym more;
      room = ap (λ (xs : List RecoveryAnswer). length xs) more_gathered ∙ set_length gathered count a ∙ is.room;
    }

pub listed_none : (table : List (Option RecoveryAnswer)) (i count count' : ℕ) (gathered gathered' : List RecoveryAnswer)
    → get_or table i None ≡ None → i < length table → count' ≡ count → gathered' ≡ gathered
    → IsListed table i count gathered → IsListed table (i + 1) count' gathered'
listed_none table i count count' gathered gathered' e lt same_count same_gathered is =
    let more : present (take (i + 1) table) ≡ present (take i table) = present_past_none table i e lt in
    record {
      counted = same_count ∙ is.counted ∙ sym (ap (λ (xs : List RecoveryAnswer). length xs) more);
      listed =
          ap (λ (n : ℕ). take n gathered') same_count
          ∙ ap (λ (xs : List RecoveryAnswer). take count xs) same_gathered
          ∙ is.listed
          ∙ sym more;
      room = ap (λ (xs : List RecoveryAnswer). length xs) same_gathered ∙ is.room;
    }

pub ranks_present : (replicas : ℕ) (table : List (Option RecoveryAnswer)) → Each (IsRanked replicas) table
    → Each (λ a. (1 ≤ a.rank.0) × (a.rank.0 ≤ replicas)) (present table)
ranks_present replicas [] h = tt
ranks_present replicas (None ∷ table) h = ranks_present replicas table h.1
ranks_present replicas (Some a ∷ table) h = (h.0, ranks_present replicas table h.1)
