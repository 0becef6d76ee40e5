-- Stamps below the limit, in the tables of a sheet.
use Rattle.std.proofs.Common.{◌≡◌, ℕ, zero, suc, ◌-◌, ◌<◌, ◌≤◌, ◌⊎◌, inl, inr, Bool, true, List, [], ◌∷◌, map, max, replicate, set, Option, Some, None, is_some, refl, sym, subst, arith}
use Rattle.std.specs.Prelude.{nat_le, nat_lt, slice_get, unwrap_or}
use Rattle.std.specs.List.{list_all, list_any}
use Rattle.std.proofs.lemmas.Bool.{and_parts, cond_both}
use Rattle.std.proofs.lemmas.Option.{cond_some}
use Rattle.tp_base.proofs.Each.{each_weaker}
use Rattle.tp_base.specs.Limits.{STAMP_LIMIT, is_from}
use Rattle.tp_base.specs.Lists.{Each}
use Rattle.tp_base.specs.Tables.{flat, kept_at, with_nth}
use Rattle.tp_base.specs.declared.names.Made.{Made}
use Rattle.tp_choice.specs.Choosing.{best_from, chosen_of_proposals, chosen_with, greatest_by, member_stamp, recovery_choice, tells_slow}
use Rattle.tp_choice.specs.declared.answer.RecoveryAnswer.{RecoveryAnswer}
use Rattle.tp_ops.specs.Parts.{is_accessed}
use Rattle.tp_ops.specs.declared.command.Command.{Command}
use Rattle.tp_paxos.specs.Votes.{PutStamp, count_votes, decision, voted_by}
use Rattle.tp_process.specs.State.{AreLow, IsHomed, IsLow, IsLowAnswer, IsLowPut}
use Rattle.tp_quorum.specs.Choice.{greatest, present}
use Rattle.tp_rules.proofs.fit.Choices.{best_fit, greatest_by_low}
use Rattle.tp_rules.proofs.fit.Stamps.{with_fit}
use Rattle.tp_rules.proofs.lists.Selections.{IfAny, each_replicate}
use Rattle.tp_rules.specs.Addresses.{accessed, is_command_at}
use Rattle.tp_rules.specs.Sheet.{Sheet, acknowledged, blank, final_stamp, with_command, putting, stamps_of, trying, with_accepted, with_answer, with_ballot, with_proposal, with_stamp, with_vote}
use Rattle.tp_topology.specs.Shape.{Shape, slow_size}

low_set : (table : List (Option ℕ)) (i x : ℕ) → x < STAMP_LIMIT → AreLow table → AreLow (set table i (Some x))
low_set [] i x lt h = tt
low_set (None ∷ table) zero x lt h = (lt, h)
low_set (Some t ∷ table) zero x lt h = (lt, h.1)
low_set (None ∷ table) (suc i) x lt h = low_set table i x lt h
low_set (Some t ∷ table) (suc i) x lt h = (h.0, low_set table i x lt h.1)

low_nth : (table : List (Option ℕ)) (place x : ℕ) → x < STAMP_LIMIT → AreLow table → AreLow (with_nth table place (Some x))
low_nth table zero x lt h = h
low_nth table (suc i) x lt h = low_set table i x lt h

low_got : (table : List (Option ℕ)) (i n : ℕ) → AreLow table → flat (slice_get table i) ≡ Some n → n < STAMP_LIMIT
low_got [] i n h e = absurd cc
low_got (None ∷ table) zero n h e = absurd cc
low_got (Some t ∷ table) zero n h e = let same : t ≡ n = cc in subst (λ (m : ℕ). m < STAMP_LIMIT) same h.0
low_got (None ∷ table) (suc i) n h e = low_got table i n h e
low_got (Some t ∷ table) (suc i) n h e = low_got table i n h.1 e

low_kept : (table : List (Option ℕ)) (place n : ℕ) → AreLow table → kept_at table place ≡ Some n → n < STAMP_LIMIT
low_kept table zero n h e = absurd cc
low_kept table (suc i) n h e = low_got table i n h e

low_more : (table more : List (Option ℕ)) (place : ℕ) (o : Option ℕ) → AreLow table → kept_at table place ≡ o → AreLow more → AreLow (o ∷ more)
low_more table more place None h e rest = rest
low_more table more place (Some n) h e rest = (low_kept table place n h e, rest)

low_map : (table : List (Option ℕ)) (places : List ℕ) → AreLow table → AreLow (map (λ place. kept_at table place) places)
low_map table [] h = tt
low_map table (place ∷ places) h = low_more table (map (λ k. kept_at table k) places) place (kept_at table place) h refl (low_map table places h)

low_none : (n : ℕ) → AreLow (replicate n (let none : Option ℕ = None in none))
low_none zero = tt
low_none (suc n) = low_none n

pub max_cases : (m n : ℕ) → (max m n ≡ m) ⊎ (max m n ≡ n)
max_cases m n = grind arith

max_low : (m n : ℕ) → m < STAMP_LIMIT → n < STAMP_LIMIT → max m n < STAMP_LIMIT
max_low m n p q = elim (max_cases m n) [
  | inl e ↦ subst (λ (k : ℕ). k < STAMP_LIMIT) (sym e) p
  | inr e ↦ subst (λ (k : ℕ). k < STAMP_LIMIT) (sym e) q
]

pub greatest_low : (table : List (Option ℕ)) → AreLow table → greatest (present table) < STAMP_LIMIT
greatest_low [] h = omega arith
greatest_low (None ∷ table) h = greatest_low table h
greatest_low (Some t ∷ table) h = max_low t (greatest (present table)) h.0 (greatest_low table h.1)

-- the final stamp is below the limit
pub final_low : (shape : Shape) (sheet : Sheet) (o : Option Command) (n : ℕ) → IsLow shape sheet → final_stamp shape sheet o ≡ Some n → n < STAMP_LIMIT
final_low shape sheet None n h e = absurd cc
final_low shape sheet (Some c) n h e =
    let stamps = stamps_of shape sheet c in
    subst (λ (m : ℕ). m < STAMP_LIMIT) (cond_some (list_all is_some stamps) (greatest (present stamps)) n e).1
    (greatest_low stamps (low_map sheet.known (accessed shape c) h.known))

pub blank_low : (shape : Shape) → IsLow shape (blank shape)
unfolding blank
blank_low shape = record {
  home = tt;
  known = low_none shape.partitions;
  acknowledged = low_none shape.replicas;
  put = tt;
  answers = each_replicate IsLowAnswer shape.replicas None tt;
}

kept_homed : (shape : Shape) (c : Command) (o : Option Command) → is_from 1 shape.replicas c.home.0 ≡ true → IsHomed shape o → IsHomed shape (Some (unwrap_or o c))
kept_homed shape c None here h = here
kept_homed shape c (Some d) here h = h

-- a command with its home in the shape, on a partition
pub kept_low : {shape : Shape} (p : ℕ) (c : Command) (sheet : Sheet) → is_command_at shape p c ≡ true → IsLow shape sheet → IsLow shape (with_command c sheet)
kept_low {shape} p c sheet here h = record {
  home = kept_homed shape c sheet.command (and_parts (is_from 1 shape.replicas c.home.0) (is_accessed shape.partitions c p) here).0 h.home;
  known = h.known;
  acknowledged = h.acknowledged;
  put = h.put;
  answers = h.answers;
}

pub with_stamp_low : {shape : Shape} (q t : ℕ) (sheet : Sheet) → t < STAMP_LIMIT → IsLow shape sheet → IsLow shape (with_stamp q t sheet)
with_stamp_low q t sheet lt h = record {
  home = h.home;
  known = low_nth sheet.known q t lt h.known;
  acknowledged = h.acknowledged;
  put = h.put;
  answers = h.answers;
}

pub acknowledged_low : {shape : Shape} (rank t : ℕ) (sheet : Sheet) → t < STAMP_LIMIT → IsLow shape sheet → IsLow shape (acknowledged rank t sheet)
acknowledged_low rank t sheet lt h = record {
  home = h.home;
  known = h.known;
  acknowledged = low_nth sheet.acknowledged rank t lt h.acknowledged;
  put = h.put;
  answers = h.answers;
}

pub putting_low : (shape : Shape) (b t : ℕ) (sheet : Sheet) → t < STAMP_LIMIT → IsLow shape sheet → IsLow shape (putting shape b t sheet)
putting_low shape b t sheet lt h =
    record { home = h.home; known = h.known; acknowledged = h.acknowledged; put = lt; answers = h.answers }

pub with_accepted_low : {shape : Shape} (b t : ℕ) (sheet : Sheet) → IsLow shape sheet → IsLow shape (with_accepted b t sheet)
with_accepted_low b t sheet h =
    record { home = h.home; known = h.known; acknowledged = h.acknowledged; put = h.put; answers = h.answers }

voted_low : (rank : ℕ) (o : Option PutStamp) → IsLowPut o → IsLowPut (voted_by rank o)
voted_low rank None h = tt
voted_low rank (Some put) h = h

pub with_vote_low : {shape : Shape} (rank : ℕ) (sheet : Sheet) → IsLow shape sheet → IsLow shape (with_vote rank sheet)
with_vote_low rank sheet h =
    record { home = h.home; known = h.known; acknowledged = h.acknowledged; put = voted_low rank sheet.put h.put; answers = h.answers }

-- a stamp that is decided by votes is below the limit
pub decided_low : (shape : Shape) (o : Option PutStamp) (t : ℕ) → IsLowPut o → decision shape o ≡ Some t → t < STAMP_LIMIT
decided_low shape None t h e = absurd cc
decided_low shape (Some put) t h e =
    subst (λ (n : ℕ). n < STAMP_LIMIT) (cond_some (nat_le (slow_size shape) (count_votes put.votes)) put.stamp t e).1 h

pub with_proposal_low : {shape : Shape} (t : ℕ) (made : Made) (sheet : Sheet) → IsLow shape sheet → IsLow shape (with_proposal t made sheet)
with_proposal_low t made sheet h =
    record { home = h.home; known = h.known; acknowledged = h.acknowledged; put = h.put; answers = h.answers }

pub with_ballot_low : {shape : Shape} (b : ℕ) (sheet : Sheet) → IsLow shape sheet → IsLow shape (with_ballot b sheet)
with_ballot_low b sheet h =
    record { home = h.home; known = h.known; acknowledged = h.acknowledged; put = h.put; answers = h.answers }

pub trying_low : (shape : Shape) (b : ℕ) (sheet : Sheet) → IsLow shape sheet → IsLow shape (trying shape b sheet)
trying_low shape b sheet h = record {
  home = h.home;
  known = h.known;
  acknowledged = h.acknowledged;
  put = h.put;
  answers = each_replicate IsLowAnswer shape.replicas None tt;
}

pub with_answer_low : {shape : Shape} (a : RecoveryAnswer) (sheet : Sheet) → a.stamp.0 < STAMP_LIMIT → IsLow shape sheet → IsLow shape (with_answer a sheet)
with_answer_low a sheet lt h = record {
  home = h.home;
  known = h.known;
  acknowledged = h.acknowledged;
  put = h.put;
  answers = with_fit IsLowAnswer sheet.answers a.rank.0 (Some a) h.answers lt;
}

-- what is chosen from answers

abbrev IsLowStamp : RecoveryAnswer → Type 0
IsLowStamp a = a.stamp.0 < STAMP_LIMIT

present_low : (table : List (Option RecoveryAnswer)) → Each IsLowAnswer table → Each IsLowStamp (present table)
present_low [] h = tt
present_low (None ∷ table) h = present_low table h.1
present_low (Some a ∷ table) h = (h.0, present_low table h.1)

member_low : (in_quorum : ℕ → Bool) (a : RecoveryAnswer) → IsLowStamp a → member_stamp in_quorum a ≤ STAMP_LIMIT - 1
member_low in_quorum a lt =
    cond_both (in_quorum a.rank.0) a.stamp.0 0 (λ (n : ℕ). n ≤ STAMP_LIMIT - 1) (λ t. omega (arith, lt)) (λ f. omega arith)

proposals_low : (in_quorum : ℕ → Bool) (home : ℕ) (answers : List RecoveryAnswer) → Each IsLowStamp answers → chosen_of_proposals in_quorum home answers < STAMP_LIMIT
proposals_low in_quorum home answers h =
    let all : greatest_by (λ a. a.stamp.0) answers ≤ STAMP_LIMIT - 1 = greatest_by_low (λ a. a.stamp.0) answers (STAMP_LIMIT - 1)
    (each_weaker IsLowStamp (λ a. a.stamp.0 ≤ STAMP_LIMIT - 1) (λ a lt. omega (arith, lt)) answers h) in
    let members : greatest_by (member_stamp in_quorum) answers ≤ STAMP_LIMIT - 1 = greatest_by_low (member_stamp in_quorum) answers (STAMP_LIMIT - 1)
    (each_weaker IsLowStamp (λ a. member_stamp in_quorum a ≤ STAMP_LIMIT - 1) (λ a lt. member_low in_quorum a lt) answers h) in
    cond_both (list_any (tells_slow in_quorum home) answers) (greatest_by (λ a. a.stamp.0) answers) (greatest_by (member_stamp in_quorum) answers)
    (λ (n : ℕ). n < STAMP_LIMIT) (λ t. omega (arith, all)) (λ f. omega (arith, members))

chosen_low : (in_quorum : ℕ → Bool) (home : ℕ) (answers : List RecoveryAnswer) (best : Option RecoveryAnswer) → Each IsLowStamp answers → IfAny IsLowStamp best
    → chosen_with in_quorum home answers best < STAMP_LIMIT
chosen_low in_quorum home answers None h low = proposals_low in_quorum home answers h
chosen_low in_quorum home answers (Some best) h low =
    cond_both (nat_lt 0 best.accepted) best.stamp.0 (chosen_of_proposals in_quorum home answers) (λ (n : ℕ). n < STAMP_LIMIT)
    (λ t. low) (λ f. proposals_low in_quorum home answers h)

pub recovery_low : (in_quorum : ℕ → Bool) (home : ℕ) (table : List (Option RecoveryAnswer)) → Each IsLowAnswer table
    → recovery_choice in_quorum home (present table) < STAMP_LIMIT
unfolding recovery_choice
recovery_low in_quorum home table h =
    let low : Each IsLowStamp (present table) = present_low table h in
    chosen_low in_quorum home (present table) (best_from None (present table)) low (best_fit IsLowStamp None (present table) tt low)
