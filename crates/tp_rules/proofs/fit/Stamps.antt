-- Stamps in range, kept in tables: the greatest of those that are there is in range, if there are any.
use Rattle.std.proofs.Common.{◌≡◌, ℕ, zero, suc, ◌≤◌, ◌^◌, ◌-◌, true, List, [], ◌∷◌, length, Option, Some, None, refl, arith}
use Rattle.std.proofs.lemmas.Bool.{cond_both}
use Rattle.std.proofs.lemmas.List.{length-map}
use Rattle.std.specs.List.{list_all}
use Rattle.std.specs.Prelude.{is_some}
use Rattle.tp_base.proofs.Tests.{any_in}
use Rattle.tp_base.specs.Limits.{IsFrom}
use Rattle.tp_base.specs.Lists.{Each}
use Rattle.tp_base.specs.Tables.{kept_at, with_nth}
use Rattle.tp_ops.specs.Parts.{is_accessed}
use Rattle.tp_ops.specs.declared.command.Command.{Command}
use Rattle.tp_quorum.specs.Choice.{fast_choice, greatest, is_fast, present}
use Rattle.tp_quorum.specs.declared.choice.FastChoice.{FastChoice}
use Rattle.tp_quorum.specs.declared.choice.FastChoice.TheVariants.{Fast, Slow}
use Rattle.tp_rules.proofs.lists.Selections.{IfAny, each_image, each_of_all, filter_some}
use Rattle.tp_rules.specs.Addresses.{accessed}
use Rattle.tp_rules.specs.Sheet.{Sheet, greatest_known, stamp_of, stamps_of}
use Rattle.tp_topology.proofs.UpTo.{in_up_to}
use Rattle.tp_topology.specs.Counting.{up_to}
use Rattle.tp_topology.specs.Shape.{Shape}
use Rattle.tp_wire.specs.Ranges.{IsNumber}

-- tables

pub kept_fit : {X : Type 0} (P : X → Type 0) (table : List (Option X)) (place : ℕ) → Each (IfAny P) table → IfAny P (kept_at table place)
kept_fit P [] zero h = tt
kept_fit P [] (suc i) h = tt
kept_fit P (o ∷ table) zero h = tt
kept_fit P (o ∷ table) (suc zero) h = h.0
kept_fit P (o ∷ table) (suc (suc i)) h = kept_fit P table (suc i) h.1

pub with_fit : {X : Type 0} (P : X → Type 0) (xs : List X) (place : ℕ) (x : X) → Each P xs → P x → Each P (with_nth xs place x)
with_fit P [] zero x h new = tt
with_fit P [] (suc i) x h new = tt
with_fit P (y ∷ ys) zero x h new = h
with_fit P (y ∷ ys) (suc zero) x h new = (new, h.1)
with_fit P (y ∷ ys) (suc (suc i)) x h new = (h.0, with_fit P ys (suc i) x h.1 new)

pub present_fit : {X : Type 0} (P : X → Type 0) (table : List (Option X)) → Each (IfAny P) table → Each P (present table)
present_fit P [] h = tt
present_fit P (None ∷ table) h = present_fit P table h.1
present_fit P (Some x ∷ table) h = (h.0, present_fit P table h.1)

present_all : {X : Type 0} (table : List (Option X)) → list_all is_some table ≡ true → length (present table) ≡ length table
present_all [] h = refl
present_all (None ∷ table) h = absurd cc
present_all (Some x ∷ table) h = let rest : length (present table) ≡ length table = present_all table h in omega arith

-- the greatest

greatest_high : (ns : List ℕ) → Each IsNumber ns → greatest ns ≤ 2 ^ 48 - 1
greatest_high [] h = omega arith
greatest_high (n ∷ ns) h = let rest : greatest ns ≤ 2 ^ 48 - 1 = greatest_high ns h.1 in omega (arith, h.0.1)

pub greatest_number : (ns : List ℕ) → Each IsNumber ns → 1 ≤ length ns → IsNumber (greatest ns)
greatest_number [] h some = absurd (omega arith)
greatest_number (n ∷ ns) h some = (omega (arith, h.0.0), greatest_high (n ∷ ns) h)

abbrev pub IsChoiceInRange : FastChoice → Type 0
IsChoiceInRange (Fast t) = IsNumber t.0
IsChoiceInRange (Slow t) = IsNumber t.0

pub choice_number : (shape : Shape) (ns : List ℕ) → Each IsNumber ns → 1 ≤ length ns → IsChoiceInRange (fast_choice shape ns)
unfolding fast_choice
choice_number shape ns h some = cond_both (is_fast shape ns) (Fast (record { 0 = greatest ns })) (Slow (record { 0 = greatest ns })) IsChoiceInRange
    (λ t. greatest_number ns h some)
    (λ f. greatest_number ns h some)

-- a final stamp

some_accessed : (shape : Shape) (c : Command) (p : ℕ) → IsFrom 1 shape.partitions p → is_accessed shape.partitions c p ≡ true
    → 1 ≤ length (accessed shape c)
some_accessed shape c p of accesses = filter_some (is_accessed shape.partitions c) (up_to shape.partitions)
    (any_in (is_accessed shape.partitions c) (up_to shape.partitions) p (in_up_to shape.partitions p of.0 of.1) accesses)

pub final_number : (shape : Shape) (sheet : Sheet) (c : Command) (p : ℕ) → IsFrom 1 shape.partitions p → is_accessed shape.partitions c p ≡ true
    → Each (IfAny IsNumber) sheet.known → IfAny IsNumber (greatest_known (stamps_of shape sheet c))
final_number shape sheet c p of accesses known =
    let stamps : List (Option ℕ) = stamps_of shape sheet c in
    let each_one : Each (IfAny IsNumber) stamps = each_image (IfAny IsNumber) (stamp_of sheet) (accessed shape c)
    (each_of_all (λ q. IfAny IsNumber (stamp_of sheet q)) (accessed shape c) (λ q. kept_fit IsNumber sheet.known q known)) in
    let as_many : length stamps ≡ length (accessed shape c) = length-map (accessed shape c) (stamp_of sheet) in
    let some : 1 ≤ length (accessed shape c) = some_accessed shape c p of accesses in
    cond_both (list_all is_some stamps) (Some (greatest (present stamps))) None (IfAny IsNumber)
    (λ t. let all : length (present stamps) ≡ length stamps = present_all stamps t in
    greatest_number (present stamps) (present_fit IsNumber stamps each_one) (omega arith))
    (λ f. tt)
