-- What the parts of a sheet say of their tables.
use Rattle.std.proofs.Common.{◌≡◌, ℕ, zero, suc, ◌≤◌, Bool, true, false, List, [], ◌∷◌, ◌++◌, length, drop, take, replicate, Option, Some, None, refl, sym, ap, ◌∙◌, arith}
use Rattle.std.proofs.lemmas.List.{append-nil, drop-set-lt, take-append-drop, take-replicate}
use Rattle.std.proofs.lemmas.Bool.{cond-true, eq-eqb}
use Rattle.std.specs.Bool.{OnTrue}
use Rattle.std.specs.Prelude.{nat_le, ◌&&◌}
use Rattle.tp_base.specs.Tables.{with_nth}
use Rattle.tp_choice.specs.declared.answer.RecoveryAnswer.{RecoveryAnswer}
use Rattle.tp_quorum.specs.Choice.{fast_choice, present}
use Rattle.tp_quorum.specs.declared.choice.FastChoice.{FastChoice}
use Rattle.tp_rules.specs.Sheet.{Sheet, is_full}
use Rattle.tp_sheet.specs.SiteSheet.{choice_where_full}
use Rattle.tp_topology.specs.Shape.{Shape, fast_size}

pub empty_answers : (n : ℕ) → n ≤ 7 → take n (let places : List (Option RecoveryAnswer) = None ∷ None ∷ None ∷ None ∷ None ∷ None ∷ None ∷ [] in places) ≡ replicate n None
empty_answers n few = take-replicate n 7 None few

pub within : (n k : ℕ) → (nat_le 1 k && nat_le k n) ≡ true → k ≤ n
within n k inside = grind arith

-- a table that keeps nothing past its front part

pub present-append : {X : Type 0} (table more : List (Option X)) → present (table ++ more) ≡ present table ++ present more
present-append [] more = refl
present-append (None ∷ table) more = present-append table more
present-append (Some x ∷ table) more = ap (λ (xs : List _). x ∷ xs) (present-append table more)

pub present-front : (n : ℕ) (table : List (Option ℕ)) → present (drop n table) ≡ [] → present table ≡ present (take n table)
present-front n table none =
    ap (λ (whole : List (Option ℕ)). present whole) (sym (take-append-drop n table))
    ∙ present-append (take n table) (drop n table)
    ∙ ap (λ (rest : List ℕ). present (take n table) ++ rest) none
    ∙ append-nil (present (take n table))

pub still_none : (n : ℕ) (table : List (Option ℕ)) (k t : ℕ) → k ≤ n → present (drop n table) ≡ [] → present (drop n (with_nth table k (Some t))) ≡ []
still_none n table zero t few none = none
still_none n table (suc i) t few none = ap (λ (rest : List (Option ℕ)). present rest) (drop-set-lt n table i (Some t) (omega arith)) ∙ none

none_behind : (m n : ℕ) → present (drop n (replicate m (let none : Option ℕ = None in none))) ≡ []
none_behind zero zero = refl
none_behind zero (suc n) = refl
none_behind (suc m) zero = none_behind m zero
none_behind (suc m) (suc n) = none_behind m n

pub none_past : (n : ℕ) → present (drop n (replicate 7 (let none : Option ℕ = None in none))) ≡ []
none_past n = none_behind 7 n

-- the choice of a whole fast quorum
pub chosen : (shape : Shape) (sheet : Sheet) (choice : FastChoice) → length (present sheet.acknowledged) ≡ fast_size shape
    → choice ≡ fast_choice shape (present sheet.acknowledged) → Some choice ≡ choice_where_full shape sheet
chosen shape sheet choice full e =
    ap (λ (x : FastChoice). Some x) e
    ∙ sym (cond-true (is_full shape sheet) (Some (fast_choice shape (present sheet.acknowledged))) None (eq-eqb (length (present sheet.acknowledged)) (fast_size shape) full))

pub where_true : {P Q : Type 0} (b : Bool) → (P → Q) → OnTrue b P → OnTrue b Q
where_true true f h = f h
where_true false f h = h
