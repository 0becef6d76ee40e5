-- The greatest of the stamps of a command's partitions, one partition after another.
use Rattle.std.proofs.Common.{◌≡◌, ℕ, zero, suc, ◌+◌, ◌-◌, ◌≤◌, max, Bool, true, false, List, [], ◌∷◌, ◌++◌, map, Option, Some, None, refl, sym, ap, subst, ◌∙◌, arith}
use Rattle.std.specs.Prelude.{filter, is_some}
use Rattle.std.specs.List.{list_all}
use Rattle.std.proofs.lemmas.List.{append-nil, map-append}
use Rattle.std.proofs.lemmas.List.Elements.{filter-append}
use Rattle.std.proofs.lemmas.List.Folds.{list_all-append}
use Rattle.tp_base.specs.Tables.{kept_at}
use Rattle.tp_quorum.specs.Choice.{present, greatest}
use Rattle.tp_ops.specs.declared.command.Command.{Command}
use Rattle.tp_rules.specs.Addresses.{accessed}
use Rattle.tp_rules.specs.Sheet.{greatest_known}
use Rattle.tp_topology.specs.Counting.{up_to}
use Rattle.tp_topology.specs.Shape.{Shape}
use Rattle.tp_sheet.specs.SiteSheet.{SiteSheet, final_of}
use Rattle.tp_quorum.proofs.Present.{present_push, greatest_push}

module _ (stamp : ℕ → Option ℕ) (test : ℕ → Bool) where
  -- what the partitions up to n that pass the test keep
  abbrev pub stamps : ℕ → List (Option ℕ)
  stamps n = map stamp (filter test (up_to n))

  -- each of them is there, and the greatest is g
  pub record IsGreatest (n g : ℕ) : Type 0 where
    pub all : list_all is_some (stamps n) ≡ true
    pub top : greatest (present (stamps n)) ≡ g

  one : (n : ℕ) → test n ≡ true → filter test (n ∷ []) ≡ n ∷ []
  one n passes = grind (arith, passes)

  none : (n : ℕ) → test n ≡ false → filter test (n ∷ []) ≡ []
  none n fails = grind (arith, fails)

  stamps_take : (n : ℕ) → test (suc n) ≡ true → stamps (suc n) ≡ stamps n ++ stamp (suc n) ∷ []
  stamps_take n passes =
      ap (λ (qs : List ℕ). map stamp qs) (filter-append test (up_to n) (suc n ∷ []) ∙ ap (λ (qs : List ℕ). filter test (up_to n) ++ qs) (one (suc n) passes))
      ∙ map-append stamp (filter test (up_to n)) (suc n ∷ [])

  stamps_skip : (n : ℕ) → test (suc n) ≡ false → stamps (suc n) ≡ stamps n
  stamps_skip n fails =
      ap (λ (qs : List ℕ). map stamp qs)
      (filter-append test (up_to n) (suc n ∷ []) ∙ ap (λ (qs : List ℕ). filter test (up_to n) ++ qs) (none (suc n) fails) ∙ append-nil (filter test (up_to n)))

  pub greatest_take : (p g t g' : ℕ) → 1 ≤ p → test p ≡ true → stamp p ≡ Some t → g' ≡ max t g → IsGreatest (p - 1) g → IsGreatest (p + 1 - 1) g'
  greatest_take zero g t g' some passes there e so_far = absurd (omega arith)
  greatest_take (suc n) g t g' some passes there e so_far =
      let same : n ≡ suc n - 1 = omega arith in
      let next : suc n ≡ suc n + 1 - 1 = omega arith in
      let old : IsGreatest n g = subst (λ k. IsGreatest k g) (sym same) so_far in
      let grown : stamps (suc n) ≡ stamps n ++ Some t ∷ [] = stamps_take n passes ∙ ap (λ (o : Option ℕ). stamps n ++ o ∷ []) there in
      let values : present (stamps (suc n)) ≡ present (stamps n) ++ t ∷ [] = ap (λ (os : List (Option ℕ)). present os) grown ∙ present_push (stamps n) (Some t) in
      let rises = greatest_push (present (stamps n)) t in
      let each = list_all-append is_some (stamps n) (Some t ∷ []) in
      let new : IsGreatest (suc n) g' = record {
        all = ap (list_all is_some) grown ∙ grind (arith, each, old.all);
        top = ap greatest values ∙ grind (arith, rises, old.top, e);
      } in
      subst (λ k. IsGreatest k g') next new

  pub greatest_skip : (p g g' : ℕ) → 1 ≤ p → test p ≡ false → g' ≡ g → IsGreatest (p - 1) g → IsGreatest (p + 1 - 1) g'
  greatest_skip zero g g' some fails e so_far = absurd (omega arith)
  greatest_skip (suc n) g g' some fails e so_far =
      let same : n ≡ suc n - 1 = omega arith in
      let next : suc n ≡ suc n + 1 - 1 = omega arith in
      let old : IsGreatest n g = subst (λ k. IsGreatest k g) (sym same) so_far in
      let grown = stamps_skip n fails in
      let new : IsGreatest (suc n) g' = record {
        all = ap (list_all is_some) grown ∙ old.all;
        top = ap (λ (os : List (Option ℕ)). greatest (present os)) grown ∙ old.top ∙ sym e;
      } in
      subst (λ k. IsGreatest k g') next new

  still_missing : (n : ℕ) (passes : Bool) → test (suc n) ≡ passes → list_all is_some (stamps n) ≡ false → list_all is_some (stamps (suc n)) ≡ false
  still_missing n true e gone =
      let each = list_all-append is_some (stamps n) (stamp (suc n) ∷ []) in
      ap (list_all is_some) (stamps_take n e) ∙ grind (arith, each, gone)
  still_missing n false e gone = ap (list_all is_some) (stamps_skip n e) ∙ gone

  -- a partition whose stamp is not known
  missing_from : (n d p : ℕ) → p + d ≡ n → 1 ≤ p → test p ≡ true → stamp p ≡ None → list_all is_some (stamps n) ≡ false
  missing_from zero d p e some passes gone = absurd (omega arith)
  missing_from (suc n) zero p e some passes gone =
      let here : p ≡ suc n = omega arith in
      let passes' : test (suc n) ≡ true = subst (λ k. test k ≡ true) here passes in
      let gone' : stamp (suc n) ≡ None = subst (λ k. stamp k ≡ None) here gone in
      let grown : stamps (suc n) ≡ stamps n ++ None ∷ [] = stamps_take n passes' ∙ ap (λ (o : Option ℕ). stamps n ++ o ∷ []) gone' in
      let each = list_all-append is_some (stamps n) (None ∷ []) in
      ap (list_all is_some) grown ∙ grind (arith, each)
  missing_from (suc n) (suc d) p e some passes gone = still_missing n (test (suc n)) refl (missing_from n d p (omega arith) some passes gone)

  pub missing : (n p : ℕ) → 1 ≤ p → p ≤ n → test p ≡ true → stamp p ≡ None → greatest_known (stamps n) ≡ None
  missing n p some few passes gone =
      let h = missing_from n (n - p) p (omega arith) some passes gone in
      grind (arith, h)

  pub all_known : (n p g : ℕ) → p - 1 ≡ n → IsGreatest (p - 1) g → greatest_known (stamps n) ≡ Some g
  all_known n p g e so_far =
      let h : IsGreatest n g = subst (λ k. IsGreatest k g) e so_far in
      grind (arith, h.all, h.top)

-- the final stamp of a sheet that keeps a command
pub final_of-some : (kept : SiteSheet) (shape : Shape) (known : List (Option ℕ)) (c : Command)
    → kept.shape ≡ shape → known ≡ kept.sheet.known → kept.sheet.command ≡ Some c
    → greatest_known (map (λ q. kept_at known q) (accessed shape c)) ≡ final_of kept
final_of-some kept shape known c e f g = rw (f, ← e, g) refl
