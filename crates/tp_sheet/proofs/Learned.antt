-- What becomes of the known stamps where one is put among them.
use Rattle.std.proofs.Common.{◌≡◌, ℕ, Bool, true, false, ◌&&◌, cond, List, take, Option, Some, None, is_none, is_some, refl, sym, ap, ◌∙◌, arith}
use Rattle.std.specs.Bool.{OnFalse, OnTrue}
use Rattle.std.specs.Prelude.{nat_le}
use Rattle.tp_base.proofs.Tables.{kept_at-take, past-kept, past-written, take-with_nth}
use Rattle.tp_base.specs.Tables.{kept_at, with_nth}
use Rattle.tp_rules.specs.Sheet.{stamp_of, with_stamp}
use Rattle.tp_sheet.proofs.Tables.{within}
use Rattle.tp_sheet.specs.SiteSheet.{SiteSheet, with_known, with_sheet}

-- past the partitions of the shape none is known, and none is kept

pub new_past : (n : ℕ) (table : List (Option ℕ)) (q : ℕ) → (nat_le 1 q && nat_le q n) ≡ false → true ≡ is_none (kept_at (take n table) q)
new_past n table q outside = sym (ap (λ (o : Option ℕ). is_none o) (past-kept n table q outside))

pub known_past : (kept : SiteSheet) (n : ℕ) (table : List (Option ℕ)) (q t : ℕ) → take n table ≡ kept.sheet.known
    → (nat_le 1 q && nat_le q n) ≡ false → with_known q t kept ≡ kept
known_past kept n table q t e outside =
    let gone : stamp_of kept.sheet q ≡ None = ap (λ (known : List (Option ℕ)). kept_at known q) (sym e) ∙ past-kept n table q outside in
    let same : with_nth kept.sheet.known q (Some t) ≡ kept.sheet.known =
    ap (λ (known : List (Option ℕ)). with_nth known q (Some t)) (sym e) ∙ past-written n table q (Some t) outside ∙ e in
    ap (λ (o : Option ℕ). with_sheet (cond (is_some o) kept.sheet (with_stamp q t kept.sheet)) kept) gone
    ∙ ap (λ (known : List (Option ℕ)). with_sheet (record kept.sheet { known = known }) kept) same

-- of a partition of the shape the first stamp is kept

pub new_put : (n : ℕ) (table : List (Option ℕ)) (q : ℕ) → (nat_le 1 q && nat_le q n) ≡ true → is_none (kept_at table q) ≡ is_none (kept_at (take n table) q)
new_put n table q inside = ap (λ (o : Option ℕ). is_none o) (sym (kept_at-take n table q (within n q inside)))

abbrev knowing : List (Option ℕ) → SiteSheet → SiteSheet
knowing known kept = with_sheet (record kept.sheet { known = known }) kept

by_first : (kept : SiteSheet) (table : List (Option ℕ)) (q t : ℕ) (r : Bool) (o : Option ℕ) → kept_at table q ≡ o → r ≡ is_none o
    → cond r (knowing (with_nth table q (Some t)) kept) (knowing table kept) ≡ with_known q t (knowing table kept)
by_first kept table q t r None e f =
    ap (λ (b : Bool). cond b (knowing (with_nth table q (Some t)) kept) (knowing table kept)) f
    ∙ ap (λ (o : Option ℕ). with_sheet (cond (is_some o) (record kept.sheet { known = table }) (with_stamp q t (record kept.sheet { known = table }))) kept) (sym e)
by_first kept table q t r (Some n) e f =
    ap (λ (b : Bool). cond b (knowing (with_nth table q (Some t)) kept) (knowing table kept)) f
    ∙ ap (λ (o : Option ℕ). with_sheet (cond (is_some o) (record kept.sheet { known = table }) (with_stamp q t (record kept.sheet { known = table }))) kept) (sym e)

written : (n : ℕ) (table new : List (Option ℕ)) (q t : ℕ) (r : Bool) → OnTrue r (new ≡ with_nth table q (Some t)) → OnFalse r (new ≡ table)
    → take n new ≡ cond r (with_nth (take n table) q (Some t)) (take n table)
written n table new q t true first again = ap (λ (known : List (Option ℕ)). take n known) first ∙ take-with_nth n table q (Some t)
written n table new q t false first again = ap (λ (known : List (Option ℕ)). take n known) again

either : (kept : SiteSheet) (one other : List (Option ℕ)) (r : Bool) → knowing (cond r one other) kept ≡ cond r (knowing one kept) (knowing other kept)
either kept one other true = refl
either kept one other false = refl

pub known_put : (kept : SiteSheet) (n : ℕ) (table new : List (Option ℕ)) (q t : ℕ) (r : Bool) → (nat_le 1 q && nat_le q n) ≡ true
    → r ≡ is_none (kept_at table q) → OnTrue r (new ≡ with_nth table q (Some t)) → OnFalse r (new ≡ table)
    → knowing (take n new) kept ≡ with_known q t (knowing (take n table) kept)
known_put kept n table new q t r inside e first again =
    ap (λ (known : List (Option ℕ)). knowing known kept) (written n table new q t r first again)
    ∙ either kept (with_nth (take n table) q (Some t)) (take n table) r
    ∙ by_first kept (take n table) q t r (kept_at (take n table) q) refl (e ∙ new_put n table q inside)
