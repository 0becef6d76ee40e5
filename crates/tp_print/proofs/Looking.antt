-- An output, looked up in a journal in its own order.
use Rattle.std.proofs.Common.{◌≡◌, ◌≢◌, ℕ, zero, suc, ◌-◌, ◌≤◌, inl, inr, Bool, true, false, cond, List, [], ◌∷◌, ◌++◌, length, Option, Some, None, refl, sym, ap, subst, ◌∙◌, arith}
use Rattle.std.specs.Prelude.{◌==◌, reverse, slice_get}
use Rattle.std.proofs.lemmas.Bool.{cases_eq, eq-eqb, ne_eqb}
use Rattle.std.proofs.lemmas.List.{length-reverse}
use Rattle.tp_base.proofs.Ends.{reverse_push, slice_get_push, snoc_ind}
use Rattle.tp_base.specs.Tables.{nth}
use Rattle.tp_rules.specs.Journal.{output_at}
use Rattle.tp_rules.specs.declared.event.Entry.{Entry}
use Rattle.tp_wire.specs.declared.message.Message.{Message}

-- the output at a place of an entry, if there is that entry
abbrev pub output_of : Option Entry → ℕ → Option Message
output_of None place = None
output_of (Some e) place = nth e.outputs place

-- no entry has the number 0
pub output_at_zero : (older : List Entry) (place : ℕ) → output_at older zero place ≡ None
output_at_zero [] place = refl
output_at_zero (e ∷ older) place =
    ap (λ (b : Bool). cond b (nth e.outputs place) (output_at older zero place))
    (ne_eqb zero (suc (length older)) (λ same. omega arith))
    ∙ output_at_zero older place

-- and none the place 0
pub output_at_no_place : (older : List Entry) (entry : ℕ) → output_at older entry zero ≡ None
output_at_no_place [] entry = refl
output_at_no_place (e ∷ older) entry = by (entry == suc (length older)) (output_at_no_place older entry)
  where
    by : (b : Bool) → output_at older entry zero ≡ None → cond b None (output_at older entry zero) ≡ None
    by true rest = refl
    by false rest = rest

one_more : (xs : List Entry) (x : Entry) (i place : ℕ)
    → output_at (reverse xs) (suc i) place ≡ output_of (slice_get xs i) place
    → output_at (x ∷ reverse xs) (suc i) place ≡ output_of (slice_get (xs ++ x ∷ []) i) place
one_more xs x i place before = elim (cases_eq i (length xs)) [
  | inl e ↦
      let here : (suc i == suc (length (reverse xs))) ≡ true =
      eq-eqb (suc i) (suc (length (reverse xs))) (ap (λ (n : ℕ). suc n) (e ∙ sym (length-reverse xs))) in
      ap (λ (b : Bool). cond b (nth x.outputs place) (output_at (reverse xs) (suc i) place)) here
      ∙ sym (ap (λ (o : Option Entry). output_of o place)
      (ap (λ (k : ℕ). slice_get (xs ++ x ∷ []) k) e ∙ slice_get_push xs x))
  | inr apart ↦
      let other : (suc i == suc (length (reverse xs))) ≡ false =
      ne_eqb (suc i) (suc (length (reverse xs))) (λ e. apart (omega (arith, length-reverse xs))) in
      ap (λ (b : Bool). cond b (nth x.outputs place) (output_at (reverse xs) (suc i) place)) other ∙ before
      ∙ ap (λ (o : Option Entry). output_of o place) (same xs x i apart)
]
  where
    same : (ys : List Entry) (y : Entry) (k : ℕ) → k ≢ length ys → slice_get ys k ≡ slice_get (ys ++ y ∷ []) k
    same [] y zero apart = absurd (apart refl)
    same [] y (suc k) apart = refl
    same (z ∷ ys) y zero apart = refl
    same (z ∷ ys) y (suc k) apart = same ys y k (λ e. apart (ap (λ (n : ℕ). suc n) e))

-- entry i + 1 is the item at i
pub output_is : (xs : List Entry) (i place : ℕ)
    → output_at (reverse xs) (suc i) place ≡ output_of (slice_get xs i) place
output_is xs i place = snoc_ind
    (λ (ys : List Entry). output_at (reverse ys) (suc i) place ≡ output_of (slice_get ys i) place) refl
    (λ ys y before. subst (λ (older : List Entry). output_at older (suc i) place ≡ output_of
    (slice_get (ys ++ y ∷ []) i) place) (sym (reverse_push ys y)) (one_more ys y i place before)) xs

nth_is : {X : Type 0} (xs : List X) (n : ℕ) → 1 ≤ n → nth xs n ≡ slice_get xs (n - 1)
nth_is xs zero low = absurd (omega arith)
nth_is xs (suc i) low = let same : i ≡ suc i - 1 = omega arith in ap (slice_get xs) same

entry_is : (xs : List Entry) (entry place : ℕ) → 1 ≤ entry
    → output_of (slice_get xs (entry - 1)) place ≡ output_at (reverse xs) entry place
entry_is xs zero place low = absurd (omega arith)
entry_is xs (suc i) place low =
    let same : suc i - 1 ≡ i = omega arith in
    ap (λ (k : ℕ). output_of (slice_get xs k) place) same ∙ sym (output_is xs i place)

-- by numbers from 1, where the entry is there
pub output_found : (xs : List Entry) (entry place : ℕ) (e : Entry) (o : Option Message) → 1 ≤ entry → 1 ≤ place
    → Some e ≡ slice_get xs (entry - 1)
    → o ≡ slice_get e.outputs (place - 1) → o ≡ output_at (reverse xs) entry place
output_found xs entry place e o low from here is =
    is ∙ sym (nth_is e.outputs place from) ∙ ap (λ (p : Option Entry). output_of p place) here
    ∙ entry_is xs entry place low

pub output_missing : (xs : List Entry) (entry place : ℕ) → 1 ≤ entry → None ≡ slice_get xs (entry - 1)
    → None ≡ output_at (reverse xs) entry place
output_missing xs entry place low here = ap (λ (p : Option Entry). output_of p place) here ∙ entry_is xs entry place low
