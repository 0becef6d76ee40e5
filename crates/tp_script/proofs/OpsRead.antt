-- The loop over a command's operations gives what the definition gives.
use Rattle.std.proofs.Common.{◌≡◌, ℕ, zero, suc, ◌+◌, ◌-◌, ◌≤◌, Bool, true, false, if◌then◌else◌, List, [], ◌∷◌, ◌++◌, length, take, Some, None, Result, Ok, Err, refl, sym, ap, ◌∙◌, append_assoc, arith}
use Rattle.std.specs.Option.{option_map}
use Rattle.std.proofs.lemmas.List.{append-nil, take_all}
use Rattle.tp_ops.specs.declared.operation.Op.{Op}
use Rattle.tp_script.specs.Grammar.{op_and_after, op_at, ops_and_count, ops_at, with_others}
use Rattle.tp_script.specs.declared.fault.ScriptCause.{ScriptCause}
use Rattle.tp_text.specs.Reading.{Fails}
use Rattle.tp_text.specs.Steps.{◌>>=◌}
use Rattle.tp_text.specs.declared.fault.Refusal.{Refusal}
use Rattle.tp_text.specs.declared.fault.Refusal.TheVariants as refusals

abbrev pair : List Op → ℕ → List Op × ℕ
pair ops n = (ops, n)

abbrev Words : Type 0
Words = List (List ℕ)

-- the first sixteen and the count, of operations behind those already read
abbrev pub counted : List Op → ℕ → Result (List Op) ScriptCause → Result (List Op × ℕ) ScriptCause
counted kept n read = read >>= λ ops. Ok (take 16 (kept ++ ops), n + length ops)

-- what is still to be read, where more operations follow
abbrev pub still : Bool → ℕ → Words → Result (List Op) ScriptCause
still more n words = if more then ops_at n words else Ok []

pub none_kept : (words : Words) → counted [] 0 (ops_at (length words) words) ≡ ops_and_count words
unfolding ops_and_count
none_kept words = go (ops_at (length words) words)
  where
    go : (r : Result (List Op) ScriptCause) → counted [] 0 r ≡ (r >>= λ ops. Ok (take 16 ops, length ops))
    go (Ok ops) = let same : 0 + length ops ≡ length ops = omega arith in ap (λ (n : ℕ). Ok (take 16 ops, n)) same
    go (Err e) = refl

one_step : (n : ℕ) (words : Words) → length words ≤ n
    → ops_at n words ≡ (op_and_after words >>= λ first. with_others first.0 (option_map (λ ws. ops_at (n - 1) ws) first.1))
unfolding ops_at op_and_after op_at
one_step zero [] le = refl
one_step zero (word ∷ words) le = absurd (omega arith)
one_step (suc n) words le =
    let same : suc n - 1 ≡ n = omega arith in
    rw same refl

-- the first ones of a list are those of its front
first_of_front : (n : ℕ) (xs ys : List Op) → take n (take n xs ++ ys) ≡ take n (xs ++ ys)
first_of_front zero xs ys = refl
first_of_front (suc n) [] ys = refl
first_of_front (suc n) (x ∷ xs) ys = ap (λ (l : List Op). x ∷ l) (first_of_front n xs ys)

one_kept : (kept : List Op) (n : ℕ) (op : Op) (ops : List Op) → pair (take 16 (kept ++ op ∷ ops)) (n + length (op ∷ ops)) ≡ pair (take 16 (take 16 (kept ++ op ∷ []) ++ ops)) (n + 1 + length ops)
one_kept kept n op ops =
    let list : take 16 (kept ++ op ∷ ops) ≡ take 16 (take 16 (kept ++ op ∷ []) ++ ops) = ap (take 16) (sym (append_assoc kept (op ∷ []) ops)) ∙ sym (first_of_front 16 (kept ++ op ∷ []) ops) in
    let number : n + length (op ∷ ops) ≡ n + 1 + length ops = omega arith in
    rw (list, number) refl

regrouped : (kept : List Op) (n : ℕ) (op : Op) (r : Result (List Op) ScriptCause) → counted kept n (r >>= λ ops. Ok (op ∷ ops)) ≡ counted (take 16 (kept ++ op ∷ [])) (n + 1) r
regrouped kept n op (Ok ops) = ap (λ (x : List Op × ℕ). Ok x) (one_kept kept n op ops)
regrouped kept n op (Err e) = refl

after_one : (kept : List Op) (n : ℕ) (op : Op) (more : Bool) (fuel : ℕ) (new : Words)
    → counted kept n (with_others op (option_map (λ ws. ops_at fuel ws) (if more then Some new else None))) ≡ counted (take 16 (kept ++ op ∷ [])) (n + 1) (still more fuel new)
after_one kept n op true fuel new = regrouped kept n op (ops_at fuel new)
after_one kept n op false fuel new = ap (λ (x : List Op × ℕ). Ok x) (one_kept kept n op [])

pub goes_on : (kept : List Op) (n all : ℕ) (old new : Words) (op : Op) (more : Bool) (total : Result (List Op × ℕ) ScriptCause)
    → length old + n ≤ all → op_and_after old ≡ Ok (op, if more then Some new else None)
    → counted kept n (ops_at (all - n) old) ≡ total
    → counted (take 16 (kept ++ op ∷ [])) (n + 1) (still more (all - (n + 1)) new) ≡ total
goes_on kept n all old new op more total room one so_far =
    let fuel : all - n - 1 ≡ all - (n + 1) = omega arith in
    let step : ops_at (all - n) old ≡ with_others op (option_map (λ ws. ops_at (all - n - 1) ws) (if more then Some new else None)) = one_step (all - n) old (omega arith) ∙ ap (λ r. r >>= λ first. with_others first.0 (option_map (λ ws. ops_at (all - n - 1) ws) first.1)) one in
    let next : counted kept n (ops_at (all - n) old) ≡ counted (take 16 (kept ++ op ∷ [])) (n + 1) (still more (all - n - 1) new) = ap (counted kept n) step ∙ after_one kept n op more (all - n - 1) new in
    rw (← fuel) (sym next ∙ so_far)

pub ends : (e : Refusal ScriptCause) (kept : List Op) (n all : ℕ) (old : Words) (total : Result (List Op × ℕ) ScriptCause)
    → length old + n ≤ all → Fails e (op_and_after old) → counted kept n (ops_at (all - n) old) ≡ total → Fails e total
ends refusals.Memory kept n all old total room one so_far = tt
ends (refusals.Cause cause) kept n all old total room one so_far =
    let step : ops_at (all - n) old ≡ Err cause = one_step (all - n) old (omega arith) ∙ ap (λ r. r >>= λ first. with_others first.0 (option_map (λ ws. ops_at (all - n - 1) ws) first.1)) one in
    sym so_far ∙ ap (counted kept n) step

pub is_done : (kept : List Op) (n : ℕ) (total : Result (List Op × ℕ) ScriptCause) → length kept ≤ 16 → counted kept n (Ok []) ≡ total → total ≡ Ok (kept, n)
is_done kept n total few so_far =
    let list : take 16 (kept ++ []) ≡ kept = ap (take 16) (append-nil kept) ∙ take_all 16 kept few in
    let number : n + 0 ≡ n = omega arith in
    sym so_far ∙ rw (list, number) refl
