-- The loops that read so many of a kind give what the definitions give.
use Rattle.std.proofs.Common.{◌≡◌, ℕ, suc, ◌-◌, ◌+◌, ◌≤◌, ◌<◌, List, [], ◌∷◌, ◌++◌, Result, Ok, Err, refl, sym, ap, ◌∙◌, append_assoc, arith}
use Rattle.std.proofs.lemmas.List.{append-nil}
use Rattle.tp_base.specs.Fields.{At}
use Rattle.tp_base.specs.declared.names.Pair.{Pair}
use Rattle.tp_text.specs.Steps.{◌>>=◌}
use Rattle.tp_wire.specs.Meaning.{Reader, pair_at, pairs_from, times_at}
use Rattle.tp_wire.specs.Reading.{Fails}
use Rattle.tp_wire.specs.declared.fault.WireError.{WireError}
use Rattle.tp_wire.specs.declared.fault.WireError.TheVariants as errors
use Rattle.tp_wire.specs.declared.fault.WireFault.{WireFault}

-- what was read before, and what is still read
abbrev pub with_front : {A : Type 0} → List A → Result (List A × At) WireFault → Result (List A × At) WireFault
with_front front read = read >>= λ x. Ok (front ++ x.0, x.1)

regrouped : {A : Type 0} (front : List A) (one : A) (read : Result (List A × At) WireFault)
    → with_front front (read >>= λ x. Ok (one ∷ x.0, x.1)) ≡ with_front (front ++ one ∷ []) read
regrouped front one (Ok x) = ap (λ (xs : List _). Ok (xs, x.1)) (sym (append_assoc front (one ∷ []) x.0))
regrouped front one (Err fault) = refl

no_more : {A : Type 0} (front : List A) (at : At) → with_front front (Ok ([], at)) ≡ Ok (front, at)
no_more front at = ap (λ (xs : List _). Ok (xs, at)) (append-nil front)

-- ---- the same kind again and again

pub goes_on : {A : Type 0} (reader : Reader A) (front : List A) (count i : ℕ) (at : At) (one : A) (after : At) (total : Result (List A × At) WireFault)
    → i < count → reader at ≡ Ok (one, after)
    → with_front front (times_at reader (count - i) at) ≡ total → with_front (front ++ one ∷ []) (times_at reader (count - (i + 1)) after) ≡ total
unfolding times_at
goes_on reader front count i at one after total more read so_far =
    let left : count - i ≡ suc (count - (i + 1)) = omega arith in
    let step : with_front front (times_at reader (count - i) at) ≡ with_front (front ++ one ∷ []) (times_at reader (count - (i + 1)) after) = rw (left, read) (regrouped front one (times_at reader (count - (i + 1)) after)) in
    sym step ∙ so_far

pub ends : {A : Type 0} (e : WireError) (reader : Reader A) (front : List A) (count i : ℕ) (at : At) (total : Result (List A × At) WireFault)
    → i < count → Fails e (reader at) → with_front front (times_at reader (count - i) at) ≡ total → Fails e total
unfolding times_at
ends errors.NoMemory reader front count i at total more read so_far = tt
ends (errors.Fault fault) reader front count i at total more read so_far =
    let left : count - i ≡ suc (count - (i + 1)) = omega arith in
    let step : with_front front (times_at reader (count - i) at) ≡ Err fault = rw (left, read) refl in
    sym so_far ∙ step

pub is_done : {A : Type 0} (reader : Reader A) (front : List A) (count i : ℕ) (at : At) (total : Result (List A × At) WireFault)
    → count ≤ i → with_front front (times_at reader (count - i) at) ≡ total → total ≡ Ok (front, at)
unfolding times_at
is_done reader front count i at total none so_far =
    let left : count - i ≡ 0 = omega arith in
    let step : with_front front (times_at reader (count - i) at) ≡ Ok (front, at) = rw left (no_more front at) in
    sym so_far ∙ step

-- ---- pairs, each above the one before

pub pairs_go_on : (front : List Pair) (count i last hi : ℕ) (at : At) (one : Pair) (after : At) (total : Result (List Pair × At) WireFault)
    → i < count → pair_at (last + 1) hi at ≡ Ok (one, after)
    → with_front front (pairs_from (count - i) last hi at) ≡ total
    → with_front (front ++ one ∷ []) (pairs_from (count - (i + 1)) one.stamp.0 hi after) ≡ total
unfolding pairs_from
pairs_go_on front count i last hi at one after total more read so_far =
    let left : count - i ≡ suc (count - (i + 1)) = omega arith in
    let step : with_front front (pairs_from (count - i) last hi at) ≡ with_front (front ++ one ∷ []) (pairs_from (count - (i + 1)) one.stamp.0 hi after) = rw (left, read) (regrouped front one (pairs_from (count - (i + 1)) one.stamp.0 hi after)) in
    sym step ∙ so_far

pub pairs_end : (e : WireError) (front : List Pair) (count i last hi : ℕ) (at : At) (total : Result (List Pair × At) WireFault)
    → i < count → Fails e (pair_at (last + 1) hi at) → with_front front (pairs_from (count - i) last hi at) ≡ total → Fails e total
unfolding pairs_from
pairs_end errors.NoMemory front count i last hi at total more read so_far = tt
pairs_end (errors.Fault fault) front count i last hi at total more read so_far =
    let left : count - i ≡ suc (count - (i + 1)) = omega arith in
    let step : with_front front (pairs_from (count - i) last hi at) ≡ Err fault = rw (left, read) refl in
    sym so_far ∙ step

pub pairs_done : (front : List Pair) (count i last hi : ℕ) (at : At) (total : Result (List Pair × At) WireFault)
    → count ≤ i → with_front front (pairs_from (count - i) last hi at) ≡ total → total ≡ Ok (front, at)
unfolding pairs_from
pairs_done front count i last hi at total none so_far =
    let left : count - i ≡ 0 = omega arith in
    let step : with_front front (pairs_from (count - i) last hi at) ≡ Ok (front, at) = rw left (no_more front at) in
    sym so_far ∙ step
