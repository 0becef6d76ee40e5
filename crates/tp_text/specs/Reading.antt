-- What a function that reads returned, seen by a view, is what the definition gives, unless memory ran out.
use Rattle.std.specs.Prelude.{◌≡◌, ℕ, ◌+◌, List, ◌∷◌, length, Result, Ok, Err}
use Rattle.tp_text.specs.Lines.{Input, lines_of}
use Rattle.tp_text.specs.declared.fault.Refusal.{Refusal}
use Rattle.tp_text.specs.declared.fault.Refusal.TheVariants as refusals
use Rattle.tp_text.specs.declared.fault.TextError.{TextError}
use Rattle.tp_text.specs.declared.fault.TextError.TheVariants as errors
use Rattle.tp_text.specs.declared.fault.TextFault.{TextFault}

abbrev pub Fails : {Y C : Type 0} → Refusal C → Result Y C → Type 0
Fails refusals.Memory read = Unit {0}
Fails (refusals.Cause cause) read = read ≡ Err cause

abbrev pub Gives : {X Y C : Type 0} → (X → Y) → Result X (Refusal C) → Result Y C → Type 0
Gives view (Ok x) read = read ≡ Ok (view x)
Gives view (Err e) read = Fails e read

-- the same with the line of a fault
abbrev pub FailsAt : {Y C : Type 0} → TextError C → Result Y (TextFault C) → Type 0
FailsAt errors.NoMemory read = Unit {0}
FailsAt (errors.Fault fault) read = read ≡ Err fault

abbrev pub Reads : {X Y C : Type 0} → (X → Y) → Result X (TextError C) → Result Y (TextFault C) → Type 0
Reads view (Ok x) read = read ≡ Ok (view x)
Reads view (Err e) read = FailsAt e read

-- the answer is this value, and this is left; or memory ran out
abbrev pub IsReadAs : {X C : Type 0} → X → List ℕ → List ℕ → Result X (TextError C) → Type 0
IsReadAs value rest left (Ok read) = (read ≡ value) × (left ≡ rest)
IsReadAs value rest left (Err errors.NoMemory) = Unit {0}
IsReadAs value rest left (Err (errors.Fault fault)) = ⊥

-- one line was taken off
abbrev pub IsTail : List (List ℕ) → List (List ℕ) → Type 0
IsTail before behind = (line : List ℕ) × (before ≡ line ∷ behind)

-- all lines of an input, those that were taken and the pieces that are left
abbrev pub all_lines : Input → ℕ
all_lines input = input.count + length (lines_of input.left)
