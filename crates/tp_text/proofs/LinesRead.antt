-- The loop over a text's lines gives what the definition gives.
use Rattle.std.proofs.Common.{◌≡◌, ℕ, ◌+◌, ◌<◌, Bool, if◌then◌else◌, List, [], ◌∷◌, length, Result, Ok, Err, refl, sym, ap, ◌∙◌, arith}
use Rattle.tp_text.specs.Framing.{ended_line, line_at, lines_from}
use Rattle.tp_text.specs.Lines.{lines_of}
use Rattle.tp_text.specs.Reading.{FailsAt, IsTail}
use Rattle.tp_text.specs.Steps.{◌>>=◌}
use Rattle.tp_text.specs.declared.fault.TextError.{TextError}
use Rattle.tp_text.specs.declared.fault.TextError.TheVariants as errors
use Rattle.tp_text.specs.declared.fault.TextFault.{TextFault}
use Rattle.tp_text.proofs.Joined.{some_piece}

-- the words of a line, or the lines of an input
abbrev pub Pieces : Type 0
Pieces = List (List ℕ)

-- what a line says: whether more lines follow, and all that was said so far
abbrev pub LineOf : Type 0 → Type 0 → Type 0
LineOf D C = D → Pieces → Result (Bool × D) C

-- a line with lines behind it
pub with_end : {C : Type 0} (n : ℕ) (missing : C) (line : List ℕ) (lines : Pieces) → 0 < length lines → ended_line n missing (line ∷ lines) ≡ Ok (line, lines)
unfolding ended_line
with_end n missing line [] some = absurd (omega arith)
with_end n missing line (next ∷ lines) some = refl

pub line_taken : {C : Type 0} (n : ℕ) (missing : C) (line old rest : List ℕ) → lines_of old ≡ line ∷ lines_of rest → ended_line n missing (lines_of old) ≡ Ok (line, lines_of rest)
line_taken n missing line old rest e = ap (ended_line n missing) e ∙ with_end n missing line (lines_of rest) (some_piece 10 rest)

-- what is still to be read, where more lines follow
abbrev pub unread : {D C : Type 0} → C → LineOf D C → Bool → ℕ → D → Pieces → Result (D × Pieces) (TextFault C)
unread missing line_of more n draft lines = if more then lines_from missing line_of n draft lines else Ok (draft, lines)

pub step : {D C : Type 0} (missing : C) (line_of : LineOf D C) (n : ℕ) (draft : D) (line : List ℕ) (lines : Pieces)
    → lines_from missing line_of n draft (line ∷ lines) ≡ (line_at n missing (line_of draft) (line ∷ lines) >>= λ x. unread missing line_of x.0.0 (n + 1) x.0.1 lines)
unfolding lines_from
step missing line_of n draft line lines = refl

pub goes_on : {D C : Type 0} (missing : C) (line_of : LineOf D C) (n m : ℕ) (draft after : D) (old new : Pieces) (more : Bool) (total : Result (D × Pieces) (TextFault C)) → IsTail old new
    → line_at n missing (line_of draft) old ≡ Ok ((more, after), new) → m ≡ n + 1 → lines_from missing line_of n draft old ≡ total → unread missing line_of more m after new ≡ total
goes_on {D} {C} missing line_of n m draft after old new more total tail one next so_far =
    let first : line_at n missing (line_of draft) (tail.0 ∷ new) ≡ Ok ((more, after), new) = ap (line_at n missing (line_of draft)) (sym tail.1) ∙ one in
    let taken : lines_from missing line_of n draft old ≡ unread missing line_of more (n + 1) after new = ap (lines_from missing line_of n draft) tail.1 ∙ step missing line_of n draft tail.0 new ∙ ap (λ (r : Result ((Bool × D) × Pieces) (TextFault C)). r >>= λ x. unread missing line_of x.0.0 (n + 1) x.0.1 new) first in
    ap (λ (k : ℕ). unread missing line_of more k after new) next ∙ sym taken ∙ so_far

fault_first : {D C : Type 0} (missing : C) (line_of : LineOf D C) (n : ℕ) (draft : D) (old : Pieces) (fault : TextFault C) → 0 < length old
    → line_at n missing (line_of draft) old ≡ Err fault → lines_from missing line_of n draft old ≡ Err fault
fault_first missing line_of n draft [] fault some e = absurd (omega arith)
fault_first {D} {C} missing line_of n draft (line ∷ lines) fault some e =
    step missing line_of n draft line lines ∙ ap (λ (r : Result ((Bool × D) × Pieces) (TextFault C)). r >>= λ x. unread missing line_of x.0.0 (n + 1) x.0.1 lines) e

pub ends : {D C : Type 0} (missing : C) (line_of : LineOf D C) (e : TextError C) (n : ℕ) (draft : D) (old : List ℕ) (total : Result (D × Pieces) (TextFault C))
    → FailsAt e (line_at n missing (line_of draft) (lines_of old)) → lines_from missing line_of n draft (lines_of old) ≡ total → FailsAt e total
ends missing line_of errors.NoMemory n draft old total one so_far = tt
ends missing line_of (errors.Fault fault) n draft old total one so_far = sym so_far ∙ fault_first missing line_of n draft (lines_of old) fault (some_piece 10 old) one
