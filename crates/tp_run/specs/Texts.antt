-- What a whole input says: a script with nothing behind it, or the cause of its refusal.
use Rattle.std.specs.Prelude.{ℕ, ◌≡◌, ◌+◌, nat_lt, Bool, true, false, if◌then◌else◌, List, [], ◌∷◌, Option, Some, None, Result, Ok, Err, length}
use Rattle.tp_run.specs.declared.finished.Cause.{Cause}
use Rattle.tp_run.specs.declared.finished.Cause.TheVariants.{Script as Faulty, Input}
use Rattle.tp_script.specs.Accepted.{IsAccepted}
use Rattle.tp_script.specs.Meaning.{script_at}
use Rattle.tp_script.specs.Print.{script_lines, text_of}
use Rattle.tp_script.specs.declared.fault.ScriptCause.{ScriptCause}
use Rattle.tp_script.specs.declared.fault.ScriptCause.TheVariants.{Word}
use Rattle.tp_script.specs.declared.script.Script.{Script}
use Rattle.tp_text.specs.Framing.{fault_at}
use Rattle.tp_text.specs.Lines.{lines_of}
use Rattle.tp_text.specs.Steps.{◌>>=◌}
use Rattle.tp_text.specs.declared.fault.TextFault.{TextFault}

-- the most bytes that an input may have
abbrev pub INPUT_MOST : ℕ
INPUT_MOST = 67108864

-- the text is the one text of an accepted script
abbrev pub IsTextOf : List ℕ → Script → Type 0
IsTextOf text script = IsAccepted script × (text ≡ text_of script)

-- nothing stands behind the last line
abbrev pub is_end : List (List ℕ) → Bool
is_end ([] ∷ []) = true
is_end _ = false

-- what stands behind a script's `end` is Word at the next line
abbrev pub read_to_end : Script × List (List ℕ) → Result Script (TextFault ScriptCause)
read_to_end (script, lines) = if is_end lines then Ok script else Err (fault_at (length (script_lines script) + 1) Word)

-- the script that a whole text says, or its first fault
unfoldable pub script_of : List ℕ → Result Script (TextFault ScriptCause)
script_of text = script_at 1 (lines_of text) >>= read_to_end

abbrev pub cause_of_read : Result Script (TextFault ScriptCause) → Option Cause
cause_of_read (Err fault) = Some (Faulty fault)
cause_of_read (Ok script) = None

-- why a text is refused, if it is: it is too long, or a line of it is faulty
unfoldable pub cause_of : List ℕ → Option Cause
cause_of text = if nat_lt INPUT_MOST (length text) then Some (Input (INPUT_MOST + 1) INPUT_MOST) else cause_of_read (script_of text)
