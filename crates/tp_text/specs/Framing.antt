-- Texts with a first line that names their format, and lines behind it up to a last one. What a text says is read line
-- by line: its fault is the first fault of the first faulty line.
use Rattle.std.specs.Prelude.{ℕ, ◌+◌, ◌==◌, nat_le, Bool, if◌then◌else◌, List, [], ◌∷◌, codes, Result, Ok, Err}
use Rattle.std.specs.Str.{bytes_eq}
use Rattle.tp_text.specs.Lines.{words_of}
use Rattle.tp_text.specs.Numbers.{number_of}
use Rattle.tp_text.specs.Steps.{◌>>=◌, ◌>>◌}
use Rattle.tp_text.specs.declared.fault.TextFault.{TextFault}
use Rattle.tp_text.specs.declared.framing.HeaderCauses.{HeaderCauses}
use Rattle.tp_text.specs.declared.numbers.NumberFault.{NumberFault}

-- ---- the first line: a name and the version 1

abbrev pub header_words : List ℕ → List (List ℕ)
header_words name = name ∷ codes "1" ∷ []

-- the last line
abbrev pub end_words : List (List ℕ)
end_words = codes "end" ∷ []

-- the greatest version that is a number at all
abbrev pub most_version : ℕ
most_version = 4294967295

abbrev pub version : {C : Type 0} → HeaderCauses C → Result ℕ NumberFault → Result (Unit {0}) C
version causes (Ok n) = if n == 1 then Ok tt else (if nat_le 2 n then Err causes.newer else Err causes.header)
version causes (Err fault) = Err causes.header

unfoldable pub header_line : {C : Type 0} → List ℕ → HeaderCauses C → List (List ℕ) → Result (Unit {0}) C
header_line name causes (word ∷ number ∷ []) = if bytes_eq word name then version causes (number_of most_version number) else Err causes.header
header_line name causes _ = Err causes.header

-- ---- lines with their numbers

abbrev pub fault_at : {C : Type 0} → ℕ → C → TextFault C
fault_at n cause = record { line = n; cause = cause }

abbrev pub at_line : {A C : Type 0} → ℕ → Result A C → Result A (TextFault C)
at_line n (Ok x) = Ok x
at_line n (Err cause) = Err (fault_at n cause)

-- the next line and those behind it; the last piece of an input is no line
unfoldable pub ended_line : {C : Type 0} → ℕ → C → List (List ℕ) → Result (List ℕ × List (List ℕ)) (TextFault C)
ended_line n missing [] = Err (fault_at n missing)
ended_line n missing (piece ∷ []) = Err (fault_at n missing)
ended_line n missing (line ∷ next ∷ lines) = Ok (line, next ∷ lines)

-- what the words of the next line say, and the lines behind it
unfoldable pub line_at : {A C : Type 0} → ℕ → C → (List (List ℕ) → Result A C) → List (List ℕ) → Result (A × List (List ℕ)) (TextFault C)
line_at n missing said lines = do
  line ← ended_line n missing lines
  x ← at_line n (said (words_of line.0))
  Ok (x, line.1)

-- line n as the first line
abbrev pub header_at : {C : Type 0} → List ℕ → HeaderCauses C → ℕ → List (List ℕ) → Result (Unit {0} × List (List ℕ)) (TextFault C)
header_at name causes n lines = line_at n causes.header (header_line name causes) lines

-- from line n on, what the lines add to what was said before them, up to the first line behind which no more follow
unfoldable pub lines_from : {D C : Type 0} → C → (D → List (List ℕ) → Result (Bool × D) C) → ℕ → D → List (List ℕ) → Result (D × List (List ℕ)) (TextFault C)
lines_from missing line_of n draft [] = Err (fault_at n missing)
lines_from missing line_of n draft (line ∷ lines) = do
  more ← line_at n missing (line_of draft) (line ∷ lines)
  if more.0.0 then lines_from missing line_of (n + 1) more.0.1 lines else Ok (more.0.1, lines)
