-- What a script's lines say: a script and the lines behind its `end`, or the first faulty line with its first fault.
use Rattle.std.specs.Prelude.{ℕ, ◌+◌, ◌&&◌, nat_le, Bool, true, false, if◌then◌else◌, List, [], ◌∷◌, codes, Result, Ok, Err}
use Rattle.std.specs.Str.{bytes_eq}
use Rattle.tp_script.specs.Grammar.{command_line, crash_line, drop_line, pick_line, recover_line, repeat_line, session_line, shape_line, with_plan}
use Rattle.tp_script.specs.Kinds.{no_word}
use Rattle.tp_script.specs.declared.draft.Draft.{Draft}
use Rattle.tp_script.specs.declared.fault.ScriptCause.{ScriptCause}
use Rattle.tp_script.specs.declared.fault.ScriptCause.TheVariants.{Header, Newer, Missing, Word}
use Rattle.tp_script.specs.declared.script.PlanLine.{PlanLine}
use Rattle.tp_script.specs.declared.script.Script.{Script}
use Rattle.tp_text.specs.Framing.{header_at, line_at, lines_from}
use Rattle.tp_text.specs.Steps.{◌>>=◌}
use Rattle.tp_text.specs.declared.fault.TextFault.{TextFault}
use Rattle.tp_text.specs.declared.framing.HeaderCauses.{HeaderCauses}
use Rattle.tp_topology.specs.Shape.{Shape as StoreShape}

-- ---- line 2: `shape`

unfoldable pub shape_begun : List (List ℕ) → Result StoreShape ScriptCause
shape_begun [] = Err Word
shape_begun (word ∷ words) = if bytes_eq word (codes "shape") then shape_line words else Err Word

-- ---- the lines behind it: sessions, commands, plan lines, picks, `end`

-- a line of this group and name may stand behind the lines so far
abbrev pub stands : Draft → ℕ → List ℕ → List ℕ → Bool
stands draft group name word = bytes_eq word name && nat_le draft.group group

-- go on, with these lines so far
abbrev pub in_group : ℕ → Script → Bool × Draft
in_group group script = (true, record { group = group; script = script })

abbrev pub into_group : ℕ → Result Script ScriptCause → Result (Bool × Draft) ScriptCause
into_group group read = read >>= λ script. Ok (in_group group script)

abbrev pub into_plan : Draft → Result PlanLine ScriptCause → Result (Bool × Draft) ScriptCause
into_plan draft read = read >>= λ line. into_group 3 (with_plan draft.script line)

-- whether more lines follow, and the lines so far
unfoldable pub begun : Draft → List ℕ → List (List ℕ) → Result (Bool × Draft) ScriptCause
begun draft word words =
    if stands draft 1 (codes "session") word then into_group 1 (session_line draft.script words)
    else (if stands draft 2 (codes "command") word then into_group 2 (command_line draft.script words)
    else (if stands draft 3 (codes "crash") word then into_plan draft (crash_line draft.script words)
    else (if stands draft 3 (codes "recover") word then into_plan draft (recover_line draft.script words)
    else (if stands draft 3 (codes "drop") word then into_plan draft (drop_line draft.script words)
    else (if stands draft 3 (codes "repeat") word then into_plan draft (repeat_line draft.script words)
    else (if stands draft 4 (codes "pick") word then into_group 4 (pick_line draft.script words)
    else (if bytes_eq word (codes "end") then (no_word words >>= λ _. Ok (false, draft))
    else Err Word)))))))

unfoldable pub line_of : Draft → List (List ℕ) → Result (Bool × Draft) ScriptCause
line_of draft [] = Err Word
line_of draft (word ∷ words) = begun draft word words

-- ---- all lines

-- why the first line is faulty
abbrev pub causes : HeaderCauses ScriptCause
causes = record { header = Header; newer = Newer }

abbrev pub shaped : StoreShape → Draft
shaped shape = record { group = 0; script = record { topology = shape; homes = []; commands = []; plan = []; picks = [] } }

-- the script of a shape whose next line has the number n, and what stands behind its `end`
unfoldable pub script_from : ℕ → StoreShape → List (List ℕ) → Result (Script × List (List ℕ)) (TextFault ScriptCause)
script_from n shape lines = do
  read ← lines_from Missing line_of n (shaped shape) lines
  Ok (read.0.script, read.1)

-- a script whose first line, `tempo 1`, has the number n
unfoldable pub script_at : ℕ → List (List ℕ) → Result (Script × List (List ℕ)) (TextFault ScriptCause)
script_at n lines = do
  first ← header_at (codes "tempo") causes n lines
  second ← line_at (n + 1) Missing shape_begun first.1
  script_from (n + 2) second.0 second.1
