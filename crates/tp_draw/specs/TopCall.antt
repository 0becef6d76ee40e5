-- What the answer of the program means that draws a run.
use Rattle.std.specs.Io.KnownBytes.{Appends, Keeps}
use Rattle.std.specs.Prelude.{ℕ, ◌≡◌, ◌≤◌, ◌⊎◌, List, Option, Some, None, IfSome, Result, Ok, Err}
use Rattle.tp_outside.specs.Bytes.{AppendsFront}
use Rattle.tp_picture.specs.Shapes.{shapes}
use Rattle.tp_svg.specs.Svg.{svg_text}
use Rattle.tp_picture.specs.declared.view.View.{View}
use Rattle.tp_rules.specs.declared.event.Entry.{Entry}
use Rattle.tp_run.specs.Both.{checked_of}
use Rattle.tp_run.specs.TopCall.{IsTextToCheck, IsUnchecked}
use Rattle.tp_run.specs.declared.finished.Cause.{Cause}
use Rattle.tp_run.specs.declared.finished.Cause.TheVariants.{Words}
use Rattle.tp_script.specs.declared.script.Script.{Script}

-- the text of the picture of a journal, as a view shows it
abbrev pub picture_text : Script → List Entry → View → List ℕ
picture_text script journal view = svg_text (shapes script journal view)

-- why nothing is drawn: no words that choose a view, or an input that is no script and journal
abbrev pub IsRefusal : Option View → Option (List ℕ) → Cause → Type 0
IsRefusal None left cause = cause ≡ Words
IsRefusal (Some view) left cause = IsUnchecked left cause

-- the whole picture was written
abbrev pub IsDrawn : Option View → Script → List Entry → Option Cause → Option (List ℕ) → Option (List ℕ) → Type 0
IsDrawn None script journal answer before now = ⊥
IsDrawn (Some view) script journal answer before now = (answer ≡ None) × Appends before now (picture_text script journal view)

-- some front of the picture was written, or nothing
abbrev pub IsBegun : Option View → Script → List Entry → Option (List ℕ) → Option (List ℕ) → Type 0
IsBegun None script journal before now = ⊥
IsBegun (Some view) script journal before now = Keeps before now ⊎ AppendsFront before now (picture_text script journal view)

abbrev pub IsDueFor : Result (Script × List Entry) Cause → Option Cause → Type 0
IsDueFor (Err cause) answer = answer ≡ Some cause
IsDueFor (Ok both) answer = answer ≡ None

-- the answer that no fault and no want of memory disturbs, where the source tells its text
abbrev pub IsDue : Option View → Option (List ℕ) → Option Cause → Type 0
IsDue None left answer = answer ≡ Some Words
IsDue (Some view) left answer = IfSome left (λ text. IsDueFor (checked_of text) answer)

-- the words choose a view, and the source tells the text of a script and a journal
abbrev pub IsInputFor : Option View → Option (List ℕ) → Type 0
IsInputFor None left = ⊥
IsInputFor (Some view) left = IsTextToCheck left
