-- What the top call's answer means.
use Rattle.std.specs.Io.KnownBytes.{Appends, IsAtEnd, Keeps}
use Rattle.std.specs.Prelude.{ℕ, ◌≡◌, ◌≢◌, ◌≤◌, ◌+◌, ◌↔◌, ◌⊎◌, true, false, List, [], ◌++◌, Option, Some, None, is_some, IfSome, Result, Ok, Err, length, reverse}
use Rattle.tp_check.specs.Print as verdicts
use Rattle.tp_check.specs.Verdicts.{IsVerdict}
use Rattle.tp_check.specs.declared.verdict.Verdict.{Verdict}
use Rattle.tp_check.specs.declared.verdict.Verdict.TheVariants.{Run as IsOne, No}
use Rattle.tp_entry.specs.Print as journals
use Rattle.tp_gen.specs.Generator.{numbered_script}
use Rattle.tp_outside.specs.Bytes.{AppendsFront, TakesAtMost, TakesFewer}
use Rattle.tp_outside.specs.Causes.{Rose}
use Rattle.tp_print.specs.Report.{open_count, report_text}
use Rattle.tp_print.specs.Summary.{summary_text}
use Rattle.tp_quiet.specs.Finished.{IsFinished, IsHarmless}
use Rattle.tp_rules.specs.Laws.{KeepsLaws}
use Rattle.tp_rules.specs.Pending.{IsPickedRun, IsQuiet}
use Rattle.tp_rules.specs.Runs.{AreInRange, IsRun}
use Rattle.tp_rules.specs.declared.event.Entry.{Entry}
use Rattle.tp_run.specs.Calls.{checks, picks, reads, runs}
use Rattle.tp_run.specs.Both.{IsTextOfBoth, IsUnread, checked_of}
use Rattle.tp_run.specs.Status.{status_of}
use Rattle.tp_run.specs.Texts.{INPUT_MOST, IsTextOf, cause_of}
use Rattle.tp_run.specs.declared.call.Call.{Call}
use Rattle.tp_run.specs.declared.call.Call.TheVariants.{Run, Trace, Step, Check, Gen, Load}
use Rattle.tp_run.specs.declared.finished.Cause.{Cause}
use Rattle.tp_run.specs.declared.finished.Cause.TheVariants.{Words, Script, Journal, Input, Read, Write, Memory, Verdict as Found}
use Rattle.tp_run.specs.declared.finished.Finished.{Finished}
use Rattle.tp_script.specs.Print.{text_of}
use Rattle.tp_script.specs.declared.script.Script.{Script as ScriptValue}

-- a status is 0 where there is no cause, and else the cause's
abbrev pub IsStatusOf : Option Cause → ℕ → Type 0
IsStatusOf None status = status ≡ 0
IsStatusOf (Some cause) status = status ≡ status_of cause

-- a script is the one whose text stands in the source, where the source tells its text
abbrev pub IsSaidBy : Option (List ℕ) → Option ScriptValue → Type 0
IsSaidBy left script = IfSome left (λ text. IfSome script (IsTextOf text))

-- the cause is that of the text, where the source tells it
abbrev pub IsCauseOf : Option (List ℕ) → Cause → Type 0
IsCauseOf left cause = IfSome left (λ text. cause_of text ≡ Some cause)

-- why a text gives no script: its own cause, a failed read, or want of memory
abbrev pub IsRefusedFor : Option (List ℕ) → Cause → Type 0
IsRefusedFor left (Script fault) = IsCauseOf left (Script fault)
IsRefusedFor left (Input got limit) = IsCauseOf left (Input got limit)
IsRefusedFor left Words = ⊥
IsRefusedFor left Write = ⊥
IsRefusedFor left (Journal fault) = ⊥
IsRefusedFor left (Found entry why) = ⊥
IsRefusedFor left Read = Unit {0}
IsRefusedFor left Memory = Unit {0}

-- why a text gives no script and journal: the cause of its refusal, where the source tells it, a failed read, or want of memory
abbrev pub IsUnchecked : Option (List ℕ) → Cause → Type 0
IsUnchecked left cause = IsUnread (λ why. IfSome left (λ text. checked_of text ≡ Err why)) cause

-- what a count of faults says of an answer: it rose where the answer is that fault, and else it is as before
pub record IsFaultOf (fault : Cause) (before now : ℕ) (cause : Option Cause) : Type 0 where
  pub rose : cause ≡ Some fault → Rose before now
  pub kept : cause ≢ Some fault → now ≡ before

-- the script of a call: the one whose text stands in the source, or that of the number; of a check with the journal behind it
abbrev pub IsScriptOf : Option Call → Option (List ℕ) → ScriptValue → List Entry → Type 0
IsScriptOf None left script journal = ⊥
IsScriptOf (Some Run) left script journal = IsSaidBy left (Some script)
IsScriptOf (Some Trace) left script journal = IsSaidBy left (Some script)
IsScriptOf (Some Step) left script journal = IsSaidBy left (Some script)
IsScriptOf (Some Check) left script journal = IfSome left (λ text. IsTextOfBoth text script journal)
IsScriptOf (Some (Gen n)) left script journal = script ≡ numbered_script n
IsScriptOf (Some (Load n)) left script journal = script ≡ numbered_script n

-- why a call has no script
abbrev pub IsRefusal : Option Call → Option (List ℕ) → Cause → Type 0
IsRefusal None left cause = cause ≡ Words
IsRefusal (Some Run) left cause = IsRefusedFor left cause
IsRefusal (Some Trace) left cause = IsRefusedFor left cause
IsRefusal (Some Step) left cause = IsRefusedFor left cause
IsRefusal (Some Check) left cause = IsUnchecked left cause
IsRefusal (Some (Gen n)) left cause = cause ≡ Memory
IsRefusal (Some (Load n)) left cause = cause ≡ Memory

-- a verdict as an answer: a run is none
abbrev pub answer_of : Verdict → Option Cause
answer_of (IsOne entries) = None
answer_of (No entry why) = Some (Found entry why)

-- a verdict of the journal, and the answer that says it
pub record IsFinding (script : ScriptValue) (journal : List Entry) (answer : Option Cause) (verdict : Verdict) : Type 0 where
  pub right : IsVerdict script journal verdict
  pub said : answer ≡ answer_of verdict

-- what a call with its script and journal answers and writes, where no fault and no want of memory disturbs it
abbrev pub IsAnswer : Option Call → ScriptValue → List Entry → Option Cause → List ℕ → Type 0
IsAnswer None script journal answer output = ⊥
IsAnswer (Some Run) script journal answer output = (answer ≡ None) × (output ≡ report_text script journal)
IsAnswer (Some Trace) script journal answer output = (answer ≡ None) × (output ≡ report_text script journal ++ journals.text_of journal)
IsAnswer (Some Step) script journal answer output = (answer ≡ None) × (output ≡ report_text script journal)
IsAnswer (Some Check) script journal answer output = (verdict : Verdict) × IsFinding script journal answer verdict × (output ≡ verdicts.text_of verdict)
IsAnswer (Some (Gen n)) script journal answer output = (answer ≡ None) × (output ≡ text_of script)
IsAnswer (Some (Load n)) script journal answer output = (answer ≡ None) × (output ≡ summary_text n script journal)

-- the call answered so, and its output was written
pub record IsDone (call : Option Call) (script : ScriptValue) (journal : List Entry) (answer : Option Cause) (before now : Option (List ℕ)) : Type 0 where
  pub output : List ℕ
  pub right : IsAnswer call script journal answer output
  pub written : Appends before now output

-- some front of the call's output was written
pub record IsBegun (call : Option Call) (script : ScriptValue) (journal : List Entry) (before now : Option (List ℕ)) : Type 0 where
  pub answer : Option Cause
  pub output : List ℕ
  pub right : IsAnswer call script journal answer output
  pub front : AppendsFront before now output

-- of the call's output some front was written, or nothing was
abbrev pub HasFront : Option Call → ScriptValue → List Entry → Option (List ℕ) → Option (List ℕ) → Type 0
HasFront call script journal before now = Keeps before now ⊎ IsBegun call script journal before now

-- the answer to a text that is to be checked: the cause of its refusal, or else the verdict
abbrev pub IsDueFor : Result (ScriptValue × List Entry) Cause → Option Cause → Type 0
IsDueFor (Err cause) answer = answer ≡ Some cause
IsDueFor (Ok (script, journal)) answer = (verdict : Verdict) × IsFinding script journal answer verdict

-- the answer of a call that no fault and no want of memory disturbs, where the source tells its text
abbrev pub IsDue : Option Call → Option (List ℕ) → Option Cause → Type 0
IsDue None left answer = answer ≡ Some Words
IsDue (Some Run) left answer = IfSome left (λ text. answer ≡ cause_of text)
IsDue (Some Trace) left answer = IfSome left (λ text. answer ≡ cause_of text)
IsDue (Some Step) left answer = IfSome left (λ text. answer ≡ cause_of text)
IsDue (Some Check) left answer = IfSome left (λ text. IsDueFor (checked_of text) answer)
IsDue (Some (Gen n)) left answer = answer ≡ None
IsDue (Some (Load n)) left answer = answer ≡ None

-- the source tells the text of a script, and it isn't too long
pub record IsScriptText (left : Option (List ℕ)) : Type 0 where
  pub text : List ℕ
  pub script : ScriptValue
  pub told : left ≡ Some text
  pub short : length text ≤ INPUT_MOST
  pub said : IsTextOf text script

-- the source tells the text of a script and a journal, and it isn't too long
pub record IsTextToCheck (left : Option (List ℕ)) : Type 0 where
  pub text : List ℕ
  pub script : ScriptValue
  pub journal : List Entry
  pub told : left ≡ Some text
  pub short : length text ≤ INPUT_MOST
  pub said : IsTextOfBoth text script journal

-- the input serves a call: one that isn't read always does
abbrev pub IsInputFor : Option Call → Option (List ℕ) → Type 0
IsInputFor None left = ⊥
IsInputFor (Some Run) left = IsScriptText left
IsInputFor (Some Trace) left = IsScriptText left
IsInputFor (Some Step) left = IsScriptText left
IsInputFor (Some Check) left = IsTextToCheck left
IsInputFor (Some (Gen n)) left = Unit {0}
IsInputFor (Some (Load n)) left = Unit {0}

-- the call is served: without a cause, or a check by a verdict
abbrev pub IsServed : Option Call → Option Cause → Type 0
IsServed None answer = ⊥
IsServed (Some Run) answer = answer ≡ None
IsServed (Some Trace) answer = answer ≡ None
IsServed (Some Step) answer = answer ≡ None
IsServed (Some Check) answer = (verdict : Verdict) × (answer ≡ answer_of verdict)
IsServed (Some (Gen n)) answer = answer ≡ None
IsServed (Some (Load n)) answer = answer ≡ None

-- what the top call answers, by the script and the journal in its answer

-- What a call reads, where the source tells the bytes that were left before and are left now, whether a read found the
-- end, and how often a read had failed before and has failed now.
pub record IsRead (call : Option Call) (left rest : Option (List ℕ)) (ended : Type 0) (failed fails : ℕ) (told : Finished) : Type 0 where
  -- the words are refused exactly where they are no call; where the call reads nothing, the input is as it was
  pub words : (call ≡ None) ↔ (told.cause ≡ Some Words)
  pub unread : reads call ≡ false → (rest ≡ left) × (fails ≡ failed)
  -- no more is read than shows that the input is too long, and no fault past that is answered
  pub taken : TakesAtMost (INPUT_MOST + 1) left rest
  pub below : told.cause ≡ Some Read → TakesFewer (INPUT_MOST + 1) left rest
  -- there is no script where the input is too long, or a line of it is faulty, each with its cause; else the script is
  -- there: the one that the input, read to its end, is the text of, or that of the number; of a check the journal is
  -- there too, and the input is the text of both
  pub refused : IfSome told.cause (λ cause. told.script ≡ None → IsRefusal call left cause)
  pub script : IfSome told.script (λ script. IsScriptOf call left script told.journal)
  pub to_end : IfSome told.script (λ script. reads call ≡ true → ended × IsAtEnd rest)
  -- without a cause there is a script
  pub answered : told.cause ≡ None → is_some told.script ≡ true
  -- a failed read is answered exactly where the count of faults rose
  pub fault : IsFaultOf Read failed fails told.cause

-- each command is committed and executed at each replica of its partitions, and answered: the report ends in `open 0`
abbrev pub HasFinished : ScriptValue → List Entry → Type 0
HasFinished script journal = IsFinished script journal × (open_count script (reverse journal) ≡ 0)

-- What a call keeps.
pub record IsKept (call : Option Call) (told : Finished) : Type 0 where
  -- where a script is run, the journal is a run of it, which keeps the laws, and its messages have bytes; where the picks
  -- choose, each step is the one that they choose; where there was memory, the journal is quiet
  pub run : runs call ≡ true → IfSome told.script (λ script. IsRun script told.journal)
  pub legal : runs call ≡ true → IfSome told.script (λ script. KeepsLaws script told.journal)
  pub ranges : runs call ≡ true → IfSome told.script (λ script. AreInRange told.journal)
  pub picked : picks call ≡ true → IfSome told.script (λ script. IsPickedRun script told.journal)
  pub quiet : runs call ≡ true → IfSome told.script (λ script. told.cause ≢ Some Memory → IsQuiet script told.journal)
  -- where no message is lost and no site crashes, all is finished then
  pub finished : runs call ≡ true → IfSome told.script (λ script. told.cause ≢ Some Memory → IsHarmless script → HasFinished script told.journal)
  -- without a run and a check there is no journal, nor without a script
  pub unrun : runs call ≡ false → checks call ≡ false → told.journal ≡ []
  pub unkept : told.script ≡ None → told.journal ≡ []

-- What a call writes, where the sink tells the bytes that were written before and are written now, and how often a write
-- had failed before and has failed now.
pub record IsWritten (call : Option Call) (before now : Option (List ℕ)) (failed fails : ℕ) (told : Finished) : Type 0 where
  -- with a script only writing or memory can fail; else the call's output is written, all of it: without a cause, or of a
  -- check with the verdict as the cause, where the journal is no run; in any case a front of it is written
  pub written : IfSome told.script (λ script. IsDone call script told.journal told.cause before now ⊎ (told.cause ≡ Some Write) ⊎ (told.cause ≡ Some Memory))
  pub front : IfSome told.script (λ script. HasFront call script told.journal before now)
  -- without a script nothing is written
  pub unwritten : told.script ≡ None → Keeps before now
  -- a failed write is answered exactly where the count of faults rose
  pub fault : IsFaultOf Write failed fails told.cause
