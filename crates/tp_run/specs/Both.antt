-- What a whole input says that is to be checked: a script, a journal behind it and nothing behind that, or the cause of its refusal.
use Rattle.std.specs.Prelude.{ℕ, ◌≡◌, ◌+◌, nat_lt, if◌then◌else◌, List, ◌++◌, Result, Ok, Err, length}
use Rattle.tp_entry.specs.Journals.{IsJournal}
use Rattle.tp_entry.specs.Meaning.{journal_at}
use Rattle.tp_entry.specs.Print as journals
use Rattle.tp_entry.specs.declared.fault.JournalCause.{JournalCause}
use Rattle.tp_entry.specs.declared.fault.JournalCause.TheVariants.{Word}
use Rattle.tp_rules.specs.declared.event.Entry.{Entry}
use Rattle.tp_run.specs.Texts.{INPUT_MOST, is_end}
use Rattle.tp_run.specs.declared.finished.Cause.{Cause}
use Rattle.tp_run.specs.declared.finished.Cause.TheVariants.{Words, Script as FaultyScript, Journal as FaultyJournal, Input, Read, Write, Memory, Verdict}
use Rattle.tp_script.specs.Accepted.{IsAccepted}
use Rattle.tp_script.specs.Meaning.{script_at}
use Rattle.tp_script.specs.Print.{script_lines, text_of}
use Rattle.tp_script.specs.declared.fault.ScriptCause.{ScriptCause}
use Rattle.tp_script.specs.declared.script.Script.{Script}
use Rattle.tp_text.specs.Framing.{fault_at}
use Rattle.tp_text.specs.Lines.{lines_of}
use Rattle.tp_text.specs.declared.fault.TextFault.{TextFault}

-- the text is that of a script, and behind it that of a journal
pub record IsTextOfBoth (text : List ℕ) (script : Script) (journal : List Entry) : Type 0 where
  pub accepted : IsAccepted script
  pub printed : IsJournal journal
  pub said : text ≡ text_of script ++ journals.text_of journal

-- what stands behind a journal's `end` is Word at the next line
abbrev pub journal_to_end : Script → Result (List Entry × List (List ℕ)) (TextFault JournalCause) → Result (Script × List Entry) Cause
journal_to_end script (Err fault) = Err (FaultyJournal fault)
journal_to_end script (Ok (journal, lines)) =
    if is_end lines
    then Ok (script, journal)
    else Err (FaultyJournal (fault_at (length (script_lines script) + length (journals.journal_lines journal) + 1) Word))

-- behind a script stands a journal
abbrev pub with_journal : Result (Script × List (List ℕ)) (TextFault ScriptCause) → Result (Script × List Entry) Cause
with_journal (Err fault) = Err (FaultyScript fault)
with_journal (Ok (script, lines)) = journal_to_end script (journal_at (length (script_lines script) + 1) lines)

-- the script and the journal that a whole text says, or its first fault
unfoldable pub both_of : List ℕ → Result (Script × List Entry) Cause
both_of text = with_journal (script_at 1 (lines_of text))

-- the same of a text that may be too long
unfoldable pub checked_of : List ℕ → Result (Script × List Entry) Cause
checked_of text = if nat_lt INPUT_MOST (length text) then Err (Input (INPUT_MOST + 1) INPUT_MOST) else both_of text

-- why no text of both was read: a fault of which this is said, a failed read, or want of memory
abbrev pub IsUnread : (Cause → Type 0) → Cause → Type 0
IsUnread said (FaultyScript fault) = said (FaultyScript fault)
IsUnread said (FaultyJournal fault) = said (FaultyJournal fault)
IsUnread said (Input got limit) = said (Input got limit)
IsUnread said Read = Unit {0}
IsUnread said Memory = Unit {0}
IsUnread said Words = ⊥
IsUnread said Write = ⊥
IsUnread said (Verdict entry why) = ⊥

-- what was read is what the definition gives, unless memory ran out
abbrev pub ReadsBoth : Result (Script × List Entry) Cause → Result (Script × List Entry) Cause → Type 0
ReadsBoth (Ok both) read = read ≡ Ok both
ReadsBoth (Err cause) read = IsUnread (λ why. read ≡ Err why) cause
