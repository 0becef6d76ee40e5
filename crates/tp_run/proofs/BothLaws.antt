-- A whole text of a script and a journal says both, and nothing else is refused. Used where both are read.
use Rattle.std.proofs.Common.{◌≡◌, ℕ, ◌+◌, ◌≤◌, ◌<◌, nat_le, nat_lt, take, min, Bool, true, false, List, [], ◌++◌, Option, Some, None, Result, Ok, Err, IfSome, refl, sym, subst, ◌∙◌, ap, arith, length, append-nil}
use Rattle.std.proofs.lemmas.List.{length-take}
use Rattle.tp_entry.proofs.Found.{journal_found}
use Rattle.tp_entry.proofs.TextAgain.{journal_again, journal_plain}
use Rattle.tp_entry.specs.Journals.{IsJournal}
use Rattle.tp_entry.specs.Meaning.{journal_at}
use Rattle.tp_entry.specs.Print as journals
use Rattle.tp_rules.specs.declared.event.Entry.{Entry}
use Rattle.tp_run.proofs.TextLaws.{above, at_most, whole}
use Rattle.tp_run.specs.Both.{IsTextOfBoth, IsUnread, ReadsBoth, both_of, checked_of, with_journal}
use Rattle.tp_run.specs.Texts.{INPUT_MOST}
use Rattle.tp_run.specs.TopCall.{IsUnchecked}
use Rattle.tp_run.specs.declared.finished.Cause.{Cause}
use Rattle.tp_run.specs.declared.finished.Cause.TheVariants.{Words, Script as FaultyScript, Journal as FaultyJournal, Input, Read, Write, Memory, Verdict}
use Rattle.tp_script.proofs.ScriptLaws.{text_again}
use Rattle.tp_script.specs.Meaning.{script_at}
use Rattle.tp_script.specs.Print.{script_lines}
use Rattle.tp_script.specs.declared.fault.ScriptCause.{ScriptCause}
use Rattle.tp_script.specs.declared.script.Script.{Script}
use Rattle.tp_text.proofs.LinesAgain as framed
use Rattle.tp_text.specs.Lines.{Input as Lines, lines_of}
use Rattle.tp_text.specs.Reading.{FailsAt}
use Rattle.tp_text.specs.declared.fault.TextError.{TextError}
use Rattle.tp_text.specs.declared.fault.TextError.TheVariants as errors
use Rattle.tp_text.specs.declared.fault.TextFault.{TextFault}

-- the text of a journal is read as it, whatever stands behind
journal_text_again : (n : ℕ) (journal : List Entry) (rest : List ℕ) → IsJournal journal → journal_at n (lines_of (journals.text_of journal ++ rest)) ≡ Ok (journal, lines_of rest)
unfolding journals.text_of
journal_text_again n journal rest ok =
    framed.text_again (journal_at n) IsJournal journals.journal_lines (record { found = journal_found n; again = journal_again n; plain = journal_plain }) journal rest ok

-- the text of both says both
both_again : (text : List ℕ) (s : Script) (j : List Entry) → IsTextOfBoth text s j → both_of text ≡ Ok (s, j)
unfolding both_of
both_again text s j is =
    let rest : List ℕ = journals.text_of j in
    let n : ℕ = length (script_lines s) + 1 in
    let read : script_at 1 (lines_of text) ≡ Ok (s, lines_of rest) = ap (λ (t : List ℕ). script_at 1 (lines_of t)) is.said ∙ text_again 1 s rest is.accepted in
    let all : lines_of rest ≡ lines_of (rest ++ []) = ap lines_of (sym (append-nil rest)) in
    let behind : journal_at n (lines_of rest) ≡ Ok (j, lines_of []) = ap (journal_at n) all ∙ journal_text_again n j [] is.printed in
    rw read (rw behind refl)

-- what a text says that isn't too long
short_checked : (text : List ℕ) (read : Result (Script × List Entry) Cause) → length text ≤ INPUT_MOST → both_of text ≡ read → checked_of text ≡ read
unfolding checked_of
short_checked text read few e =
    let short : nat_lt INPUT_MOST (length text) ≡ false = grind (arith, few) in
    rw (short, e) refl

pub long_checked : (text : List ℕ) → INPUT_MOST < length text → checked_of text ≡ Err (Input (INPUT_MOST + 1) INPUT_MOST)
unfolding checked_of
long_checked text many =
    let long : nat_lt INPUT_MOST (length text) ≡ true = grind (arith, many) in
    rw long refl

-- the text of a script and a journal is checked
pub checked_again : (text : List ℕ) (s : Script) (j : List Entry) → length text ≤ INPUT_MOST → IsTextOfBoth text s j → checked_of text ≡ Ok (s, j)
checked_again text s j few is = short_checked text (Ok (s, j)) few (both_again text s j is)

-- what is said of a cause, and what follows from it
pub unread_map : (P Q : Cause → Type 0) → ((cause : Cause) → P cause → Q cause) → (cause : Cause) → IsUnread P cause → IsUnread Q cause
unread_map P Q f (FaultyScript fault) p = f (FaultyScript fault) p
unread_map P Q f (FaultyJournal fault) p = f (FaultyJournal fault) p
unread_map P Q f (Input got limit) p = f (Input got limit) p
unread_map P Q f Read p = tt
unread_map P Q f Memory p = tt
unread_map P Q f Words p = p
unread_map P Q f Write p = p
unread_map P Q f (Verdict entry why) p = p

-- a whole reading is that of a text that isn't too long
pub reads_checked : (text : List ℕ) (result : Result (Script × List Entry) Cause) → length text ≤ INPUT_MOST → ReadsBoth result (both_of text) → ReadsBoth result (checked_of text)
reads_checked text (Ok both) few reads = short_checked text (Ok both) few reads
reads_checked text (Err cause) few reads =
    unread_map (λ why. both_of text ≡ Err why) (λ why. checked_of text ≡ Err why) (λ why e. short_checked text (Err why) few e) cause reads

-- the text's meaning goes on behind a script that was read
pub both_on : (text : List ℕ) (input : Lines) (x : Script × List (List ℕ)) → input ≡ record { left = text; count = 0 }
    → script_at (input.count + 1) (lines_of input.left) ≡ Ok x → both_of text ≡ with_journal (Ok x)
unfolding both_of
both_on text input x is e = ap with_journal (subst (λ (i : Lines). script_at (i.count + 1) (lines_of i.left) ≡ Ok x) is e)

pub both_fails : (text : List ℕ) (input : Lines) (error : TextError ScriptCause) (fault : TextFault ScriptCause) → input ≡ record { left = text; count = 0 }
    → error ≡ errors.Fault fault → FailsAt error (script_at (input.count + 1) (lines_of input.left)) → both_of text ≡ Err (FaultyScript fault)
unfolding both_of
both_fails text input error fault is faulty fails =
    let e : script_at (input.count + 1) (lines_of input.left) ≡ Err fault = subst (λ (x : TextError ScriptCause). FailsAt x (script_at (input.count + 1) (lines_of input.left))) faulty fails in
    ap with_journal (subst (λ (i : Lines). script_at (i.count + 1) (lines_of i.left) ≡ Err fault) is e)

-- what a text says is what its front says, of which one byte more than an input may have is enough
pub front_checked : (text front : List ℕ) → front ≡ take (INPUT_MOST + 1) text → checked_of front ≡ checked_of text
front_checked text front is = go (nat_le (length front) INPUT_MOST) refl
  where
    count : length front ≡ min (INPUT_MOST + 1) (length text)
    count = ap length is ∙ length-take (INPUT_MOST + 1) text

    go : (b : Bool) → nat_le (length front) INPUT_MOST ≡ b → checked_of front ≡ checked_of text
    go true few = ap checked_of (whole INPUT_MOST text front is (at_most (length front) INPUT_MOST few))
    go false many =
        let long : INPUT_MOST < length front = above (length front) INPUT_MOST many in
        let longer : INPUT_MOST < length text = omega (arith, count, long) in
        long_checked front long ∙ sym (long_checked text longer)

-- what was read is the front of what was left
pub front_is : (left : Option (List ℕ)) (bytes front : List ℕ) → front ≡ bytes → IfSome left (λ text. bytes ≡ take (INPUT_MOST + 1) text) → IfSome left (λ text. front ≡ take (INPUT_MOST + 1) text)
front_is None bytes front same is = tt
front_is (Some text) bytes front same is = same ∙ is

-- the text of both that was read is what was left
pub both_by_whole : (left : Option (List ℕ)) (front : List ℕ) (s : Script) (j : List Entry) → IfSome left (λ text. front ≡ take (INPUT_MOST + 1) text) → length front ≤ INPUT_MOST
    → IsTextOfBoth front s j → IfSome left (λ text. IsTextOfBoth text s j)
both_by_whole None front s j is few both = tt
both_by_whole (Some text) front s j is few both = subst (λ (t : List ℕ). IsTextOfBoth t s j) (whole INPUT_MOST text front is few) both

pub checked_by_whole : (left : Option (List ℕ)) (front : List ℕ) (s : Script) (j : List Entry) → IfSome left (λ text. front ≡ take (INPUT_MOST + 1) text)
    → checked_of front ≡ Ok (s, j) → IfSome left (λ text. checked_of text ≡ Ok (s, j))
checked_by_whole None front s j is e = tt
checked_by_whole (Some text) front s j is e = sym (front_checked text front is) ∙ e

-- a cause of what was read is that of what was left
pub unchecked_by_whole : (left : Option (List ℕ)) (front : List ℕ) (cause : Cause) → IfSome left (λ text. front ≡ take (INPUT_MOST + 1) text)
    → IsUnread (λ why. checked_of front ≡ Err why) cause → IsUnchecked left cause
unchecked_by_whole left front cause is refused =
    unread_map (λ why. checked_of front ≡ Err why) (λ why. IfSome left (λ text. checked_of text ≡ Err why)) (of left is) cause refused
  where
    of : (left : Option (List ℕ)) → IfSome left (λ text. front ≡ take (INPUT_MOST + 1) text) → (why : Cause) → checked_of front ≡ Err why
        → IfSome left (λ text. checked_of text ≡ Err why)
    of None is why e = tt
    of (Some text) is why e = sym (front_checked text front is) ∙ e
