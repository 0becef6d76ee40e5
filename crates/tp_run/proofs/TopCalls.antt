-- An input that was read whole, and what is due to a call, for the top call.
use Rattle.std.proofs.Common.{false, IfErr, ◌≡◌, ℕ, ◌+◌, ◌≤◌, ◌⊎◌, inl, inr, List, ◌++◌, refl, sym, ◌∙◌, ap, subst, length, take, Option, Some, None, Result, Ok, Err, IfOk, IfSome, OnOk}
use Rattle.tp_entry.specs.Print as journals
use Rattle.tp_print.specs.Report.{report_text}
use Rattle.tp_print.specs.Summary.{summary_text}
use Rattle.tp_rules.proofs.fit.InRange.{run_in_range}
use Rattle.tp_laws.proofs.Legal.{run_legal}
use Rattle.tp_rules.proofs.Journals.{run_is_free}
use Rattle.tp_rules.specs.Laws.{KeepsLaws}
use Rattle.tp_rules.specs.Runs.{AreInRange, IsRun}
use Rattle.tp_rules.specs.declared.event.Entry.{Entry}
use Rattle.tp_run.specs.Both.{checked_of}
use Rattle.tp_run.specs.Calls.{runs}
use Rattle.tp_run.specs.Texts.{INPUT_MOST, IsTextOf, cause_of}
use Rattle.tp_run.proofs.BothLaws.{checked_again}
use Rattle.tp_run.proofs.TextLaws.{front_cause, unrefused_text, whole}
use Rattle.tp_run.specs.TopCall.{IsAnswer, IsDone, IsDue, IsDueFor, IsInputFor, IsRefusal, IsRefusedFor, IsSaidBy, IsServed, IsUnchecked}
use Rattle.tp_run.specs.declared.call.Call.{Call}
use Rattle.tp_run.specs.declared.call.Call.TheVariants.{Run, Trace, Step, Check, Gen, Load}
use Rattle.tp_run.specs.declared.finished.Cause.{Cause}
use Rattle.tp_run.specs.declared.finished.Cause.TheVariants.{Words, Script as ScriptFault, Journal as JournalFault, Input, Read, Write, Memory, Verdict as Found}
use Rattle.tp_script.specs.Accepted.{IsAccepted}
use Rattle.tp_script.specs.Print.{text_of}
use Rattle.tp_script.specs.declared.script.Script.{Script}

-- the script of what was read is the script of what was left
pub said_by_whole : (most : ℕ) (left : Option (List ℕ)) (bytes text : List ℕ) (read : Result Script Cause) → text ≡ bytes →
    IfSome left (λ all. bytes ≡ take (most + 1) all) → IfOk read (IsTextOf text) → OnOk read (length text ≤ most) →
    IfOk read (λ script. IsSaidBy left (Some script))
said_by_whole most None bytes text (Ok script) same is form few = tt
said_by_whole most (Some all) bytes text (Ok script) same is form few =
    subst (λ whole. IsTextOf whole script) (whole most all text (same ∙ is) few) form
said_by_whole most left bytes text (Err cause) same is form few = tt

-- a cause of what was read is that of what was left
pub refused_by_whole : (left : Option (List ℕ)) (bytes text : List ℕ) (cause : Cause) → text ≡ bytes →
    IfSome left (λ all. bytes ≡ take (INPUT_MOST + 1) all) → IsRefusedFor (Some text) cause → IsRefusedFor left cause
refused_by_whole (Some all) bytes text (ScriptFault fault) same is refused = sym (front_cause all text (same ∙ is)) ∙ refused
refused_by_whole (Some all) bytes text (Input got limit) same is refused = sym (front_cause all text (same ∙ is)) ∙ refused
refused_by_whole (Some all) bytes text Words same is refused = refused
refused_by_whole (Some all) bytes text (JournalFault fault) same is refused = refused
refused_by_whole (Some all) bytes text (Found entry why) same is refused = refused
refused_by_whole (Some all) bytes text Write same is refused = refused
refused_by_whole (Some all) bytes text Read same is refused = tt
refused_by_whole (Some all) bytes text Memory same is refused = tt
refused_by_whole None bytes text (ScriptFault fault) same is refused = tt
refused_by_whole None bytes text (Input got limit) same is refused = tt
refused_by_whole None bytes text Words same is refused = refused
refused_by_whole None bytes text (JournalFault fault) same is refused = refused
refused_by_whole None bytes text (Found entry why) same is refused = refused
refused_by_whole None bytes text Write same is refused = refused
refused_by_whole None bytes text Read same is refused = tt
refused_by_whole None bytes text Memory same is refused = tt

pub all_refused_by_whole : (left : Option (List ℕ)) (bytes text : List ℕ) (read : Result Script Cause) → text ≡ bytes →
    IfSome left (λ all. bytes ≡ take (INPUT_MOST + 1) all) → IfErr read (IsRefusedFor (Some text)) → IfErr read (IsRefusedFor left)
all_refused_by_whole left bytes text (Ok script) same is refused = tt
all_refused_by_whole left bytes text (Err cause) same is refused = refused_by_whole left bytes text cause same is refused

-- what was read has no cause where what was left has none
pub unrefused_by_whole : (left : Option (List ℕ)) (bytes text : List ℕ) (read : Result Script Cause) → text ≡ bytes →
    IfSome left (λ all. bytes ≡ take (INPUT_MOST + 1) all) → OnOk read (cause_of text ≡ None) → OnOk read (IfSome left (λ all. cause_of all ≡ None))
unrefused_by_whole left bytes text (Err cause) same is none = tt
unrefused_by_whole None bytes text (Ok script) same is none = tt
unrefused_by_whole (Some all) bytes text (Ok script) same is none = sym (front_cause all text (same ∙ is)) ∙ none

-- the messages of a run of the script that was kept have bytes
pub kept_in_range : (kept : Option Script) (script : Script) (journal : List Entry) → kept ≡ Some script → IsAccepted script → IsRun script journal
    → IfSome kept (λ _. AreInRange journal)
kept_in_range None script journal e accepted run = tt
kept_in_range (Some s) script journal e accepted run = run_in_range script accepted journal (run_is_free script journal run)

-- a run of the script that was kept keeps the laws
pub kept_laws : (kept : Option Script) (script : Script) (journal : List Entry) → kept ≡ Some script → IsAccepted script → IsRun script journal
    → IfSome kept (λ s. KeepsLaws s journal)
kept_laws None script journal e accepted run = tt
kept_laws (Some s) script journal e accepted run =
    let same : script ≡ s = cc in
    subst (λ (of : Script). KeepsLaws of journal) same (run_legal script journal accepted run)

-- what a text is refused for is due, but for a failed read and want of memory
text_due : (left : Option (List ℕ)) (cause : Cause) → IsRefusedFor left cause → ¬ (Some cause ≡ Some Read)
    → IsDue (Some Step) left (Some cause) ⊎ (Some cause ≡ Some Memory)
text_due None (ScriptFault fault) refused read = inl tt
text_due (Some text) (ScriptFault fault) refused read = inl (sym refused)
text_due None (Input got limit) refused read = inl tt
text_due (Some text) (Input got limit) refused read = inl (sym refused)
text_due left Words refused read = absurd refused
text_due left (JournalFault fault) refused read = absurd refused
text_due left (Found entry why) refused read = absurd refused
text_due left Write refused read = absurd refused
text_due left Read refused read = absurd (read refl)
text_due left Memory refused read = inr refl

refused_is_due : (left : Option (List ℕ)) (cause : Cause) → IfSome left (λ text. checked_of text ≡ Err cause) → IsDue (Some Check) left (Some cause)
refused_is_due None cause refused = tt
refused_is_due (Some text) cause refused = subst (λ (read : Result (Script × List Entry) Cause). IsDueFor read (Some cause)) (sym refused) refl

-- the same of a text that is to be checked
check_due : (left : Option (List ℕ)) (cause : Cause) → IsUnchecked left cause → ¬ (Some cause ≡ Some Read)
    → IsDue (Some Check) left (Some cause) ⊎ (Some cause ≡ Some Memory)
check_due left (ScriptFault fault) refused read = inl (refused_is_due left (ScriptFault fault) refused)
check_due left (JournalFault fault) refused read = inl (refused_is_due left (JournalFault fault) refused)
check_due left (Input got limit) refused read = inl (refused_is_due left (Input got limit) refused)
check_due left Words refused read = absurd refused
check_due left Write refused read = absurd refused
check_due left (Found entry why) refused read = absurd refused
check_due left Read refused read = absurd (read refl)
check_due left Memory refused read = inr refl

-- the cause of a refusal is due, but for a failed read and want of memory
refusal_due : (call : Option Call) (left : Option (List ℕ)) (cause : Cause) → IsRefusal call left cause → ¬ (Some cause ≡ Some Read)
    → IsDue call left (Some cause) ⊎ (Some cause ≡ Some Memory)
refusal_due None left cause refused read = inl (ap (λ (x : Cause). Some x) refused)
refusal_due (Some Run) left cause refused read = text_due left cause refused read
refusal_due (Some Trace) left cause refused read = text_due left cause refused read
refusal_due (Some Step) left cause refused read = text_due left cause refused read
refusal_due (Some Check) left cause refused read = check_due left cause refused read
refusal_due (Some (Gen n)) left cause refused read = inr (ap (λ (x : Cause). Some x) refused)
refusal_due (Some (Load n)) left cause refused read = inr (ap (λ (x : Cause). Some x) refused)

pub exact_refused : (call : Option Call) (left : Option (List ℕ)) (cause : Cause) (told : Option Cause) → told ≡ Some cause
    → IsRefusal call left cause → ¬ (told ≡ Some Read) → IsDue call left told ⊎ (told ≡ Some Memory)
exact_refused call left cause told is refused read =
    subst (λ (o : Option Cause). IsDue call left o ⊎ (o ≡ Some Memory)) (sym is)
    (refusal_due call left cause refused (λ e. read (is ∙ e)))

-- an input that serves is not refused
pub served_due : (call : Option Call) (left : Option (List ℕ)) (told : Option Cause) → IsInputFor call left
    → IsDue call left told ⊎ (told ≡ Some Memory) → IsServed call told ⊎ (told ≡ Some Memory)
served_due call left told input (inr memory) = inr memory
served_due None left told input (inl due) = absurd input
served_due (Some Run) left told input (inl due) =
    let all = subst (λ (l : Option (List ℕ)). IsDue (Some Run) l told) input.told due in
    inl (all ∙ unrefused_text input.text input.script input.short input.said)
served_due (Some Trace) left told input (inl due) =
    let all = subst (λ (l : Option (List ℕ)). IsDue (Some Trace) l told) input.told due in
    inl (all ∙ unrefused_text input.text input.script input.short input.said)
served_due (Some Step) left told input (inl due) =
    let all = subst (λ (l : Option (List ℕ)). IsDue (Some Step) l told) input.told due in
    inl (all ∙ unrefused_text input.text input.script input.short input.said)
served_due (Some Check) left told input (inl due) =
    let all = subst (λ (l : Option (List ℕ)). IsDue (Some Check) l told) input.told due in
    let found = subst (λ (read : Result (Script × List Entry) Cause). IsDueFor read told) (checked_again input.text input.script input.journal input.short input.said) all in
    inl (found.0, found.1.said)
served_due (Some (Gen n)) left told input (inl due) = inl due
served_due (Some (Load n)) left told input (inl due) = inl due

pub same_cause : {a b : Cause} → Some a ≡ Some b → a ≡ b
same_cause h = cc

-- the answer of a call that was done is due
pub exact_done : (call : Option Call) (left : Option (List ℕ)) (script : Script) (read journal : List Entry) (before now : Option (List ℕ)) (told : Option Cause)
    → ((answer : Option Cause) (output : List ℕ) → IsAnswer call script read answer output → IsDue call left answer)
    → (runs call ≡ false → journal ≡ read)
    → IsDone call script journal told before now ⊎ (told ≡ Some Write) ⊎ (told ≡ Some Memory)
    → ¬ (told ≡ Some Write) → IsDue call left told ⊎ (told ≡ Some Memory)
exact_done call left script read journal before now told due same (inr (inl failed)) unfailed = absurd (unfailed failed)
exact_done call left script read journal before now told due same (inr (inr memory)) unfailed = inr memory
exact_done call left script read journal before now told due same (inl done) unfailed = inl (of call due same done.right)
  where
    of : (call : Option Call) → ((answer : Option Cause) (output : List ℕ) → IsAnswer call script read answer output → IsDue call left answer)
        → (runs call ≡ false → journal ≡ read) → IsAnswer call script journal told done.output → IsDue call left told
    of None due same right = absurd right
    of (Some Run) due same right = subst (λ (a : Option Cause). IsDue (Some Run) left a) (sym right.0) (due None (report_text script read) (refl, refl))
    of (Some Trace) due same right = subst (λ (a : Option Cause). IsDue (Some Trace) left a) (sym right.0) (due None (report_text script read ++ journals.text_of read) (refl, refl))
    of (Some Step) due same right = subst (λ (a : Option Cause). IsDue (Some Step) left a) (sym right.0) (due None (report_text script read) (refl, refl))
    of (Some Check) due same right = due told done.output (subst (λ (j : List Entry). IsAnswer (Some Check) script j told done.output) (same refl) right)
    of (Some (Gen n)) due same right = subst (λ (a : Option Cause). IsDue (Some (Gen n)) left a) (sym right.0) (due None (text_of script) (refl, refl))
    of (Some (Load n)) due same right = subst (λ (a : Option Cause). IsDue (Some (Load n)) left a) (sym right.0) (due None (summary_text n script read) (refl, refl))
