-- The laws of a journal's text, for the clauses of the function that reads it and of those that print it.
use Rattle.std.proofs.Common.{◌≡◌, ℕ, ◌+◌, false, List, [], ◌∷◌, ◌++◌, length, Result, sym, ap, ◌∙◌}
use Rattle.std.specs.Prelude.{IfOk, OnOk, codes}
use Rattle.tp_entry.specs.Journals.{IsJournal}
use Rattle.tp_entry.specs.Meaning.{journal_at}
use Rattle.tp_entry.specs.Print.{body, entry_lines, journal_lines, text_of}
use Rattle.tp_entry.specs.declared.fault.JournalCause.{JournalCause}
use Rattle.tp_rules.specs.declared.event.Entry.{Entry}
use Rattle.tp_text.specs.Framing.{end_words, header_words}
use Rattle.tp_text.specs.Lines.{Input, lines_of}
use Rattle.tp_text.specs.Reading.{IsReadAs, Reads, all_lines}
use Rattle.tp_text.specs.Writing.{Written, ended, with_lines, with_words}
use Rattle.tp_text.specs.declared.fault.TextError.{TextError}
use Rattle.tp_text.proofs.LinesAgain as framed
use Rattle.tp_text.proofs.LinesAgain.{IsReader}
use Rattle.tp_text.proofs.Spelled.{lines_written, with_lines-append}
use Rattle.tp_entry.proofs.Found.{journal_found}
use Rattle.tp_entry.proofs.TextAgain.{journal_again, journal_plain}

-- what is read from a first line with the number n is a journal, of which these are the lines
laws : (n : ℕ) → IsReader (journal_at n) IsJournal journal_lines
laws n = record { found = journal_found n; again = journal_again n; plain = journal_plain }

pub is_found : (n : ℕ) (old new : List ℕ) (r : Result (List Entry) (TextError JournalCause)) → Reads (λ es. (es, lines_of new)) r (journal_at n (lines_of old)) → IfOk r (λ es. IsJournal es × (old ≡ text_of es ++ new))
unfolding text_of
is_found n old new r read = framed.is_found (journal_at n) IsJournal journal_lines (laws n) old new r read

pub is_only : (n : ℕ) (old new : List ℕ) (r : Result (List Entry) (TextError JournalCause)) → Reads (λ es. (es, lines_of new)) r (journal_at n (lines_of old)) → (es : List Entry) (rest : List ℕ) → IsJournal es → old ≡ text_of es ++ rest → IsReadAs es rest new r
unfolding text_of
is_only n old new r read es rest ok e = framed.is_only (journal_at n) IsJournal journal_lines (laws n) old new r read es rest ok e

pub is_counted : (n : ℕ) (old new : Input) (r : Result (List Entry) (TextError JournalCause)) → Reads (λ es. (es, lines_of new.left)) r (journal_at n (lines_of old.left)) → OnOk r (all_lines new ≡ all_lines old) → IfOk r (λ es. new.count ≡ old.count + length (journal_lines es))
is_counted n old new r read all = framed.is_counted (journal_at n) IsJournal journal_lines (laws n) old new r read all

-- the writer behind each part of a journal's text
pub record IsPrinted (es : List Entry) (t0 t1 t2 t3 : Written) : Type 0 where
  pub start : t0 ≡ record { bytes = []; begun = false }
  pub header : t1 ≡ ended (with_words t0 (header_words (codes "journal")))
  pub entries : t2 ≡ with_lines t1 (body es)
  pub end : t3 ≡ ended (with_words t2 end_words)

pub text_is : (es : List Entry) (t0 t1 t2 t3 : Written) → IsPrinted es t0 t1 t2 t3 → t3.bytes ≡ text_of es
unfolding text_of
text_is es t0 t1 t2 t3 is =
    let two : t3 ≡ with_lines t1 (body es ++ end_words ∷ []) = is.end ∙ ap (λ (t : Written). ended (with_words t end_words)) is.entries ∙ sym (with_lines-append t1 (body es) (end_words ∷ [])) in
    let one : t3 ≡ with_lines t0 (journal_lines es) = two ∙ ap (λ (t : Written). with_lines t (body es ++ end_words ∷ [])) is.header in
    ap (λ (t : Written). t.bytes) (one ∙ ap (λ (t : Written). with_lines t (journal_lines es)) is.start) ∙ lines_written [] (journal_lines es)

-- an entry that was written, and those behind it
pub one_put : (before after total : Written) (entry : Entry) (behind : List Entry) → after ≡ with_lines before (entry_lines entry) → with_lines before (body (entry ∷ behind)) ≡ total → with_lines after (body behind) ≡ total
one_put before after total entry behind put so_far =
    ap (λ (t : Written). with_lines t (body behind)) put ∙ sym (with_lines-append before (entry_lines entry) (body behind)) ∙ so_far
