-- What was read as a journal is its text: each line that was read is the next line of the text.
use Rattle.std.proofs.Common.{◌≡◌, ℕ, ◌+◌, List, [], ◌∷◌, ◌++◌, Ok, sym, ap, subst, ◌∙◌}
use Rattle.std.specs.List.{join_with_byte}
use Rattle.std.specs.Prelude.{codes}
use Rattle.tp_entry.specs.Journals.{IsJournal}
use Rattle.tp_entry.specs.Meaning.{all_of, causes, entries_from, journal_at, line_of, none_yet}
use Rattle.tp_entry.specs.Print.{body, journal_lines}
use Rattle.tp_entry.specs.declared.fault.JournalCause.{JournalCause}
use Rattle.tp_entry.specs.declared.fault.JournalCause.TheVariants.{Missing}
use Rattle.tp_rules.specs.declared.event.Entry.{Entry}
use Rattle.tp_text.specs.Framing.{end_words, header_at, header_words, lines_from}
use Rattle.tp_text.specs.declared.fault.TextFault.{TextFault}
use Rattle.tp_text.proofs.LinesFound.{header_found, joined, lines_found}
use Rattle.tp_text.proofs.Stepped.{bind_ok, ok_is}
use Rattle.tp_entry.proofs.Grown.{IsDraft, Words, body_of, line_is}

entries_found : (n : ℕ) (lines : Words) (x : List Entry × Words) → entries_from n lines ≡ Ok x → IsJournal x.0 × (lines ≡ joined (body x.0 ++ end_words ∷ []) ++ x.1)
unfolding entries_from
entries_found n lines x e =
    let a = bind_ok (lines_from Missing line_of n none_yet lines) (λ read. Ok (all_of read.0, read.1)) x e in
    let are = lines_found Missing line_of IsDraft body_of end_words line_is n none_yet lines a.0 tt a.1 in
    let stood : lines ≡ joined (body (all_of a.0.0) ++ end_words ∷ []) ++ a.0.1 = are.stood ∙ ap (λ (ls : List Words). joined (ls ++ end_words ∷ []) ++ a.0.1) (sym are.text) in
    subst (λ (y : List Entry × Words). IsJournal y.0 × (lines ≡ joined (body y.0 ++ end_words ∷ []) ++ y.1)) (ok_is (TextFault JournalCause) (all_of a.0.0, a.0.1) x a.2) (are.draft, stood)

-- what was read is a journal that has a text, and the lines are those of its text
pub journal_found : (n : ℕ) (lines : Words) (x : List Entry × Words) → journal_at n lines ≡ Ok x → IsJournal x.0 × (lines ≡ joined (journal_lines x.0) ++ x.1)
unfolding journal_at
journal_found n lines x e =
    let a = bind_ok (header_at (codes "journal") causes n lines) (λ first. entries_from (n + 1) first.1) x e in
    let others = entries_found (n + 1) a.0.1 x a.2 in
    (others.0, header_found (codes "journal") causes n lines a.0 a.1 ∙ ap (λ (ls : Words). join_with_byte 32 (header_words (codes "journal")) ∷ ls) others.1)
