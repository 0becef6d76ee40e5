-- The text of a journal is read as the journal, whatever stands behind it.
use Rattle.std.proofs.Common.{◌≡◌, ℕ, ◌+◌, ◌<◌, ◌⊎◌, inl, inr, Bool, true, false, List, [], ◌∷◌, ◌++◌, length, map, Some, Result, Ok, Err, refl, sym, ap, subst, ◌∙◌, arith, append_assoc}
use Rattle.std.specs.Prelude.{codes}
use Rattle.std.specs.Str.{bytes_eq}
use Rattle.std.proofs.lemmas.List.{append-nil}
use Rattle.tp_base.specs.Lists.{Each}
use Rattle.tp_base.specs.declared.names.ActorName.{ActorName}
use Rattle.tp_base.proofs.Each.{each_append}
use Rattle.tp_entry.specs.Journals.{IsEntry, IsJournal}
use Rattle.tp_entry.specs.Kinds.{IsActorName, IsSaid, kinds, message, read_actor, read_site, dotted_at}
use Rattle.tp_entry.specs.Meaning.{all_of, causes, entries_from, journal_at, line_of, none_yet, output_at, with_entry}
use Rattle.tp_entry.specs.Print.{body, entry_words, journal_lines, output_words}
use Rattle.tp_entry.specs.declared.draft.Draft.{Draft}
use Rattle.tp_entry.specs.declared.fault.JournalCause.{JournalCause}
use Rattle.tp_entry.specs.declared.fault.JournalCause.TheVariants.{Missing, Word}
use Rattle.tp_rules.specs.declared.event.Entry.{Entry}
use Rattle.tp_text.specs.Framing.{end_words}
use Rattle.tp_text.specs.Lines.{halves}
use Rattle.tp_text.specs.Names.{actor_word}
use Rattle.tp_text.specs.Rows.{no_more}
use Rattle.tp_text.proofs.LinesAgain as again
use Rattle.tp_text.proofs.LinesAgain.{IsLine, end_plain, header_again, header_plain, run_again, some_others}
use Rattle.tp_text.proofs.LinesFound.{joined}
use Rattle.tp_text.proofs.Plain.{plain_by, same_bytes}
use Rattle.tp_text.proofs.Rowed.{row_again, row_plain}
use Rattle.tp_wire.specs.Ranges.{IsInRange}
use Rattle.tp_wire.specs.declared.message.Message.{Message}
use Rattle.tp_entry.proofs.Evented.{entry_again, event_plain, quiet}
use Rattle.tp_entry.proofs.Grown.{Words, with_message}
use Rattle.tp_entry.proofs.Worded.{IsKind, actor_plain, actor_written, laws}

-- ---- lines that are read one after the other

-- from a draft, lines lead to a journal
record Runs (d : Draft) (lines : List Words) (es : List Entry) : Type 0 where
  end : Draft
  says : all_of end ≡ es
  run : again.Runs line_of d lines end

one_first : (d mid : Draft) (words : Words) (lines : List Words) (es : List Entry) → line_of d words ≡ Ok (true, mid) → Runs mid lines es → Runs d (words ∷ lines) es
one_first d mid words lines es read rest = record { end = rest.end; says = rest.says; run = (mid, read, rest.run) }

abbrev upto : List Entry → Entry → Draft
upto es last = record { entries = es; last = Some last }

cases : (b : Bool) → (b ≡ true) ⊎ (b ≡ false)
cases true = inl refl
cases false = inr refl

-- the words `>` and `end` name no actor
no_mark : read_actor (codes ">") ≡ Err Word
unfolding read_actor
no_mark = refl

no_end : read_actor (codes "end") ≡ Err Word
unfolding read_actor read_site dotted_at halves
no_end = refl

is_other : (a : ActorName) (word : List ℕ) → IsActorName a → read_actor word ≡ Err Word → bytes_eq (actor_word a) word ≡ false
is_other a word fits none = elim (cases (bytes_eq (actor_word a) word)) [
  | inl same ↦
      let text : actor_word a ≡ word = same_bytes (actor_word a) word same in
      let read = sym (actor_written a fits) ∙ ap read_actor text ∙ none in
      let wrong : ⊥ = cc in
      absurd wrong
  | inr other ↦ other
]

abbrev Answer : Type 0
Answer = Result (Bool × Draft) JournalCause

entry_read : (d : Draft) (entry : Entry) → IsEntry entry → line_of d (entry_words entry) ≡ Ok (true, with_entry d (quiet entry.actor entry.event))
unfolding line_of
entry_read d entry fits =
    rw (is_other entry.actor (codes ">") fits.actor no_mark, is_other entry.actor (codes "end") fits.actor no_end, entry_again entry fits) refl

output_read : (es : List Entry) (last : Entry) (m : Message) → IsInRange m → line_of (upto es last) (output_words m) ≡ Ok (true, upto es (with_message last m))
unfolding line_of output_at
output_read es last m fits = rw (row_again kinds IsKind IsSaid laws (message ∷ []) (tt, tt) (m, tt) (fits, tt)) refl

abbrev with_outputs : Entry → List Message → Entry
with_outputs last ms = record last { outputs = last.outputs ++ ms }

outputs_run : (es : List Entry) (last : Entry) (ms : List Message) (lines : List Words) (all : List Entry) → Each IsInRange ms → Runs (upto es (with_outputs last ms)) lines all → Runs (upto es last) (map output_words ms ++ lines) all
outputs_run es last [] lines all fit run = subst (λ (ms : List Message). Runs (upto es (record last { outputs = ms })) lines all) (append-nil last.outputs) run
outputs_run es last (m ∷ ms) lines all fit run =
    let mid : Entry = with_message last m in
    let same : (last.outputs ++ m ∷ []) ++ ms ≡ last.outputs ++ m ∷ ms = append_assoc last.outputs (m ∷ []) ms in
    let rest : Runs (upto es (with_outputs mid ms)) lines all = subst (λ (os : List Message). Runs (upto es (record last { outputs = os })) lines all) (sym same) run in
    one_first (upto es last) (upto es mid) (output_words m) (map output_words ms ++ lines) all (output_read es last m fit.0) (outputs_run es mid ms lines all fit.1 rest)

entries_run : (d : Draft) (entries : List Entry) → IsJournal entries → Runs d (body entries) (all_of d ++ entries)
entries_run d [] fit = record { end = d; says = sym (append-nil (all_of d)); run = refl }
entries_run d (entry ∷ entries) fit =
    let first : Entry = quiet entry.actor entry.event in
    let others : Runs (upto (all_of d) entry) (body entries) ((all_of d ++ entry ∷ []) ++ entries) = entries_run (upto (all_of d) entry) entries fit.1 in
    let same : (all_of d ++ entry ∷ []) ++ entries ≡ all_of d ++ entry ∷ entries = append_assoc (all_of d) (entry ∷ []) entries in
    let run : Runs (upto (all_of d) entry) (body entries) (all_of d ++ entry ∷ entries) = subst (λ (es : List Entry). Runs (upto (all_of d) entry) (body entries) es) same others in
    one_first d (upto (all_of d) first) (entry_words entry) (map output_words entry.outputs ++ body entries) (all_of d ++ entry ∷ entries) (entry_read d entry fit.0) (outputs_run (all_of d) first entry.outputs (body entries) (all_of d ++ entry ∷ entries) fit.0.outputs run)

-- ---- no spaces in the words of a line

outputs_plain : (ms : List Message) → Each IsInRange ms → Each IsLine (map output_words ms)
outputs_plain [] fit = tt
outputs_plain (m ∷ ms) fit = (((plain_by (codes ">") refl, row_plain kinds IsKind IsSaid laws (message ∷ []) (tt, tt) (m, tt) (fit.0, tt)), omega arith), outputs_plain ms fit.1)

body_plain : (entries : List Entry) → IsJournal entries → Each IsLine (body entries)
body_plain [] fit = tt
body_plain (entry ∷ entries) fit = (
  ((actor_plain entry.actor fit.0.actor, event_plain entry.event fit.0.event), omega arith),
  each_append IsLine (map output_words entry.outputs) (body entries) (outputs_plain entry.outputs fit.0.outputs) (body_plain entries fit.1),
)

pub journal_plain : (entries : List Entry) → IsJournal entries → Each IsLine (journal_lines entries)
journal_plain entries fit =
    (header_plain (codes "journal") (plain_by (codes "journal") refl), each_append IsLine (body entries) (end_words ∷ []) (body_plain entries fit) (end_plain, tt))

-- ---- the lines are read

end_read : (d : Draft) → line_of d end_words ≡ Ok (false, d)
unfolding line_of no_more
end_read d = refl

entries_again : (n : ℕ) (es : List Entry) (rest : Words) → IsJournal es → 0 < length rest → entries_from n (joined (body es ++ end_words ∷ []) ++ rest) ≡ Ok (es, rest)
unfolding entries_from
entries_again n es rest ok some =
    let run : Runs none_yet (body es) es = entries_run none_yet es ok in
    rw (run_again Missing line_of end_words n none_yet run.end (body es) rest some end_plain (end_read run.end) run.run (body_plain es ok), run.says) refl

pub journal_again : (n : ℕ) (es : List Entry) (rest : Words) → IsJournal es → 0 < length rest → journal_at n (joined (journal_lines es) ++ rest) ≡ Ok (es, rest)
unfolding journal_at
journal_again n es rest ok some =
    let others : Words = joined (body es ++ end_words ∷ []) ++ rest in
    rw (header_again (codes "journal") causes n others (plain_by (codes "journal") refl) (some_others (body es) end_words rest)) (entries_again (n + 1) es rest ok some)
