-- What a line that was read adds: the entries so far keep having a text, and the text grows by the line.
use Rattle.std.proofs.Common.{◌≡◌, ℕ, inl, inr, Bool, true, false, cond, List, [], ◌∷◌, ◌++◌, map, Option, Some, None, Result, Ok, refl, sym, ap, subst, ◌∙◌, append_assoc}
use Rattle.std.specs.Prelude.{codes}
use Rattle.std.specs.Option.{option_to_list}
use Rattle.std.specs.Str.{bytes_eq}
use Rattle.std.proofs.lemmas.List.{append-nil, map_push}
use Rattle.tp_base.proofs.Each.{each_append, each_left, each_push, each_right}
use Rattle.tp_entry.specs.Journals.{IsEntry, IsJournal}
use Rattle.tp_entry.specs.Kinds.{message, no_word, row}
use Rattle.tp_entry.specs.Meaning.{all_of, begun, entry_at, line_of, output_at, with_entry, with_output}
use Rattle.tp_entry.specs.Print.{body, entry_lines, entry_words, output_words}
use Rattle.tp_entry.specs.declared.draft.Draft.{Draft}
use Rattle.tp_entry.specs.declared.fault.JournalCause.{JournalCause}
use Rattle.tp_entry.specs.declared.fault.JournalCause.TheVariants.{Word}
use Rattle.tp_rules.specs.declared.event.Entry.{Entry}
use Rattle.tp_text.specs.Framing.{end_words}
use Rattle.tp_text.specs.Steps.{◌>>=◌}
use Rattle.tp_text.proofs.LinesFound as framed
use Rattle.tp_text.proofs.Plain.{same_bytes}
use Rattle.tp_text.proofs.Rowed.{none_is}
use Rattle.tp_text.proofs.Stepped.{bind_ok, chosen, ok_is}
use Rattle.tp_wire.specs.Ranges.{IsInRange}
use Rattle.tp_wire.specs.declared.message.Message.{Message}
use Rattle.tp_entry.proofs.Evented.{entry_is}
use Rattle.tp_entry.proofs.Worded.{row_is}

abbrev pub Words : Type 0
Words = List (List ℕ)

abbrev Answer : Type 0
Answer = Result (Bool × Draft) JournalCause

-- ---- the text of more entries

pub body_append : (xs ys : List Entry) → body (xs ++ ys) ≡ body xs ++ body ys
body_append [] ys = refl
body_append (x ∷ xs) ys = ap (λ (ls : List Words). entry_lines x ++ ls) (body_append xs ys) ∙ sym (append_assoc (entry_lines x) (body xs) (body ys))

body_one : (entry : Entry) → body (entry ∷ []) ≡ entry_lines entry
body_one entry = append-nil (entry_lines entry)

entry_grows : (es : List Entry) (entry : Entry) → entry.outputs ≡ [] → body (es ++ entry ∷ []) ≡ body es ++ entry_words entry ∷ []
entry_grows es entry none =
    let alone : entry_lines entry ≡ entry_words entry ∷ [] = ap (λ (ms : List Message). entry_words entry ∷ map output_words ms) none in
    body_append es (entry ∷ []) ∙ ap (λ (ls : List Words). body es ++ ls) (body_one entry ∙ alone)

abbrev pub with_message : Entry → Message → Entry
with_message last m = record last { outputs = last.outputs ++ m ∷ [] }

output_grows : (es : List Entry) (last : Entry) (m : Message) → body (es ++ with_message last m ∷ []) ≡ body (es ++ last ∷ []) ++ output_words m ∷ []
output_grows es last m =
    let more : entry_lines (with_message last m) ≡ entry_lines last ++ output_words m ∷ [] = ap (λ (ls : List Words). entry_words last ∷ ls) (map_push output_words last.outputs m) in
    body_append es (with_message last m ∷ []) ∙ ap (λ (ls : List Words). body es ++ ls) (body_one (with_message last m) ∙ more)
    ∙ sym (append_assoc (body es) (entry_lines last) (output_words m ∷ []))
    ∙ ap (λ (ls : List Words). ls ++ output_words m ∷ []) (sym (body_append es (last ∷ []) ∙ ap (λ (ls : List Words). body es ++ ls) (body_one last)))

-- ---- what a line did

-- the entries so far grew by a line
record Grows (before after : Draft) (words : Words) : Type 0 where
  pub journal : IsJournal (all_of after)
  pub text : body (all_of after) ≡ body (all_of before) ++ words ∷ []

abbrev pub IsDraft : Draft → Type 0
IsDraft d = IsJournal (all_of d)

abbrev pub body_of : Draft → List Words
body_of d = body (all_of d)

-- a line that was read: it grew the entries so far, or it is `end`
abbrev pub Begun : Draft → Words → Bool × Draft → Type 0
Begun d words x = framed.Begun IsDraft body_of end_words d words x

grew_by : (d after : Draft) (words : Words) (x : Bool × Draft) → (true, after) ≡ x → Grows d after words → Begun d words x
grew_by d after words x same grown = framed.grew after same grown.journal grown.text

with_last : (d : Draft) (last : Entry) → d.last ≡ Some last → all_of d ≡ d.entries ++ last ∷ []
with_last d last is = ap (λ (o : Option Entry). d.entries ++ option_to_list o) is

push_message : (last : Entry) (m : Message) → IsEntry last → IsInRange m → IsEntry (with_message last m)
push_message last m ok fits = record { actor = ok.actor; event = ok.event; outputs = each_push IsInRange last.outputs m ok.outputs fits }

output_said : (d : Draft) (words : Words) (after : Draft) → IsJournal (all_of d) → output_at d words ≡ Ok after → Grows d after (codes ">" ∷ words)
unfolding output_at
output_said d words after is e = go d.last refl e
  where
    go : (o : Option Entry) → d.last ≡ o → (begun o >>= λ last. row (message ∷ []) words >>= λ said. Ok (with_output d last said.0)) ≡ Ok after → Grows d after (codes ">" ∷ words)
    go None none e' = let wrong : ⊥ = cc in absurd wrong
    go (Some last) some e' =
        let a = bind_ok (row (message ∷ []) words) (λ said. Ok (with_output d last said.0)) after e' in
        let r = row_is (message ∷ []) (tt, tt) words a.0 a.1 in
        let m : Message = a.0.0 in
        let text : codes ">" ∷ words ≡ output_words m = ap (λ (ws : Words). codes ">" ∷ ws) r.0 in
        let before : IsJournal (d.entries ++ last ∷ []) = subst IsJournal (with_last d last some) is in
        let journal : IsJournal (d.entries ++ with_message last m ∷ []) = each_append IsEntry d.entries (with_message last m ∷ []) (each_left IsEntry d.entries (last ∷ []) before) (push_message last m (each_right IsEntry d.entries (last ∷ []) before).0 r.1.0, tt) in
        let grown : body (d.entries ++ with_message last m ∷ []) ≡ body (all_of d) ++ (codes ">" ∷ words) ∷ [] = output_grows d.entries last m ∙ ap (λ (es : List Entry). body es ++ output_words m ∷ []) (sym (with_last d last some)) ∙ ap (λ (ws : Words). body (all_of d) ++ ws ∷ []) (sym text) in
        subst (λ (y : Draft). Grows d y (codes ">" ∷ words)) (ok_is JournalCause (with_output d last m) after a.2) (record { journal = journal; text = grown })

entry_said : (d : Draft) (word : List ℕ) (words : Words) (entry : Entry) → IsJournal (all_of d) → entry_at word words ≡ Ok entry → Grows d (with_entry d entry) (word ∷ words)
entry_said d word words entry is e =
    let r = entry_is word words entry e in
    record {
      journal = each_push IsEntry (all_of d) entry is r.0.fits;
      text = entry_grows (all_of d) entry r.1 ∙ ap (λ (ws : Words). body (all_of d) ++ ws ∷ []) (sym r.0.text);
    }

abbrev from_entry : Draft → List ℕ → Words → Answer
from_entry d word words = entry_at word words >>= λ entry. Ok (true, with_entry d entry)

abbrev from_end : Draft → List ℕ → Words → Answer
from_end d word words = cond (bytes_eq word (codes "end")) (no_word words >>= λ _. Ok (false, d)) (from_entry d word words)

at_entry : (d : Draft) (word : List ℕ) (words : Words) (x : Bool × Draft) → IsJournal (all_of d) → from_entry d word words ≡ Ok x → Begun d (word ∷ words) x
at_entry d word words x is e =
    let a = bind_ok (entry_at word words) (λ entry. Ok (true, with_entry d entry)) x e in
    grew_by d (with_entry d a.0) (word ∷ words) x (ok_is JournalCause (true, with_entry d a.0) x a.2) (entry_said d word words a.0 is a.1)

at_end : (d : Draft) (word : List ℕ) (words : Words) (x : Bool × Draft) → IsJournal (all_of d) → from_end d word words ≡ Ok x → Begun d (word ∷ words) x
at_end d word words x is e = elim (chosen (bytes_eq word (codes "end")) (no_word words >>= λ _. Ok (false, d)) (from_entry d word words) (Ok x) e) [
  | inl p ↦
      let a = bind_ok (no_word words) (λ _. Ok (false, d)) x p.1 in
      framed.ended (ok_is JournalCause (false, d) x a.2) (ap (λ (w : List ℕ). w ∷ words) (same_bytes word (codes "end") p.0) ∙ ap (λ (ws : Words). codes "end" ∷ ws) (none_is Word words a.0 a.1))
  | inr q ↦ at_entry d word words x is q.1
]

pub line_is : (d : Draft) (words : Words) (x : Bool × Draft) → IsJournal (all_of d) → line_of d words ≡ Ok x → Begun d words x
unfolding line_of
line_is d [] x is e = let wrong : ⊥ = cc in absurd wrong
line_is d (word ∷ words) x is e = elim (chosen (bytes_eq word (codes ">")) (output_at d words >>= λ after. Ok (true, after)) (from_end d word words) (Ok x) e) [
  | inl p ↦
      let a = bind_ok (output_at d words) (λ after. Ok (true, after)) x p.1 in
      let g = output_said d words a.0 is a.1 in
      let same : codes ">" ≡ word = sym (same_bytes word (codes ">") p.0) in
      grew_by d a.0 (word ∷ words) x (ok_is JournalCause (true, a.0) x a.2) (subst (λ (w : List ℕ). Grows d a.0 (w ∷ words)) same g)
  | inr q ↦ at_end d word words x is q.1
]
