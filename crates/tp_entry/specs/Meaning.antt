-- What a journal's lines say: its entries and the lines behind its `end`, or the first faulty line with its first fault.
use Rattle.std.specs.Option.{option_to_list}
use Rattle.std.specs.Prelude.{ℕ, ◌+◌, Bool, true, false, if◌then◌else◌, List, [], ◌∷◌, ◌++◌, codes, Option, Some, None, Result, Ok, Err}
use Rattle.std.specs.Str.{bytes_eq}
use Rattle.tp_base.specs.declared.names.CommandId.{CommandId}
use Rattle.tp_entry.specs.Kinds.{actor, count, id, message, no_word, place, read_word, row}
use Rattle.tp_entry.specs.declared.draft.Draft.{Draft}
use Rattle.tp_entry.specs.declared.fault.JournalCause.{JournalCause}
use Rattle.tp_entry.specs.declared.fault.JournalCause.TheVariants.{Header, Newer, Missing, Word}
use Rattle.tp_rules.specs.declared.event.Entry.{Entry}
use Rattle.tp_rules.specs.declared.event.Event.{Event}
use Rattle.tp_rules.specs.declared.event.Event.TheVariants.{Deliver, Dropped, Inner}
use Rattle.tp_rules.specs.declared.event.Inner.TheVariants.{Submit, Recover, Announce, Declare, Execute, Crash}
use Rattle.tp_text.specs.Framing.{header_at, lines_from}
use Rattle.tp_text.specs.Steps.{◌>>=◌}
use Rattle.tp_text.specs.declared.fault.TextFault.{TextFault}
use Rattle.tp_text.specs.declared.framing.HeaderCauses.{HeaderCauses}
use Rattle.tp_wire.specs.declared.message.Message.{Message}

-- ---- an entry's line: an actor and an event

-- an entry and a place
unfoldable pub two_places : List (List ℕ) → Result (ℕ × ℕ) JournalCause
two_places words = do
  said ← row (place ∷ place ∷ []) words
  Ok (said.0, said.1.0)

unfoldable pub one_number : List (List ℕ) → Result ℕ JournalCause
one_number words = do
  said ← row (count ∷ []) words
  Ok said.0

unfoldable pub one_id : List (List ℕ) → Result CommandId JournalCause
one_id words = do
  said ← row (id ∷ []) words
  Ok said.0

unfoldable pub event_at : List ℕ → List (List ℕ) → Result Event JournalCause
event_at word words =
    if bytes_eq word (codes "deliver") then (two_places words >>= λ at. Ok (Deliver at.0 at.1))
    else (if bytes_eq word (codes "drop") then (two_places words >>= λ at. Ok (Dropped at.0 at.1))
    else (if bytes_eq word (codes "submit") then (one_number words >>= λ n. Ok (Inner (Submit n)))
    else (if bytes_eq word (codes "recover") then (one_id words >>= λ i. Ok (Inner (Recover i)))
    else (if bytes_eq word (codes "announce") then (no_word words >>= λ _. Ok (Inner Announce))
    else (if bytes_eq word (codes "declare") then (one_id words >>= λ i. Ok (Inner (Declare i)))
    else (if bytes_eq word (codes "execute") then (one_id words >>= λ i. Ok (Inner (Execute i)))
    else (if bytes_eq word (codes "crash") then (no_word words >>= λ _. Ok (Inner Crash))
    else Err Word)))))))

unfoldable pub event_begun : List (List ℕ) → Result Event JournalCause
event_begun [] = Err Word
event_begun (word ∷ words) = event_at word words

unfoldable pub entry_at : List ℕ → List (List ℕ) → Result Entry JournalCause
entry_at word words = do
  name ← read_word actor word
  event ← event_begun words
  Ok (record { actor = name; event = event; outputs = [] })

-- ---- the entries so far: the last one may get more outputs

abbrev pub all_of : Draft → List Entry
all_of d = d.entries ++ option_to_list d.last

abbrev pub with_entry : Draft → Entry → Draft
with_entry d entry = record { entries = all_of d; last = Some entry }

abbrev pub with_output : Draft → Entry → Message → Draft
with_output d last m = record d { last = Some (record last { outputs = last.outputs ++ m ∷ [] }) }

abbrev pub begun : Option Entry → Result Entry JournalCause
begun None = Err Word
begun (Some last) = Ok last

-- an output's line: a message of the last entry
unfoldable pub output_at : Draft → List (List ℕ) → Result Draft JournalCause
output_at d words = do
  last ← begun d.last
  said ← row (message ∷ []) words
  Ok (with_output d last said.0)

-- whether more lines follow, and the entries so far
unfoldable pub line_of : Draft → List (List ℕ) → Result (Bool × Draft) JournalCause
line_of d [] = Err Word
line_of d (word ∷ words) =
    if bytes_eq word (codes ">") then (output_at d words >>= λ after. Ok (true, after))
    else (if bytes_eq word (codes "end") then (no_word words >>= λ _. Ok (false, d))
    else (entry_at word words >>= λ entry. Ok (true, with_entry d entry)))

-- ---- all lines

-- why the first line is faulty
abbrev pub causes : HeaderCauses JournalCause
causes = record { header = Header; newer = Newer }

abbrev pub none_yet : Draft
none_yet = record { entries = []; last = None }

-- the entries of which the first line has the number n, and what stands behind `end`
unfoldable pub entries_from : ℕ → List (List ℕ) → Result (List Entry × List (List ℕ)) (TextFault JournalCause)
entries_from n lines = do
  read ← lines_from Missing line_of n none_yet lines
  Ok (all_of read.0, read.1)

-- a journal whose first line, `journal 1`, has the number n
unfoldable pub journal_at : ℕ → List (List ℕ) → Result (List Entry × List (List ℕ)) (TextFault JournalCause)
journal_at n lines = do
  first ← header_at (codes "journal") causes n lines
  entries_from (n + 1) first.1
