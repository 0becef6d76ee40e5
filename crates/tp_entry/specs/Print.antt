-- The one text of a journal, by its lines and their words.
use Rattle.std.specs.Fmt.{decimal}
use Rattle.std.specs.Prelude.{ℕ, List, [], ◌∷◌, ◌++◌, codes, map}
use Rattle.tp_entry.specs.Kinds.{message_word}
use Rattle.tp_rules.specs.declared.event.Entry.{Entry}
use Rattle.tp_rules.specs.declared.event.Event.{Event}
use Rattle.tp_rules.specs.declared.event.Event.TheVariants.{Deliver, Dropped, Inner}
use Rattle.tp_rules.specs.declared.event.Inner.TheVariants.{Submit, Recover, Announce, Declare, Execute, Crash}
use Rattle.tp_text.specs.Framing.{end_words, header_words}
use Rattle.tp_text.specs.Names.{actor_word, id_word}
use Rattle.tp_text.specs.Writing.{lines_text}
use Rattle.tp_wire.specs.declared.message.Message.{Message}

abbrev pub event_words : Event → List (List ℕ)
event_words (Deliver entry place) = codes "deliver" ∷ decimal entry ∷ decimal place ∷ []
event_words (Dropped entry place) = codes "drop" ∷ decimal entry ∷ decimal place ∷ []
event_words (Inner (Submit n)) = codes "submit" ∷ decimal n ∷ []
event_words (Inner (Recover id)) = codes "recover" ∷ id_word id ∷ []
event_words (Inner Announce) = codes "announce" ∷ []
event_words (Inner (Declare id)) = codes "declare" ∷ id_word id ∷ []
event_words (Inner (Execute id)) = codes "execute" ∷ id_word id ∷ []
event_words (Inner Crash) = codes "crash" ∷ []

abbrev pub entry_words : Entry → List (List ℕ)
entry_words entry = actor_word entry.actor ∷ event_words entry.event

abbrev pub output_words : Message → List (List ℕ)
output_words m = codes ">" ∷ message_word m ∷ []

-- an entry's line, and one for each of its outputs
abbrev pub entry_lines : Entry → List (List (List ℕ))
entry_lines entry = entry_words entry ∷ map output_words entry.outputs

-- the lines between the first and `end`
abbrev pub body : List Entry → List (List (List ℕ))
body [] = []
body (entry ∷ entries) = entry_lines entry ++ body entries

abbrev pub journal_lines : List Entry → List (List (List ℕ))
journal_lines entries = header_words (codes "journal") ∷ (body entries ++ end_words ∷ [])

-- its bytes
unfoldable pub text_of : List Entry → List ℕ
text_of entries = lines_text (journal_lines entries)
