-- The kinds of words in a journal's lines. Each kind has a line in each of the four equations below: what a word
-- of it says, what can be said, the one word that says it, and what a word says or else its fault.
use Rattle.hex.specs.Hex.{encode_lower}
use Rattle.std.specs.Fmt.{decimal}
use Rattle.std.specs.Prelude.{ℕ, ◌≤◌, ◌==◌, nat_lt, if◌then◌else◌, List, [], ◌∷◌, length, Option, Some, None, Result, Ok, Err}
use Rattle.tp_base.specs.Limits.{IsFrom}
use Rattle.tp_base.specs.declared.names.ActorName.{ActorName}
use Rattle.tp_base.specs.declared.names.ActorName.TheVariants.{Process, Executor, Session}
use Rattle.tp_base.specs.declared.names.CommandId.{CommandId}
use Rattle.tp_base.specs.declared.names.Site.{Site}
use Rattle.tp_entry.specs.declared.fault.JournalCause.{JournalCause}
use Rattle.tp_entry.specs.declared.fault.JournalCause.TheVariants.{Word, Number, Hex, Wire}
use Rattle.tp_text.specs.Hexadecimal.{hex_of}
use Rattle.tp_text.specs.Lines.{halves}
use Rattle.tp_text.specs.Names.{actor_word, id_at, id_word, site_at}
use Rattle.tp_text.specs.Numbers.{number_at, number_of}
use Rattle.tp_text.specs.Rows as rows
use Rattle.tp_text.specs.Steps.{◌>>=◌, ◌>>◌, else_cause, need}
use Rattle.tp_text.specs.declared.numbers.NumberFault.{NumberFault}
use Rattle.tp_text.specs.declared.numbers.NumberFault.TheVariants.{NotANumber, NumberTooLarge}
use Rattle.tp_wire.specs.Meaning.{message_of}
use Rattle.tp_wire.specs.Spelling.{bytes_of}
use Rattle.tp_wire.specs.Ranges.{IsInRange}
use Rattle.tp_wire.specs.declared.message.Message.{Message}
use Rattle.tp_wire.specs.declared.fault.WireFault.{WireFault}

pub data Kind : Type 0 where
  number : ℕ → ℕ → Kind  -- a number from the first to the second
  id : Kind  -- `<s>.<n>`
  actor : Kind  -- `p<p>.<k>`, `e<p>.<k>` or `s<s>`
  message : Kind  -- a message's bytes in hexadecimal

-- the greatest partition, rank or session, entry or place, and other number
abbrev pub most_part : ℕ
most_part = 255

abbrev pub most_place : ℕ
most_place = 18446744073709551615

abbrev pub most : ℕ
most = 4294967295

abbrev pub place : Kind
place = number 1 most_place

abbrev pub count : Kind
count = number 0 most

-- ---- what a word says

abbrev pub Said : Kind → Type 0
Said (number low high) = ℕ
Said id = CommandId
Said actor = ActorName
Said message = Message

-- ---- what can be said

abbrev pub IsPart : ℕ → Type 0
IsPart n = n ≤ most_part

abbrev pub IsCommandName : CommandId → Type 0
IsCommandName i = IsPart i.session.0 × (i.number ≤ most)

abbrev pub IsActorName : ActorName → Type 0
IsActorName (Process s) = IsPart s.partition.0 × IsPart s.rank.0
IsActorName (Executor s) = IsPart s.partition.0 × IsPart s.rank.0
IsActorName (Session s) = IsPart s.0

abbrev pub IsSaid : (k : Kind) → Said k → Type 0
IsSaid (number low high) n = IsFrom low high n
IsSaid id i = IsCommandName i
IsSaid actor a = IsActorName a
IsSaid message m = IsInRange m

-- ---- the one word that says it

abbrev pub message_word : Message → List ℕ
message_word m = encode_lower (bytes_of m)

abbrev pub word_of : (k : Kind) → Said k → List ℕ
word_of (number low high) n = decimal n
word_of id i = id_word i
word_of actor a = actor_word a
word_of message m = message_word m

-- ---- what a word says, or its fault

-- a part that is no number spoils the word's form, also where the other part is too large
abbrev pub part : Result ℕ NumberFault → Result ℕ JournalCause
part (Ok n) = Ok n
part (Err NotANumber) = Err Word
part (Err NumberTooLarge) = Err Number

unfoldable pub parts : Result ℕ NumberFault → Result ℕ NumberFault → Result (ℕ × ℕ) JournalCause
parts (Err NotANumber) second = Err Word
parts (Err NumberTooLarge) (Err NotANumber) = Err Word
parts (Err NumberTooLarge) (Err NumberTooLarge) = Err Number
parts (Err NumberTooLarge) (Ok n) = Err Number
parts (Ok m) (Err NotANumber) = Err Word
parts (Ok m) (Err NumberTooLarge) = Err Number
parts (Ok m) (Ok n) = Ok (m, n)

abbrev pub parts_at : ℕ → ℕ → Option (List ℕ × List ℕ) → Result (ℕ × ℕ) JournalCause
parts_at first second None = Err Word
parts_at first second (Some pair) = parts (number_of first pair.0) (number_of second pair.1)

-- two numbers up to these, with a point between them
unfoldable pub dotted_at : ℕ → ℕ → List ℕ → Result (ℕ × ℕ) JournalCause
dotted_at first second word = parts_at first second (halves 46 word)

unfoldable pub read_site : List ℕ → Result Site JournalCause
read_site word = do
  pair ← dotted_at most_part most_part word
  Ok (site_at pair)

unfoldable pub read_id : List ℕ → Result CommandId JournalCause
read_id word = do
  pair ← dotted_at most_part most word
  Ok (id_at pair)

unfoldable pub read_session : List ℕ → Result ActorName JournalCause
read_session word = do
  s ← part (number_of most_part word)
  Ok (Session (record { 0 = s }))

unfoldable pub read_actor : List ℕ → Result ActorName JournalCause
read_actor [] = Err Word
read_actor (letter ∷ word) =
    if letter == 112 then (read_site word >>= λ s. Ok (Process s))
    else (if letter == 101 then (read_site word >>= λ s. Ok (Executor s))
    else (if letter == 115 then read_session word else Err Word))

abbrev pub else_wire : Result Message WireFault → Result Message JournalCause
else_wire (Ok m) = Ok m
else_wire (Err fault) = Err (Wire fault)

unfoldable pub read_message : List ℕ → Result Message JournalCause
read_message word = do
  bytes ← else_cause Hex (hex_of word)
  need (nat_lt 0 (length bytes)) Hex
  else_wire (message_of bytes)

abbrev pub read_word : (k : Kind) → List ℕ → Result (Said k) JournalCause
read_word (number low high) word = number_at Number low high word
read_word id word = read_id word
read_word actor word = read_actor word
read_word message word = read_message word

-- ---- rows of words

abbrev pub kinds : rows.Table Kind JournalCause
kinds = record { Said = Said; read = read_word; text = word_of; word = Word }

abbrev pub AllSaid : List Kind → Type 0
AllSaid ks = rows.AllSaid Said ks

abbrev pub take_word : (k : Kind) → List (List ℕ) → Result (Said k × List (List ℕ)) JournalCause
take_word k words = rows.take_word kinds k words

abbrev pub no_word : List (List ℕ) → Result (Unit {0}) JournalCause
no_word words = rows.no_word kinds words

-- words of these kinds and no others, the first fault from left to right; a missing and a further word is Word
abbrev pub row : (ks : List Kind) → List (List ℕ) → Result (AllSaid ks) JournalCause
row ks words = rows.row kinds ks words
