-- The kinds of words in a script's lines. Each kind has a line in each of the four equations below: what a word
-- of it says, what can be said, the one word that says it, and what a word says or else its fault.
use Rattle.hex.specs.Hex.{encode_lower}
use Rattle.std.specs.Fmt.{decimal}
use Rattle.std.specs.List.{list_any}
use Rattle.std.specs.Prelude.{ℕ, ◌≡◌, ◌==◌, ◌&&◌, Bool, true, if◌then◌else◌, List, [], ◌∷◌, ◌++◌, codes, length, Option, Some, None, Result, Ok, Err}
use Rattle.std.specs.Str.{bytes_eq}
use Rattle.tp_base.specs.Limits.{IsFrom, is_from}
use Rattle.tp_base.specs.Names.{same_id}
use Rattle.tp_base.specs.declared.names.ActorName.{ActorName}
use Rattle.tp_base.specs.declared.names.ActorName.TheVariants.{Process, Executor, Session as SessionOf}
use Rattle.tp_base.specs.declared.names.CommandId.{CommandId}
use Rattle.tp_base.specs.declared.names.Site.{Site}
use Rattle.tp_ops.specs.Limits.{IsKey, IsValue}
use Rattle.tp_ops.specs.declared.command.Command.{Command}
use Rattle.tp_script.specs.declared.fault.ScriptCause.{ScriptCause}
use Rattle.tp_script.specs.declared.fault.ScriptCause.TheVariants.{Word, Number, Shape, Key, Value, Session}
use Rattle.tp_text.specs.Hexadecimal.{hex_of}
use Rattle.tp_text.specs.Lines.{halves}
use Rattle.tp_text.specs.Names.{actor_word, id_at, id_word, site_at, site_word}
use Rattle.tp_text.specs.Numbers.{number_at, number_of}
use Rattle.tp_text.specs.Rows as rows
use Rattle.tp_text.specs.Steps.{◌>>=◌, ◌>>◌, else_cause, need}
use Rattle.tp_topology.specs.Shape.{Shape as StoreShape, IsSiteOf, is_site_of}

pub data Kind : Type 0 where
  number : ℕ → ℕ → Kind  -- a number from the first to the second
  literal : List ℕ → Kind  -- this word alone
  key : Kind  -- hexadecimal of 1 to 32 bytes
  value : Kind  -- hexadecimal of 1 to 64 bytes, or `-` for the empty value
  site : StoreShape → Kind  -- `<p>.<k>`, a site of the shape
  id : List Command → Kind  -- `<s>.<n>`, one of the commands
  actor : StoreShape → ℕ → Kind  -- `p<p>.<k>`, `e<p>.<k>` or `s<s>`, of the shape and so many sessions

-- the greatest number of a script
abbrev pub most : ℕ
most = 4294967295

abbrev pub count : Kind
count = number 0 most

abbrev pub ordinal : Kind
ordinal = number 1 most

abbrev pub times : Kind
times = number 2 9

-- ---- what a word says

abbrev pub Said : Kind → Type 0
Said (number low high) = ℕ
Said (literal text) = Unit {0}
Said key = List ℕ
Said value = List ℕ
Said (site shape) = Site
Said (id commands) = CommandId
Said (actor shape sessions) = ActorName

-- ---- what can be said

abbrev pub IsActorIn : StoreShape → ℕ → ActorName → Type 0
IsActorIn shape sessions (Process s) = IsSiteOf shape s
IsActorIn shape sessions (Executor s) = IsSiteOf shape s
IsActorIn shape sessions (SessionOf s) = IsFrom 1 sessions s.0

abbrev pub IsSaid : (k : Kind) → Said k → Type 0
IsSaid (number low high) n = IsFrom low high n
IsSaid (literal text) u = Unit {0}
IsSaid key bytes = IsKey bytes
IsSaid value bytes = IsValue bytes
IsSaid (site shape) s = IsSiteOf shape s
IsSaid (id commands) i = list_any (λ c. same_id c.id i) commands ≡ true
IsSaid (actor shape sessions) a = IsActorIn shape sessions a

-- ---- the one word that says it

abbrev pub value_word : List ℕ → List ℕ
value_word [] = codes "-"
value_word (b ∷ bytes) = encode_lower (b ∷ bytes)

abbrev pub word_of : (k : Kind) → Said k → List ℕ
word_of (number low high) n = decimal n
word_of (literal text) u = text
word_of key bytes = encode_lower bytes
word_of value bytes = value_word bytes
word_of (site shape) s = site_word s
word_of (id commands) i = id_word i
word_of (actor shape sessions) a = actor_word a

-- ---- what a word says, or its fault

unfoldable pub bytes_at : ScriptCause → ℕ → List ℕ → Result (List ℕ) ScriptCause
bytes_at cause longest word = do
  bytes ← else_cause cause (hex_of word)
  need (is_from 1 longest (length bytes)) cause
  Ok bytes

unfoldable pub value_at : List ℕ → Result (List ℕ) ScriptCause
value_at word = if bytes_eq word (codes "-") then Ok [] else bytes_at Value 64 word

abbrev pub numbers_at : Option (List ℕ × List ℕ) → Result (ℕ × ℕ) ScriptCause
numbers_at None = Err Word
numbers_at (Some pair) = do
  m ← else_cause Word (number_of most pair.0)
  n ← else_cause Word (number_of most pair.1)
  Ok (m, n)

unfoldable pub dotted_at : List ℕ → Result (ℕ × ℕ) ScriptCause
dotted_at word = numbers_at (halves 46 word)

unfoldable pub read_site : StoreShape → List ℕ → Result Site ScriptCause
read_site shape word = do
  pair ← dotted_at word
  need (is_site_of shape (site_at pair)) Shape
  Ok (site_at pair)

abbrev pub is_there : List Command → CommandId → Bool
is_there commands i = list_any (λ c. same_id c.id i) commands

unfoldable pub read_id : List Command → List ℕ → Result CommandId ScriptCause
read_id commands word = do
  pair ← dotted_at word
  need (is_there commands (id_at pair)) Session
  Ok (id_at pair)

unfoldable pub read_session : ℕ → List ℕ → Result ActorName ScriptCause
read_session sessions word = do
  s ← else_cause Word (number_of most word)
  need (is_from 1 sessions s) Session
  Ok (SessionOf (record { 0 = s }))

unfoldable pub read_actor : StoreShape → ℕ → List ℕ → Result ActorName ScriptCause
read_actor shape sessions [] = Err Word
read_actor shape sessions (letter ∷ word) =
    if letter == 112 then (read_site shape word >>= λ s. Ok (Process s))
    else (if letter == 101 then (read_site shape word >>= λ s. Ok (Executor s))
    else (if letter == 115 then read_session sessions word else Err Word))

abbrev pub read_word : (k : Kind) → List ℕ → Result (Said k) ScriptCause
read_word (number low high) word = number_at Number low high word
read_word (literal text) word = need (bytes_eq word text) Word
read_word key word = bytes_at Key 32 word
read_word value word = value_at word
read_word (site shape) word = read_site shape word
read_word (id commands) word = read_id commands word
read_word (actor shape sessions) word = read_actor shape sessions word

-- ---- rows of words

abbrev pub kinds : rows.Table Kind ScriptCause
kinds = record { Said = Said; read = read_word; text = word_of; word = Word }

abbrev pub AllSaid : List Kind → Type 0
AllSaid ks = rows.AllSaid Said ks

abbrev pub take_word : (k : Kind) → List (List ℕ) → Result (Said k × List (List ℕ)) ScriptCause
take_word k words = rows.take_word kinds k words

abbrev pub no_word : List (List ℕ) → Result (Unit {0}) ScriptCause
no_word words = rows.no_word kinds words

-- words of these kinds and no others, the first fault from left to right; a missing and a further word is Word
abbrev pub row : (ks : List Kind) → List (List ℕ) → Result (AllSaid ks) ScriptCause
row ks words = rows.row kinds ks words
