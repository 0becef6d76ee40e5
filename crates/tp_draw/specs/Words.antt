-- What the words choose: `from N`, `to N`, `only S.N`, `actors A ..`, in this order, each where it is there, and nothing else.
use Rattle.std.specs.Option.{option_and_then}
use Rattle.std.specs.Prelude.{ℕ, ◌==◌, bytes_eq, codes, if◌then◌else◌, map, string_bytes, String, List, [], ◌∷◌, Option, Some, None, option_map, Result, Ok, Err}
use Rattle.tp_base.specs.declared.names.ActorName.{ActorName}
use Rattle.tp_base.specs.declared.names.ActorName.TheVariants.{Process, Executor, Session}
use Rattle.tp_base.specs.declared.names.CommandId.{CommandId}
use Rattle.tp_base.specs.declared.names.Site.{Site}
use Rattle.tp_picture.specs.declared.view.View.{View}
use Rattle.tp_text.specs.Lines.{halves}
use Rattle.tp_text.specs.Names.{id_at, site_at}
use Rattle.tp_text.specs.Numbers.{number_of}
use Rattle.tp_text.specs.declared.numbers.NumberFault.{NumberFault}

-- ---- names

abbrev pub told : Result ℕ NumberFault → Option ℕ
told (Ok n) = Some n
told (Err fault) = None

abbrev pub number : ℕ → List ℕ → Option ℕ
number limit word = told (number_of limit word)

abbrev pub both : Option ℕ → Option ℕ → Option (ℕ × ℕ)
both None n = None
both (Some m) None = None
both (Some m) (Some n) = Some (m, n)

abbrev pub both_in : ℕ → Option (List ℕ × List ℕ) → Option (ℕ × ℕ)
both_in limit None = None
both_in limit (Some pair) = both (number 255 pair.0) (number limit pair.1)

-- two numbers with a point between them, the second up to a limit
unfoldable pub dotted_in : ℕ → List ℕ → Option (ℕ × ℕ)
dotted_in limit word = both_in limit (halves 46 word)

abbrev pub site_of : List ℕ → Option Site
site_of word = option_map site_at (dotted_in 255 word)

abbrev pub id_of : List ℕ → Option CommandId
id_of word = option_map id_at (dotted_in 4294967295 word)

abbrev pub session_of : List ℕ → Option ActorName
session_of word = option_map (λ s. Session (record { 0 = s })) (number 255 word)

-- `p` and a site, `e` and a site, or `s` and a number
abbrev pub actor_of : List ℕ → Option ActorName
actor_of [] = None
actor_of (letter ∷ word) =
    if letter == 112 then option_map (λ s. Process s) (site_of word)
    else (if letter == 101 then option_map (λ s. Executor s) (site_of word)
    else (if letter == 115 then session_of word else None))

abbrev pub with_first : ActorName → Option (List ActorName) → Option (List ActorName)
with_first a actors = option_map (λ more. a ∷ more) actors

-- the actors that the words name, each of them
abbrev pub actors_of : List (List ℕ) → Option (List ActorName)
actors_of [] = Some []
actors_of (word ∷ words) = option_and_then (λ a. with_first a (actors_of words)) (actor_of word)

-- ---- choices

-- the word behind a name, if that is the first, and the words behind both
abbrev pub valued : List ℕ → List (List ℕ) → Option (List ℕ) × List (List ℕ)
valued name [] = (None, [])
valued name (word ∷ []) = (None, word ∷ [])
valued name (word ∷ value ∷ words) = if bytes_eq word name then (Some value, words) else (None, word ∷ value ∷ words)

-- a number, or another where there is no word
abbrev pub number_or : ℕ → Option (List ℕ) → Option ℕ
number_or usual None = Some usual
number_or usual (Some word) = number 4294967295 word

abbrev pub only_in : Option (List ℕ) → Option (Option CommandId)
only_in None = Some None
only_in (Some word) = option_map (λ id. Some id) (id_of word)

abbrev pub actors_in : List (List ℕ) → Option (List ActorName)
actors_in [] = Some []
actors_in (word ∷ []) = None
actors_in (word ∷ name ∷ names) = if bytes_eq word (codes "actors") then actors_of (name ∷ names) else None

abbrev pub view : Option ℕ → Option ℕ → Option (Option CommandId) → Option (List ActorName) → Option View
view None to only actors = None
view (Some from) None only actors = None
view (Some from) (Some to) None actors = None
view (Some from) (Some to) (Some only) None = None
view (Some from) (Some to) (Some only) (Some actors) = Some (record { from = from; to = to; only = only; actors = actors })

-- the three choices in turn, each with the words behind it
abbrev pub view_in : List (List ℕ) → Option View
view_in words =
    let from = valued (codes "from") words in
    let to = valued (codes "to") from.1 in
    let only = valued (codes "only") to.1 in
    view (number_or 0 from.0) (number_or 18446744073709551615 to.0) (only_in only.0) (actors_in only.1)

-- the view that the words choose, if they choose one
unfoldable pub view_of : {Z : Type 0} → List (String Z) → Option View
view_of words = view_in (map string_bytes words)
