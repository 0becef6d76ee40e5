-- What the words ask for.
use Rattle.std.specs.Prelude.{ℕ, bytes_eq, codes, if◌then◌else◌, map, string_bytes, String, Bool, true, false, List, [], ◌∷◌, Option, Some, None, Result, Ok, Err}
use Rattle.tp_run.specs.declared.call.Call.{Call}
use Rattle.tp_run.specs.declared.call.Call.TheVariants.{Run, Trace, Step, Check, Gen, Load}
use Rattle.tp_text.specs.Numbers.{number_of}
use Rattle.tp_text.specs.declared.numbers.NumberFault.{NumberFault}

-- a call for a number
abbrev pub call_for : List ℕ → ℕ → Option Call
call_for word n = if bytes_eq word (codes "gen") then Some (Gen n) else (if bytes_eq word (codes "load") then Some (Load n) else None)

abbrev pub numbered_call : List ℕ → Result ℕ NumberFault → Option Call
numbered_call word (Ok n) = call_for word n
numbered_call word (Err fault) = None

abbrev pub single_call : List ℕ → Option Call
single_call word =
    if bytes_eq word (codes "run") then Some Run else (if bytes_eq word (codes "trace") then Some Trace else
    (if bytes_eq word (codes "step") then Some Step else (if bytes_eq word (codes "check") then Some Check else None)))

-- `run`, `trace`, `step`, `check`, `gen N` and `load N`, and nothing else
abbrev pub call_in : List (List ℕ) → Option Call
call_in (word ∷ []) = single_call word
call_in (word ∷ n ∷ []) = numbered_call word (number_of 4294967295 n)
call_in _ = None

-- the call that the words are, if they are served
unfoldable pub call_of : {Z : Type 0} → List (String Z) → Option Call
call_of words = call_in (map string_bytes words)

-- whether the input is read
abbrev pub reads : Option Call → Bool
reads None = false
reads (Some Run) = true
reads (Some Trace) = true
reads (Some Step) = true
reads (Some Check) = true
reads (Some (Gen n)) = false
reads (Some (Load n)) = false

-- whether a script is run
abbrev pub runs : Option Call → Bool
runs None = false
runs (Some Run) = true
runs (Some Trace) = true
runs (Some Step) = true
runs (Some Check) = false
runs (Some (Gen n)) = false
runs (Some (Load n)) = true

-- whether a journal is read
abbrev pub checks : Option Call → Bool
checks None = false
checks (Some Run) = false
checks (Some Trace) = false
checks (Some Step) = false
checks (Some Check) = true
checks (Some (Gen n)) = false
checks (Some (Load n)) = false

-- whether the picks choose each step of a run
abbrev pub picks : Option Call → Bool
picks None = false
picks (Some Run) = false
picks (Some Trace) = false
picks (Some Step) = true
picks (Some Check) = false
picks (Some (Gen n)) = false
picks (Some (Load n)) = true

-- whether threads serve a call
abbrev pub is_threaded : Call → Bool
is_threaded Run = true
is_threaded Trace = true
is_threaded Step = false
is_threaded Check = false
is_threaded (Gen n) = false
is_threaded (Load n) = false

-- a call that threads serve, and no other
abbrev pub threaded : Option Call → Option Call
threaded None = None
threaded (Some call) = if is_threaded call then Some call else None

-- a call that is served without threads, and no other
abbrev pub plain : Option Call → Option Call
plain None = None
plain (Some call) = if is_threaded call then None else Some call
