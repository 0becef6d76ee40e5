-- The lines of a script behind the first: what the words behind a line's first word say, or the first fault.
use Rattle.std.specs.List.{list_any}
use Rattle.std.specs.Prelude.{ℕ, zero, suc, ◌-◌, ◌/◌, ◌==◌, ◌&&◌, nat_le, nat_lt, not, Bool, if◌then◌else◌, List, [], ◌∷◌, ◌++◌, codes, length, Option, Some, None, Result, Ok, Err, slice_get, take}
use Rattle.std.specs.Option.{option_map}
use Rattle.std.specs.Str.{bytes_eq}
use Rattle.tp_base.specs.Limits.{is_from}
use Rattle.tp_base.specs.Tables.{nth}
use Rattle.tp_base.specs.declared.names.Rank.{Rank}
use Rattle.tp_ops.specs.declared.command.Command.{Command}
use Rattle.tp_ops.specs.declared.operation.Op.{Op}
use Rattle.tp_ops.specs.declared.operation.Op.TheVariants.{Get, Put, Del, Cas}
use Rattle.tp_script.specs.Accepted.{commands_by, is_double}
use Rattle.tp_script.specs.Kinds.{actor, count, id, key, literal, ordinal, row, site, take_word, times, value}
use Rattle.tp_script.specs.declared.fault.ScriptCause.{ScriptCause}
use Rattle.tp_script.specs.declared.fault.ScriptCause.TheVariants.{Word, Shape, Session, Duplicate, Limit}
use Rattle.tp_script.specs.declared.script.PlanLine.{PlanLine}
use Rattle.tp_script.specs.declared.script.PlanLine.TheVariants.{Crash, Recover, Lose, Repeat, RepeatAll}
use Rattle.tp_script.specs.declared.script.Script.{Script}
use Rattle.tp_text.specs.Steps.{◌>>=◌, ◌>>◌, need}
use Rattle.tp_topology.specs.Shape.{Shape as StoreShape}

-- room for one more than there are, up to a limit
abbrev pub room : ℕ → ℕ → Result (Unit {0}) ScriptCause
room there limit = need (nat_lt there limit) (Limit (suc limit) limit)

-- ---- `shape`: partitions, replicas, failures

abbrev pub is_shape : ℕ → ℕ → ℕ → Bool
is_shape partitions replicas failures = is_from 1 4 partitions && is_from 3 7 replicas && is_from 1 ((replicas - 1) / 2) failures

unfoldable pub shape_line : List (List ℕ) → Result StoreShape ScriptCause
shape_line words = do
  said ← row (count ∷ count ∷ count ∷ []) words
  need (is_shape said.0 said.1.0 said.1.1.0) Shape
  Ok (record { partitions = said.0; replicas = said.1.0; failures = said.1.1.0 })

-- ---- `session`: its number, its home

unfoldable pub session_line : Script → List (List ℕ) → Result Script ScriptCause
session_line script words = do
  said ← row (count ∷ count ∷ []) words
  need ((said.0 == suc (length script.homes)) && is_from 1 script.topology.replicas said.1.0) Session
  room (length script.homes) 16
  Ok (record script { homes = script.homes ++ record { 0 = said.1.0 } ∷ [] })

-- ---- operations, with `;` between them

unfoldable pub get_at : List (List ℕ) → Result (Op × List (List ℕ)) ScriptCause
get_at words = do
  k ← take_word key words
  Ok (Get k.0, k.1)

unfoldable pub put_at : List (List ℕ) → Result (Op × List (List ℕ)) ScriptCause
put_at words = do
  k ← take_word key words
  v ← take_word value k.1
  Ok (Put k.0 v.0, v.1)

unfoldable pub del_at : List (List ℕ) → Result (Op × List (List ℕ)) ScriptCause
del_at words = do
  k ← take_word key words
  Ok (Del k.0, k.1)

unfoldable pub cas_at : List (List ℕ) → Result (Op × List (List ℕ)) ScriptCause
cas_at words = do
  k ← take_word key words
  old ← take_word value k.1
  new ← take_word value old.1
  Ok (Cas k.0 old.0 new.0, new.1)

unfoldable pub op_at : List (List ℕ) → Result (Op × List (List ℕ)) ScriptCause
op_at [] = Err Word
op_at (word ∷ words) =
    if bytes_eq word (codes "get") then get_at words
    else (if bytes_eq word (codes "put") then put_at words
    else (if bytes_eq word (codes "del") then del_at words
    else (if bytes_eq word (codes "cas") then cas_at words else Err Word)))

-- behind an operation: the end, or `;` and more
unfoldable pub after_op : List (List ℕ) → Result (Option (List (List ℕ))) ScriptCause
after_op [] = Ok None
after_op (word ∷ words) = if bytes_eq word (codes ";") then Ok (Some words) else Err Word

unfoldable pub op_and_after : List (List ℕ) → Result (Op × Option (List (List ℕ))) ScriptCause
op_and_after words = do
  op ← op_at words
  more ← after_op op.1
  Ok (op.0, more)

abbrev pub with_others : Op → Option (Result (List Op) ScriptCause) → Result (List Op) ScriptCause
with_others op None = Ok (op ∷ [])
with_others op (Some others) = others >>= λ ops. Ok (op ∷ ops)

-- at most n operations; called with as many words as there are, of which each operation takes some
unfoldable pub ops_at : ℕ → List (List ℕ) → Result (List Op) ScriptCause
ops_at zero words = Err Word
ops_at (suc n) words = do
  first ← op_and_after words
  with_others first.0 (option_map (λ ws. ops_at n ws) first.1)

-- the first sixteen of them, and how many there are
unfoldable pub ops_and_count : List (List ℕ) → Result (List Op × ℕ) ScriptCause
ops_and_count words = do
  ops ← ops_at (length words) words
  Ok (take 16 ops, length ops)

-- ---- `command`: its session, operations

abbrev pub declared : {A : Type 0} → Option A → Result A ScriptCause
declared (Some a) = Ok a
declared None = Err Session

-- the number of a session's next command
unfoldable pub next_number : List Command → ℕ → ℕ
next_number commands s = suc (length (commands_by s commands))

abbrev pub next_command : List Command → ℕ → Rank → List Op → Command
next_command commands s home ops = record {
  id = record { session = record { 0 = s }; number = next_number commands s };
  home = home;
  ops = ops;
}

unfoldable pub command_line : Script → List (List ℕ) → Result Script ScriptCause
command_line script words = do
  session ← take_word count words
  ops ← ops_and_count session.1
  home ← declared (nth script.homes session.0)
  need (nat_le ops.1 16) (Limit ops.1 16)
  room (length script.commands) 1000
  Ok (record script { commands = script.commands ++ next_command script.commands session.0 home ops.0 ∷ [] })

-- ---- plan lines

-- `crash`: a site, `after`, a count
unfoldable pub crash_line : Script → List (List ℕ) → Result PlanLine ScriptCause
crash_line script words = do
  said ← row (site script.topology ∷ literal (codes "after") ∷ count ∷ []) words
  Ok (Crash said.0 said.1.1.0)

-- `recover`: a site, an id, `after`, a count
unfoldable pub recover_line : Script → List (List ℕ) → Result PlanLine ScriptCause
recover_line script words = do
  said ← row (site script.topology ∷ id script.commands ∷ literal (codes "after") ∷ count ∷ []) words
  Ok (Recover said.0 said.1.0 said.1.1.1.0)

-- `drop`: an actor, an actor, an ordinal
unfoldable pub drop_line : Script → List (List ℕ) → Result PlanLine ScriptCause
drop_line script words = do
  said ← row (actor script.topology (length script.homes) ∷ actor script.topology (length script.homes) ∷ ordinal ∷ []) words
  Ok (Lose said.0 said.1.0 said.1.1.0)

-- `repeat`: an actor, an actor, an ordinal, times
unfoldable pub repeat_one : Script → List (List ℕ) → Result PlanLine ScriptCause
repeat_one script words = do
  said ← row (actor script.topology (length script.homes) ∷ actor script.topology (length script.homes) ∷ ordinal ∷ times ∷ []) words
  Ok (Repeat said.0 said.1.0 said.1.1.0 said.1.1.1.0)

-- `repeat all`: times
unfoldable pub repeat_all : List (List ℕ) → Result PlanLine ScriptCause
repeat_all words = do
  said ← row (times ∷ []) words
  Ok (RepeatAll said.0)

unfoldable pub repeat_line : Script → List (List ℕ) → Result PlanLine ScriptCause
repeat_line script [] = Err Word
repeat_line script (word ∷ words) = if bytes_eq word (codes "all") then repeat_all words else repeat_one script (word ∷ words)

-- one of the lines is a double of this one
unfoldable pub has_double : List PlanLine → PlanLine → Bool
has_double plan line = list_any (λ earlier. is_double earlier line) plan

unfoldable pub with_plan : Script → PlanLine → Result Script ScriptCause
with_plan script line = do
  need (not (has_double script.plan line)) Duplicate
  room (length script.plan) 1000
  Ok (record script { plan = script.plan ++ line ∷ [] })

-- ---- `pick`: a number

unfoldable pub pick_line : Script → List (List ℕ) → Result Script ScriptCause
pick_line script words = do
  said ← row (count ∷ []) words
  room (length script.picks) 100000
  Ok (record script { picks = script.picks ++ said.0 ∷ [] })
