-- Commands by session and number.
use Rattle.std.specs.List.{find}
use Rattle.std.specs.Prelude.{◌≡◌, ℕ, suc, List, Option, Some, length, slice_get}
use Rattle.tp_base.specs.Names.{same_id}
use Rattle.tp_base.specs.declared.names.CommandId.{CommandId}
use Rattle.tp_ops.specs.declared.command.Command.{Command}
use Rattle.tp_print.specs.Report.{id_of}
use Rattle.tp_script.specs.Accepted.{commands_by}
use Rattle.tp_script.specs.declared.script.Script.{Script}
use Rattle.tp_rules.specs.Journal.{commands_of}
use Rattle.tp_rules.specs.Outcome.{command_of}

-- the commands of one session, that of number 1 first
abbrev pub Row : Type 0
Row = List (Option Command)

-- the first command with an identifier
abbrev pub first_with : List Command → CommandId → Option Command
first_with commands id = find (λ c. same_id c.id id) commands

-- rows of so many sessions: a place for each of the counted commands,
-- and at it the first of the placed ones with its number
pub record AreNumbered (sessions : ℕ) (counted placed : List Command) (rows : List Row) : Type 0 where
  pub count : length rows ≡ sessions
  pub numbers : (i : ℕ) (row : Row) → slice_get rows i ≡ Some row → length row ≡ length (commands_by (suc i) counted)
  pub commands : (i j : ℕ) (row : Row) (o : Option Command) → slice_get rows i ≡ Some row → slice_get row j ≡ Some o
      → o ≡ first_with placed (id_of (suc i) (suc j))

-- the row of a session of a script
pub record IsRow (script : Script) (s : ℕ) (row : Row) : Type 0 where
  pub numbers : length row ≡ length (commands_of script (record { 0 = s }))
  pub commands : (i : ℕ) (o : Option Command) → slice_get row i ≡ Some o → o ≡ command_of script (id_of s (suc i))
