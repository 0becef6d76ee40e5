-- What a driver keeps from one step to the next, and what comes next.
use Rattle.std.specs.Prelude.{◌≡◌, ◌++◌, ◌∷◌, true, List, [], Option, Some, None, reverse, slice_get}
use Rattle.tp_rules.specs.Journal.{is_known}
use Rattle.tp_rules.specs.Pending.{IsPickedRun, index_next, pending}
use Rattle.tp_rules.specs.Runs.{IsRun, MayHappen}
use Rattle.tp_rules.specs.declared.event.Entry.{Entry}
use Rattle.tp_rules.specs.declared.event.Item.{Item}
use Rattle.tp_script.specs.declared.script.Script.{Script}

-- the journal is a run in which the picks choose
pub record IsDriven (script : Script) (journal : List Entry) : Type 0 where
  pub run : IsRun script journal
  pub picked : IsPickedRun script journal

-- the step is the one of those that may come next which the pick chooses
abbrev pub IsPickOf : Script → List Entry → Item → Type 0
IsPickOf script journal item = slice_get (pending script (reverse journal)) (index_next script (reverse journal)) ≡ Some item

-- what the pick chooses, if anything may come next
abbrev pub IsChosen : Script → List Entry → Option Item → Type 0
IsChosen script journal None = pending script (reverse journal) ≡ []
IsChosen script journal (Some item) = IsPickOf script journal item

-- the step is of one of the script's actors, and may happen
pub record MayCome (script : Script) (journal : List Entry) (item : Item) : Type 0 where
  pub known : is_known script item.actor ≡ true
  pub may : MayHappen script (reverse journal) item.actor item.event

-- one more entry
abbrev pub IsOneMore : List Entry → List Entry → Type 0
IsOneMore before after = (e : Entry) × (after ≡ before ++ e ∷ [])
