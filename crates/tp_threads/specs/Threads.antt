-- The first desk of a script's actors, and the cells of the others.
use Rattle.std.specs.Prelude.{◌≡◌, ◌≢◌, ◌⊎◌, ℕ, ◌≤◌, Bool, true, false, List, [], Option, Some, None}
use Rattle.atomic_table.specs.Seated.{TableId}
use Rattle.tp_base.specs.Lists.{IsIn, IsPrefixOf, has}
use Rattle.tp_base.specs.Names.{same_name}
use Rattle.tp_base.specs.declared.names.ActorName.{ActorName}
use Rattle.tp_netbook.specs.Places.{place_of}
use Rattle.tp_rules.specs.Acts.{Act, Identity}
use Rattle.tp_rules.specs.Journal.{identity_in, is_known}
use Rattle.tp_rules.specs.declared.event.Entry.{Entry}
use Rattle.tp_script.specs.declared.script.Script.{Script}
use Rattle.tp_shared.specs.Histories.{entries_by}
use Rattle.tp_shared.specs.Known.{Known}
use Rattle.tp_worker.specs.Cells.{IsCell, Worker}
use Rattle.tp_worker.specs.declared.cell.CellState.TheVariants.{Spent}

-- an actor that the script makes under a name, and that has done nothing
pub record IsNew {A : Type 0} (identity_of : A → Identity) (is_spent : A → Bool) (stands : A → List Act → Type 0)
    (script : Script) (name : ActorName) (a : A) : Type 0 where
  pub known : is_known script name ≡ true
  pub identity : identity_of a ≡ identity_in script name
  pub unspent : is_spent a ≡ false
  pub start : stands a []

-- the first desk of a table that began with an empty journal; it doesn't hold the turn
pub record IsFirst (s : Script) (id : TableId) (k : Known) : Type 0 where
  pub table : k.table ≡ id
  pub script : k.opening.script ≡ s
  pub opening : k.opening.journal ≡ []
  pub actor : k.actor ≡ None
  pub free : k.holds ≡ false

-- a cell at the same table
pub record IsCellAt {A : Type 0} (s : Script) (id : TableId) (w : Worker A) : Type 0 where
  pub table : w.desk.table ≡ id
  pub script : w.desk.opening.script ≡ s
  pub opening : w.desk.opening.journal ≡ []

-- a desk was split for each of the script's actors from a place on, and a cell was made with it
pub record HasCells {A : Type 0} (script : Script) (from : ℕ) (k : Known) (cells : List (Worker A)) : Type 0 where
  pub listed : (a : ActorName) → has same_name a k.listed ≡ true → (is_known script a ≡ true) × (from ≤ place_of script a)
  pub found : (a : ActorName) → is_known script a ≡ true → from ≤ place_of script a → (w : Worker A) × IsIn w cells × (w.desk.actor ≡ Some a)

-- what a cell's desk saw begins the journal, in which its actor's entries are those that the desk made
pub record IsPartOf {A : Type 0} (w : Worker A) (name : ActorName) (journal : List Entry) : Type 0 where
  pub seen : IsPrefixOf w.desk.seen journal
  pub own : w.desk.own ≡ entries_by name journal

-- a cell whose desk was joined to the first
pub record IsJoined {A : Type 0} (identity_of : A → Identity) (is_spent : A → Bool) (stands : A → List Act → Type 0)
    (w : Worker A) (k : Known) : Type 0 where
  pub name : ActorName
  pub cell : IsCell identity_of is_spent stands name w
  pub seen : IsPrefixOf w.desk.seen k.seen
  pub own : IsIn (name, w.desk.own) k.kept

-- the journal is what the first desk had seen, or what one of the cells' desks had
abbrev pub IsOneSeen : {A : Type 0} → List Entry → List (Worker A) → List Entry → Type 0
IsOneSeen {A} before cells journal = (journal ≡ before) ⊎ ((w : Worker A) × IsIn w cells × (journal ≡ w.desk.seen))

-- what joining desks leaves as it is
pub record JoinsTo (old new : Known) : Type 0 where
  pub table : new.table ≡ old.table
  pub opening : new.opening ≡ old.opening
  pub actor : new.actor ≡ old.actor
  pub holds : new.holds ≡ old.holds
  pub listed : new.listed ≡ old.listed
