-- The small script of the tests, its actors and their desks.
use Rattle.std.specs.Prelude.{◌≡◌, ℕ, false, List, [], ◌∷◌, Some}
use Rattle.atomic_table.specs.Seated.{TableId}
use Rattle.tp_base.specs.declared.names.ActorName.{ActorName}
use Rattle.tp_base.specs.declared.names.ActorName.TheVariants.{Executor, Session as OfSession}
use Rattle.tp_base.specs.declared.names.Site.{Site}
use Rattle.tp_rules.specs.Journal.{identity_in}
use Rattle.tp_script.specs.declared.script.PlanLine.TheVariants.{Crash}
use Rattle.tp_script.specs.declared.script.Script.{Script}
use Rattle.tp_session.specs.States.{Stands, identity}
use Rattle.tp_session.specs.declared.session.Session.{Session}
use Rattle.tp_rules.specs.declared.event.Entry.{Entry}
use Rattle.tp_shared.specs.Histories.{crash_of}
use Rattle.tp_shared.specs.Known.{Known}

abbrev pub site : Site
site = record { partition = record { 0 = 1 }; rank = record { 0 = 1 } }

abbrev pub session_name : ℕ → ActorName
session_name n = OfSession (record { 0 = n })

-- one partition of three replicas, two sessions, and a site that crashes at once
pub record IsSmall (script : Script) : Type 0 where
  pub topology : script.topology ≡ record { partitions = 1; replicas = 3; failures = 1 }
  pub homes : script.homes ≡ record { 0 = 1 } ∷ record { 0 = 1 } ∷ []
  pub plan : script.plan ≡ Crash site 0 ∷ []

-- a session of the script that has done nothing
pub record IsNew (script : Script) (n : ℕ) (session : Session) : Type 0 where
  pub identity : identity session ≡ identity_in script (session_name n)
  pub unspent : session.spent ≡ false
  pub stands : Stands session []

-- a desk that has made no entry, of a journal that began empty
pub record IsFresh (script : Script) (name : ActorName) (k : Known) : Type 0 where
  pub opening : k.opening ≡ record { script = script; journal = [] }
  pub actor : k.actor ≡ Some name
  pub own : k.own ≡ []
  pub waits : k.holds ≡ false

-- a session and its desk, of a table, before its first step
pub record IsReady (table : TableId) (script : Script) (n : ℕ) (client : Session) (k : Known) : Type 0 where
  pub of_table : k.table ≡ table
  pub session : IsNew script n client
  pub desk : IsFresh script (session_name n) k

-- the same desk, that may have seen and made more
pub record IsSame (old new : Known) : Type 0 where
  pub table : new.table ≡ old.table
  pub opening : new.opening ≡ old.opening
  pub actor : new.actor ≡ old.actor
  pub holds : new.holds ≡ old.holds

-- the executor's site crashed
abbrev pub HasCrashed : List Entry → Type 0
HasCrashed journal = (n : ℕ) × (crash_of (Executor site) journal ≡ Some n)
