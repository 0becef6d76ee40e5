-- What a cell is: an actor with its desk, as its callers see it.
use Rattle.std.specs.Prelude.{◌≡◌, ◌≢◌, ℕ, ◌<◌, ◌≤◌, Bool, true, false, List, [], Some, length, reverse, slice_index_or}
use Rattle.tp_base.specs.Lists.{IsIn, IsPrefixOf}
use Rattle.tp_base.specs.declared.names.ActorName.{ActorName}
use Rattle.tp_netbook.specs.Inbox.{IsInbox}
use Rattle.tp_netbook.specs.declared.inbox.Inbox.{Inbox}
use Rattle.tp_rules.specs.Acts.{Act, Identity}
use Rattle.tp_rules.specs.Journal.{acts, identity_in, is_known}
use Rattle.tp_rules.specs.Pending.{pending}
use Rattle.tp_rules.specs.declared.event.Entry.{Entry}
use Rattle.tp_rules.specs.declared.event.Item.{Item}
use Rattle.tp_script.specs.Accepted.{IsAccepted}
use Rattle.tp_script.specs.declared.script.Script.{Script}
use Rattle.tp_shared.specs.Histories.{crash_of, entries_by}
use Rattle.tp_shared.specs.Known.{Known}
use Rattle.tp_worker.specs.declared.cell.CellState.{CellState}
use Rattle.tp_worker.specs.declared.cell.CellState.TheVariants.{Live, Crashed, Spent}

-- its actor, what its desk knows, how far it has fetched what was sent to the actor, and whether it goes on
pub record Worker (A : Type 0) : Type 0 where
  pub actor : A
  pub desk : Known
  pub fetched : ℕ
  pub state : CellState

-- the actor is the script's of that name, isn't spent, and stands where the rules leave it after its acts in the journal
pub record IsUpTo {A : Type 0} (identity_of : A → Identity) (is_spent : A → Bool) (stands : A → List Act → Type 0)
    (script : Script) (journal : List Entry) (name : ActorName) (a : A) : Type 0 where
  pub identity : identity_of a ≡ identity_in script name
  pub unspent : is_spent a ≡ false
  pub place : stands a (acts (reverse journal) name)

-- the desk is that of an actor of the script who has no entry in the opening journal, and doesn't hold the turn
pub record IsDeskOf (name : ActorName) (k : Known) : Type 0 where
  pub accepted : IsAccepted k.opening.script
  pub known : is_known k.opening.script name ≡ true
  pub actor : k.actor ≡ Some name
  pub free : k.holds ≡ false
  pub opening : entries_by name k.opening.journal ≡ []

-- a new actor, a new desk and a new inbox of one name
pub record IsReady {A : Type 0} (identity_of : A → Identity) (is_spent : A → Bool) (stands : A → List Act → Type 0)
    (name : ActorName) (a : A) (k : Known) (inbox : Inbox) : Type 0 where
  pub desk : IsDeskOf name k
  pub own : k.own ≡ []
  pub given : IsInbox k.opening.script name [] [] inbox
  pub identity : identity_of a ≡ identity_in k.opening.script name
  pub unspent : is_spent a ≡ false
  pub place : stands a []

-- what is so of a cell between calls: a live one's actor is up to its entries, and the first crash of a crashed one's site
-- stands in what its desk has seen
pub record IsCell {A : Type 0} (identity_of : A → Identity) (is_spent : A → Bool) (stands : A → List Act → Type 0)
    (name : ActorName) (w : Worker A) : Type 0 where
  pub desk : IsDeskOf name w.desk
  pub fetched : w.fetched ≤ length w.desk.seen
  pub live : w.state ≡ Live → IsUpTo identity_of is_spent stands w.desk.opening.script w.desk.seen name w.actor
  pub crashed : (entry : ℕ) → w.state ≡ Crashed entry → crash_of name w.desk.seen ≡ Some entry

-- no step of the desk's actor may come next after what the desk has seen
abbrev pub IsIdle : Known → Type 0
IsIdle k = (it : Item) → IsIn it (pending k.opening.script (reverse k.seen)) → k.actor ≢ Some it.actor

-- the desk has made and seen more, and nothing else changed
abbrev pub with_more : Known → List Entry → List Entry → Known
with_more k own seen = record { table = k.table; opening = k.opening; actor = k.actor; own = own; seen = seen; holds = k.holds; listed = k.listed; kept = k.kept }

pub record HasGrown (old new : Known) : Type 0 where
  pub same : new ≡ with_more old new.own new.seen
  pub own : IsPrefixOf old.own new.own
  pub seen : IsPrefixOf old.seen new.seen

-- what becomes of a cell while it works: its actor keeps its identity, and a cell that isn't live stays as it is
pub record GoesOn {A : Type 0} (identity_of : A → Identity) (old new : Worker A) : Type 0 where
  pub identity : identity_of new.actor ≡ identity_of old.actor
  pub desk : HasGrown old.desk new.desk
  pub ended : old.state ≢ Live → new ≡ old

-- a live one has fetched all that its desk has seen
abbrev pub HasAllFetched : {A : Type 0} → Worker A → Type 0
HasAllFetched w = w.state ≡ Live → w.fetched ≡ length w.desk.seen

-- it has fetched all that its desk has seen, and nothing of its actor is pending there
pub record IsDone {A : Type 0} (w : Worker A) : Type 0 where
  pub fetched : w.fetched ≡ length w.desk.seen
  pub idle : IsIdle w.desk

abbrev pub AllGoOn : {A : Type 0} → (A → Identity) → List (Worker A) → List (Worker A) → Type 0
AllGoOn {A} identity_of old new = (length new ≡ length old)
    × ((i : ℕ) (d : Worker A) → i < length old → GoesOn identity_of (slice_index_or old i d) (slice_index_or new i d))

abbrev pub NoneSpent : {A : Type 0} → List (Worker A) → Type 0
NoneSpent {A} cells = (w : Worker A) → IsIn w cells → w.state ≢ Spent

-- each live cell is done, and no desk has seen a longer list than a live one's
pub record AllDone {A : Type 0} (cells : List (Worker A)) : Type 0 where
  pub done : (w : Worker A) → IsIn w cells → w.state ≡ Live → IsDone w
  pub longest : (v w : Worker A) → IsIn v cells → IsIn w cells → w.state ≡ Live → length v.desk.seen ≤ length w.desk.seen
