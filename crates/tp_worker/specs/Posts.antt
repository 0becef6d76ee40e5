-- A cell's desk with its inbox: what the inbox was given, and what it was told of.
use Rattle.std.specs.Prelude.{◌≡◌, ◌*◌, ◌≤◌, ◌^◌, ℕ, Bool, true, false, List, [], ◌∷◌, ◌++◌, Some, None, length, reverse, take}
use Rattle.tp_base.specs.Lists.{IsPrefixOf}
use Rattle.tp_base.specs.declared.names.ActorName.{ActorName}
use Rattle.tp_netbook.specs.Inbox.{IsInbox, MayBeDone, next_event, sent_to}
use Rattle.tp_netbook.specs.Inbox.{entries_by as told_of}
use Rattle.tp_rules.specs.Acts.{Act, Identity}
use Rattle.tp_rules.specs.Journal.{is_crash, is_live}
use Rattle.tp_rules.specs.Plan.{due_of}
use Rattle.tp_rules.specs.Runs.{FollowsFate, FollowsLine, IsRun, MayHappen, outputs_in}
use Rattle.tp_rules.specs.declared.event.Entry.{Entry}
use Rattle.tp_rules.specs.declared.event.Event.{Event}
use Rattle.tp_rules.specs.declared.event.Parcel.{Parcel}
use Rattle.tp_script.specs.declared.script.Script.{Script}
use Rattle.tp_shared.specs.Histories.{crash_of, entries_by}
use Rattle.tp_shared.specs.Known.{Known}
use Rattle.tp_shared.specs.Known.{crash_in, entry_of, name_of}
use Rattle.tp_shared.specs.declared.entering.EnterFault.{EnterFault}
use Rattle.tp_shared.specs.declared.entering.EnterFault.TheVariants.{Crashed as Refused, NoMemory}
use Rattle.tp_worker.specs.Cells.{HasGrown, IsCell, IsDeskOf, Worker, with_more}
use Rattle.tp_worker.specs.declared.cell.CellState.{CellState}
use Rattle.tp_worker.specs.declared.cell.CellState.TheVariants.{Live, Crashed, Spent}
use Rattle.tp_worker.specs.declared.post.Post.{Post}

-- the messages that the inbox was given
abbrev pub given : ActorName → Known → ℕ → List Parcel
given name k fetched = sent_to name (reverse (take fetched k.seen))

-- the inbox stands for what was fetched and for all of the actor's entries
pub record IsPost (name : ActorName) (post : Post) : Type 0 where
  pub desk : IsDeskOf name post.desk
  pub run : IsRun post.desk.opening.script post.desk.seen
  pub own : post.desk.own ≡ entries_by name post.desk.seen
  pub fetched : post.fetched ≤ length post.desk.seen
  pub made : post.made ≡ length post.desk.own
  pub inbox : IsInbox post.desk.opening.script name (given name post.desk post.fetched) (told_of name (reverse post.desk.seen)) post.inbox
  -- no entry sends more than a sequence holds
  pub few : length (given name post.desk post.fetched) ≤ post.fetched * 2 ^ 63

-- an event is the next of an actor after some entries, the newest first; where the actor lives, the plan wants no other
pub record MayOffer (script : Script) (older : List Entry) (name : ActorName) (event : Event) : Type 0 where
  pub may : MayHappen script older name event
  pub line : is_live older name ≡ true → FollowsLine (due_of script older name) event
  pub fate : FollowsFate script older event
  pub next : MayBeDone event (next_event script name (sent_to name older) (told_of name older))

-- the desk has seen more, and nothing was made
pub record HasSeen (old new : Post) : Type 0 where
  pub same : new.desk ≡ with_more old.desk old.desk.own new.desk.seen
  pub seen : IsPrefixOf old.desk.seen new.desk.seen
  pub made : new.made ≡ old.made
  pub fetched : new.fetched ≤ length new.desk.seen

-- the desk has seen more, and may have made more
pub record HasWorked (old new : Post) : Type 0 where
  pub desk : HasGrown old.desk new.desk
  pub made : new.made ≡ length new.desk.own
  pub fetched : new.fetched ≤ length new.desk.seen

-- the desk has made one more entry, behind what others entered
pub record HasEntered (e : Entry) (old new : Post) : Type 0 where
  pub before : List Entry
  pub grown : IsPrefixOf old.desk.seen before
  pub others : entries_by e.actor before ≡ entries_by e.actor old.desk.seen
  pub alive : crash_of e.actor before ≡ None
  pub seen : new.desk.seen ≡ before ++ e ∷ []
  pub own : new.desk.own ≡ old.desk.own ++ e ∷ []

-- the entry that the desk's actor makes at an event, by the rules
abbrev pub made_in : Known → Event → Entry
made_in k event = entry_of k event (outputs_in k.opening.script (reverse k.seen) (name_of k.actor) event)

-- the fault says by which entry the actor's site crashed
abbrev pub IsRefused : Known → EnterFault → Type 0
IsRefused k (Refused entry) = crash_in k.actor k.seen ≡ Some entry
IsRefused k NoMemory = Unit {0}

-- an actor's crash ends its cell
abbrev pub IsEndedBy : Event → ℕ → CellState → Type 0
IsEndedBy event number Live = is_crash event ≡ false
IsEndedBy event number (Crashed entry) = (is_crash event ≡ true) × (entry ≡ number)
IsEndedBy event number Spent = ⊥

-- a cell's parts, as its callers see them
abbrev pub worker : {A : Type 0} → A → Post → CellState → Worker A
worker a post state = record { actor = a; desk = post.desk; fetched = post.fetched; state = state }

-- what is so of a cell's parts between calls
pub record Keeps {A : Type 0} (identity_of : A → Identity) (is_spent : A → Bool) (stands : A → List Act → Type 0)
    (a : A) (post : Post) (state : CellState) : Type 0 where
  pub name : ActorName
  pub cell : IsCell identity_of is_spent stands name (worker a post state)
  pub made : post.made ≡ length post.desk.own
  pub live : state ≡ Live → IsPost name post
