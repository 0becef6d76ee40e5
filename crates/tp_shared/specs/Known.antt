-- What a desk knows, as its callers see it.
use Rattle.std.specs.Prelude.{◌≡◌, ℕ, ◌≤◌, Bool, true, false, List, [], ◌∷◌, ◌++◌, Option, Some, None, drop, length, take}
use Rattle.atomic_table.specs.Seated.{TableId}
use Rattle.tp_base.specs.Lists.{Each, IsIn, IsPrefixOf, has}
use Rattle.tp_base.specs.Names.{same_name}
use Rattle.tp_base.specs.declared.names.ActorName.{ActorName}
use Rattle.tp_rules.specs.Runs.{IsRun}
use Rattle.tp_rules.specs.declared.event.Entry.{Entry}
use Rattle.tp_rules.specs.declared.event.Event.{Event}
use Rattle.tp_wire.specs.declared.message.Message.{Message}
use Rattle.tp_shared.specs.Histories.{after, crash_of, entries_by}
use Rattle.tp_shared.specs.Rule.{KeepsListOf, Made, Slot, Tells}
use Rattle.tp_shared.specs.Steps.{keeping, longer, nobody}
use Rattle.tp_shared.specs.declared.entering.EnterFault.{EnterFault}
use Rattle.tp_shared.specs.declared.entering.EnterFault.TheVariants.{Crashed, NoMemory}
use Rattle.tp_shared.specs.declared.view.Start.{Start}
use Rattle.tp_shared.specs.declared.view.View.{View}

-- its table and what the table began with, its actor, the entries that it made, what it has seen, whether it has the turn;
-- for the first desk, the actors whose desks were split and the own lists of those that were joined
pub record Known : Type 0 where
  pub table : TableId
  pub opening : Start
  pub actor : Option ActorName
  pub own : List Entry
  pub seen : List Entry
  pub holds : Bool
  pub listed : List ActorName
  pub kept : List Made

-- the journal in hand, or else what was seen
abbrev pub current : List Entry → Slot → List Entry
current seen None = seen
current seen (Some journal) = journal

abbrev pub own_now : View → Slot → List Entry
own_now v None = v.own
own_now v (Some journal) = v.own ++ drop (length v.seen) journal

abbrev pub known : TableId → View → Slot → Known
known z v hand = record { table = z; opening = v.opening; actor = v.actor; own = own_now v hand; seen = current v.seen hand; holds = v.holds; listed = v.listed; kept = v.kept }

-- each entry is one of the actor's; without an actor there is none
abbrev pub AreBy : Option ActorName → List Entry → Type 0
AreBy (Some a) journal = Each (λ e. e.actor ≡ a) journal
AreBy None journal = journal ≡ []

-- the hand has the journal exactly where the desk has the turn, and what it adds is the desk's own
abbrev pub HandIs : View → List (ℕ × Slot) → Slot → Type 0
HandIs v slots None = (v.holds ≡ false) × (slots ≡ [])
HandIs v slots (Some journal) =
    (v.holds ≡ true) × (slots ≡ (0, None) ∷ []) × IsPrefixOf v.seen journal × AreBy v.actor (drop (length v.seen) journal)

-- the first crash of the actor's site
abbrev pub crash_in : Option ActorName → List Entry → Option ℕ
crash_in (Some a) journal = crash_of a journal
crash_in None journal = None

-- a desk knows the first crash among the entries at which it looked, and with the turn it has looked at all
pub record IsDesk (v : View) (slots : List (ℕ × Slot)) (hand : Slot) (count looked : ℕ) (crash : Option ℕ) (actor : Option ActorName) : Type 0 where
  pub lives : v.spent ≡ false
  pub actor_is : actor ≡ v.actor
  pub count_is : count ≡ length (current v.seen hand)
  pub hand_is : HandIs v slots hand
  pub shows : Tells v.opening (current v.seen hand) v.actor (own_now v hand) v.listed v.kept
  pub within : looked ≤ count
  pub all : v.holds ≡ true → looked ≡ count
  pub crash_is : crash ≡ crash_in v.actor (take looked (current v.seen hand))

-- what each call does

abbrev pub first_known : TableId → Start → Known
first_known z opening = record { table = z; opening = opening; actor = None; own = []; seen = opening.journal; holds = false; listed = []; kept = [] }

abbrev pub holding : Known → List Entry → Known
holding k journal = record { table = k.table; opening = k.opening; actor = k.actor; own = k.own; seen = journal; holds = true; listed = k.listed; kept = k.kept }

abbrev pub released : Known → Known
released k = record { table = k.table; opening = k.opening; actor = k.actor; own = k.own; seen = k.seen; holds = false; listed = k.listed; kept = k.kept }

abbrev pub entered : Known → Entry → Known
entered k e = record { table = k.table; opening = k.opening; actor = k.actor; own = k.own ++ e ∷ []; seen = k.seen ++ e ∷ []; holds = k.holds; listed = k.listed; kept = k.kept }

abbrev pub listed_too : Known → ActorName → Known
listed_too k a = record { table = k.table; opening = k.opening; actor = k.actor; own = k.own; seen = k.seen; holds = k.holds; listed = a ∷ k.listed; kept = k.kept }

abbrev pub new_desk : Known → ActorName → Known
new_desk k a = record { table = k.table; opening = k.opening; actor = Some a; own = []; seen = k.seen; holds = false; listed = []; kept = [] }

abbrev pub joined : Known → Known → Known
joined k other = record { table = k.table; opening = k.opening; actor = k.actor; own = k.own; seen = longer k.seen other.seen; holds = k.holds; listed = k.listed; kept = keeping k.kept other.actor other.own }

-- the actor's entry
abbrev pub name_of : Option ActorName → ActorName
name_of (Some a) = a
name_of None = nobody

abbrev pub entry_of : Known → Event → List Message → Entry
entry_of k event outputs = record { actor = name_of k.actor; event = event; outputs = outputs }

-- what a desk has seen, and its own list against it
abbrev pub Told : Known → Type 0
Told k = Tells k.opening k.seen k.actor k.own k.listed k.kept

-- each desk that was split was joined
abbrev pub AllJoined : Known → Type 0
AllJoined k = (a : ActorName) → has same_name a k.listed ≡ true → KeepsListOf k.kept a

-- the closed journal: a run that begins with the opening journal, in which each actor's further entries are those that its
-- desk made
pub record Whole (k : Known) (journal : List Entry) : Type 0 where
  pub begins : IsPrefixOf k.opening.journal journal
  pub run : IsRun k.opening.script journal
  pub own : (p : Made) → IsIn p k.kept → p.1 ≡ entries_by p.0 (after k.opening.journal journal)
  pub others : (a : ActorName) → ¬ KeepsListOf k.kept a → entries_by a (after k.opening.journal journal) ≡ []

-- nothing is entered behind the first crash of the actor's site, and the fault says which entry that is
abbrev pub FaultIs : Option ℕ → EnterFault → Type 0
FaultIs crash (Crashed entry) = crash ≡ Some entry
FaultIs crash NoMemory = crash ≡ None
