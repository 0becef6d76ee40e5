-- The rule of the shared journal: what holds, between any two steps, of the turn word, of the slot and of what each desk
-- knows, with the journal as it stands.
use Rattle.std.specs.Prelude.{◌≡◌, ◌⊎◌, ℕ, true, false, not, List, [], ◌∷◌, Option, Some, None}
use mathlib.Core.Option.{some, none}
use lib.ListN.{get_elem?}
use Rattle.atomic_table.specs.Table.{State}
use Rattle.tp_base.specs.Lists.{Ascends, IsIn, IsPrefixOf, has}
use Rattle.tp_base.specs.Names.{same_name}
use Rattle.tp_base.specs.declared.names.ActorName.{ActorName}
use Rattle.tp_rules.specs.Runs.{IsRun}
use Rattle.tp_rules.specs.declared.event.Entry.{Entry}
use Rattle.tp_shared.specs.Histories.{after, entries_by}
use Rattle.tp_shared.specs.declared.view.Start.{Start}
use Rattle.tp_shared.specs.declared.view.View.{View}

-- the journal, or nothing
abbrev pub Slot : Type 0
Slot = Option (List Entry)

-- an actor with the entries that its desk made
abbrev pub Made : Type 0
Made = ActorName × List Entry

-- What a journal shows of a desk: it is a run that begins with the opening journal, and behind it the actor's entries are
-- the desk's own and no others. The first desk keeps the own lists of those that were joined, and an actor that it has
-- not listed made no entry.
pub record Tells (opening : Start) (journal : List Entry) (actor : Option ActorName) (own : List Entry) (listed : List ActorName) (kept : List Made) : Type 0 where
  pub begins : IsPrefixOf opening.journal journal
  pub run : IsRun opening.script journal
  pub own_is : (a : ActorName) → actor ≡ Some a → own ≡ entries_by a (after opening.journal journal)
  pub kept_is : (p : Made) → IsIn p kept → p.1 ≡ entries_by p.0 (after opening.journal journal)
  pub kept_none : (a : ActorName) → actor ≡ Some a → kept ≡ []
  pub strangers : actor ≡ None → (a : ActorName) → has same_name a listed ≡ false → entries_by a (after opening.journal journal) ≡ []

-- no actor is kept twice
abbrev pub AreApart : List Made → Type 0
AreApart kept = Ascends (λ p q. not (same_name p.0 q.0)) kept

-- what a desk knows is so: of the journal as it stands, and of what the desk has seen of it
pub record Fits (opening : Start) (journal : List Entry) (v : View) : Type 0 where
  pub same : v.opening ≡ opening
  pub prefix : IsPrefixOf v.seen journal
  pub now : Tells opening journal v.actor v.own v.listed v.kept
  pub known : Tells opening v.seen v.actor v.own v.listed v.kept
  pub heard : (xs : List Entry) → IsIn xs v.heard → IsPrefixOf xs journal
  pub apart : AreApart v.kept

-- the desk keeps the entries of an actor
abbrev pub KeepsListOf : List Made → ActorName → Type 0
KeepsListOf kept a = (own : List Entry) × IsIn (a, own) kept

-- the desk makes an actor's entries, or keeps them
abbrev pub StandsFor : View → ActorName → Type 0
StandsFor v a = (v.actor ≡ Some a) ⊎ KeepsListOf v.kept a

-- the desks that weren't joined yet. Only the first belongs to no actor; no two stand for one actor, and those for which one
-- stands are exactly those that the first has listed
pub record Crowd (opening : Start) (journal : List Entry) (views : List View) : Type 0 where
  pub each : (i : ℕ) (v : View) → get_elem? views i ≡ some v → v.spent ≡ false → Fits opening journal v
  pub first : View
  pub first_there : get_elem? views 0 ≡ some first
  pub first_lives : first.spent ≡ false
  pub first_free : first.actor ≡ None
  pub only : (i : ℕ) (v : View) → get_elem? views i ≡ some v → v.spent ≡ false → v.actor ≡ None → i ≡ 0
  pub apart : (i j : ℕ) (v w : View) (a : ActorName) → get_elem? views i ≡ some v → get_elem? views j ≡ some w →
      v.spent ≡ false → w.spent ≡ false → StandsFor v a → StandsFor w a → i ≡ j
  pub listed : (i : ℕ) (v : View) (a : ActorName) → get_elem? views i ≡ some v → v.spent ≡ false → StandsFor v a →
      has same_name a first.listed ≡ true
  pub covers : (a : ActorName) → has same_name a first.listed ≡ true →
      (i : ℕ) × (v : View) × (get_elem? views i ≡ some v) × (v.spent ≡ false) × StandsFor v a

-- nobody has the turn: the word is 0, and the journal lies in the slot
pub record IsFree (journal : List Entry) (s : State Slot View) : Type 0 where
  pub words : s.words ≡ 0 ∷ []
  pub homes : s.homes ≡ some (Some journal) ∷ []
  pub nobody : (i : ℕ) (v : View) → get_elem? s.views i ≡ some v → v.spent ≡ false → v.holds ≡ false

-- one desk has the turn: the word is 1, the slot is with that desk, and the journal is what it has seen
pub record IsTaken (journal : List Entry) (s : State Slot View) : Type 0 where
  pub words : s.words ≡ 1 ∷ []
  pub homes : s.homes ≡ none ∷ []
  pub place : ℕ
  pub holder : View
  pub there : get_elem? s.views place ≡ some holder
  pub lives : holder.spent ≡ false
  pub holds : holder.holds ≡ true
  pub seen : holder.seen ≡ journal
  pub alone : (i : ℕ) (v : View) → get_elem? s.views i ≡ some v → v.spent ≡ false → v.holds ≡ true → i ≡ place

pub record Keeps (opening : Start) (journal : List Entry) (s : State Slot View) : Type 0 where
  pub turn : IsFree journal s ⊎ IsTaken journal s
  pub crowd : Crowd opening journal s.views

-- the rule
abbrev pub Holds : Start → State Slot View → Type 0
Holds opening s = (journal : List Entry) × Keeps opening journal s

-- what the first desk knows when the journal is opened
abbrev pub first_view : Start → View
first_view opening = record { actor = None; own = []; seen = opening.journal; holds = false; spent = false; listed = []; kept = []; heard = []; opening = opening }
