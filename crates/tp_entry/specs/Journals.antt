-- Which journals have a text.
use Rattle.std.specs.Prelude.{ℕ, ◌≤◌, List}
use Rattle.tp_base.specs.Limits.{IsFrom}
use Rattle.tp_base.specs.Lists.{Each}
use Rattle.tp_entry.specs.Kinds.{IsActorName, IsCommandName, most, most_place}
use Rattle.tp_rules.specs.declared.event.Entry.{Entry}
use Rattle.tp_rules.specs.declared.event.Event.{Event}
use Rattle.tp_rules.specs.declared.event.Event.TheVariants.{Deliver, Dropped, Inner}
use Rattle.tp_rules.specs.declared.event.Inner.TheVariants.{Submit, Recover, Announce, Declare, Execute, Crash}
use Rattle.tp_wire.specs.Ranges.{IsInRange}

-- the number of an entry, or a place among its outputs
abbrev pub IsPlace : ℕ → Type 0
IsPlace n = IsFrom 1 most_place n

abbrev pub IsEvent : Event → Type 0
IsEvent (Deliver entry place) = IsPlace entry × IsPlace place
IsEvent (Dropped entry place) = IsPlace entry × IsPlace place
IsEvent (Inner (Submit n)) = n ≤ most
IsEvent (Inner (Recover id)) = IsCommandName id
IsEvent (Inner Announce) = Unit {0}
IsEvent (Inner (Declare id)) = IsCommandName id
IsEvent (Inner (Execute id)) = IsCommandName id
IsEvent (Inner Crash) = Unit {0}

pub record IsEntry (entry : Entry) : Type 0 where
  pub actor : IsActorName entry.actor
  pub event : IsEvent entry.event
  pub outputs : Each IsInRange entry.outputs

-- some text says the journal
abbrev pub IsJournal : List Entry → Type 0
IsJournal entries = Each IsEntry entries
