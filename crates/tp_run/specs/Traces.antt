-- What is known of a run's entries before their text is written.
use Rattle.std.specs.Prelude.{◌≤◌}
use Rattle.tp_base.specs.Lists.{Each}
use Rattle.tp_rules.specs.declared.event.Entry.{Entry}
use Rattle.tp_rules.specs.declared.event.Event.{Event}
use Rattle.tp_rules.specs.declared.event.Event.TheVariants.{Deliver, Dropped, Inner}
use Rattle.tp_wire.specs.Ranges.{IsInRange}

-- the numbers of what is delivered or lost count from 1
abbrev pub CountsFromOne : Event → Type 0
CountsFromOne (Deliver entry place) = (1 ≤ entry) × (1 ≤ place)
CountsFromOne (Dropped entry place) = (1 ≤ entry) × (1 ≤ place)
CountsFromOne (Inner inner) = Unit {0}

-- and the messages have bytes
pub record IsTraced (e : Entry) : Type 0 where
  pub counts : CountsFromOne e.event
  pub outputs : Each IsInRange e.outputs
