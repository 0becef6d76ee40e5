-- What stands in a journal in its own order. Entries and places count from 1.
use Rattle.std.specs.Prelude.{ℕ, ◌+◌, ◌&&◌, Bool, List, Option, position, option_map}
use Rattle.std.specs.Option.{option_and_then}
use Rattle.tp_base.specs.Names.{same_name}
use Rattle.tp_base.specs.Tables.{nth}
use Rattle.tp_base.specs.declared.names.ActorName.TheVariants.{Process}
use Rattle.tp_base.specs.declared.names.Site.{Site}
use Rattle.tp_rules.specs.Journal.{is_crash}
use Rattle.tp_rules.specs.declared.event.Entry.{Entry}
use Rattle.tp_wire.specs.declared.message.Message.{Message}

-- an entry by which a site crashes
abbrev pub is_crash_of : Site → Entry → Bool
is_crash_of s e = same_name e.actor (Process s) && is_crash e.event

-- the number of the first entry by which a site crashes
abbrev pub first_crash : Site → List Entry → Option ℕ
first_crash s journal = option_map (λ i. i + 1) (position (is_crash_of s) journal)

-- the output at a place of an entry
abbrev pub output_in : List Entry → ℕ → ℕ → Option Message
output_in journal entry place = option_and_then (λ e. nth e.outputs place) (nth journal entry)
