-- Journals in their own order: whose entries they have, and which entry may come next.
use Rattle.std.specs.Prelude.{ℕ, List, Option, Some, None, drop, filter, length, reverse}
use Rattle.std.specs.Option.{option_and_then}
use Rattle.tp_base.specs.Names.{same_name}
use Rattle.tp_base.specs.declared.names.ActorName.{ActorName}
use Rattle.tp_base.specs.declared.names.ActorName.TheVariants.{Process, Executor, Session}
use Rattle.tp_base.specs.declared.names.Site.{Site}
use Rattle.tp_journal.specs.Entered.{first_crash}
use Rattle.tp_rules.specs.Runs.{IsLegal}
use Rattle.tp_rules.specs.declared.event.Entry.{Entry}
use Rattle.tp_script.specs.declared.script.Script.{Script}

-- the entries of an actor
abbrev pub entries_by : ActorName → List Entry → List Entry
entries_by a journal = filter (λ e. same_name e.actor a) journal

-- what was entered behind the opening journal
abbrev pub after : List Entry → List Entry → List Entry
after opening journal = drop (length opening) journal

-- an entry may be entered next
unfoldable pub MayFollow : Script → List Entry → Entry → Type 0
MayFollow script journal e = IsLegal script (reverse journal) e

-- the site of an actor; a session has none
abbrev pub site_of : ActorName → Option Site
site_of (Process s) = Some s
site_of (Executor s) = Some s
site_of (Session id) = None

-- the number of the first entry by which the actor's site crashes
abbrev pub crash_of : ActorName → List Entry → Option ℕ
crash_of a journal = option_and_then (λ s. first_crash s journal) (site_of a)
