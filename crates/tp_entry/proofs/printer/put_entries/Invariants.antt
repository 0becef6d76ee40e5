use Rattle.std.proofs.Common.{◌≡◌, drop}
use Rattle.tp_entry.specs.Journals.{IsJournal}
use Rattle.tp_entry.specs.Print.{body}
use Rattle.tp_entry.proofs.printer.put_entries.Given as goal
use Rattle.tp_text.specs.Writing.{with_lines}

abbrev pub invariant-loop-entry : goal.invariant-loop-entry
invariant-loop-entry l =
    (with_lines l.text (body (drop l.entry-index l.entries)) ≡ with_lines l.fn.text (body l.entries))
    × IsJournal (drop l.entry-index l.entries)
