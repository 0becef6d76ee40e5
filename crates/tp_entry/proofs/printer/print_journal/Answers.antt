use Rattle.std.proofs.Common.{◌∙◌}
use Rattle.tp_entry.proofs.JournalLaws.{text_is}
use Rattle.tp_entry.proofs.printer.print_journal.Goals as goal

pub returns : goal.returns
returns c =
    let entries = rw c.as_slice.ensures at c.in_ok-put_entries.ensures in
    c.finish.ensures ∙ text_is c.args.entries.now c.new-text.result c.header.new.self c.put_entries.new.text c.end.new.self (record {
      start = c.new-text.ensures;
      header = c.in_ok-header.ensures;
      entries = entries;
      end = c.in_ok-end.ensures;
    })
