use Rattle.std.proofs.Common.{◌+◌}
use Rattle.tp_entry.proofs.JournalLaws.{is_counted, is_found, is_only}
use Rattle.tp_entry.proofs.reader.read_journal.Goals as goal

pub returns-clause-found : goal.returns-clause-found
returns-clause-found c = is_found (c.args.lines.now.count + 1) c.args.lines.now.left c.read_all.new.lines.left c.read_all.result c.read_all.ensures.exact

pub returns-clause-only : goal.returns-clause-only
returns-clause-only c = is_only (c.args.lines.now.count + 1) c.args.lines.now.left c.read_all.new.lines.left c.read_all.result c.read_all.ensures.exact

pub returns-clause-counted : goal.returns-clause-counted
returns-clause-counted c = is_counted (c.args.lines.now.count + 1) c.args.lines.now c.read_all.new.lines c.read_all.result c.read_all.ensures.exact c.read_all.ensures.all
