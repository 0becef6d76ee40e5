use Rattle.std.proofs.Common.{sym}
use Rattle.tp_run.proofs.TextLaws.{line_is_no_end}
use Rattle.tp_run.proofs.text.is_end.Goals as goal

pub returns-in-Ok : goal.returns-in-Ok
returns-in-Ok c = sym (line_is_no_end c.in-Ok.field-0.now c.args.lines.now.left c.next_line.new.self.left c.in-Ok.ensures.line)
