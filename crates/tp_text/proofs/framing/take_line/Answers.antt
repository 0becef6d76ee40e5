use Rattle.std.proofs.Common.{◌+◌}
use Rattle.tp_text.proofs.LinesRead.{line_taken}
use Rattle.tp_text.proofs.framing.take_line.Goals as goal

pub returns-in-Ok-clause-read : goal.returns-in-Ok-clause-read
returns-in-Ok-clause-read g c =
    line_taken (c.args.lines.now.count + 1) c.args.missing c.in-Ok.line.now c.args.lines.now.left c.next_line.new.self.left c.in-Ok.ensures.line
