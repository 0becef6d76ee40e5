use Rattle.std.proofs.Common.{◌≡◌, ◌+◌, length}
use Rattle.tp_text.specs.Framing.{lines_from}
use Rattle.tp_text.specs.Lines.{lines_of}
use Rattle.tp_text.specs.Reading.{all_lines}
use Rattle.tp_text.proofs.LinesRead.{unread}
use Rattle.tp_text.proofs.framing.take_lines.Given as goal

abbrev pub invariant-loop-more : goal.invariant-loop-more
invariant-loop-more g l =
    (unread l.missing g.D.LineReader.line_of l.more (l.lines.count + 1) l.draft (lines_of l.lines.left) ≡ lines_from l.missing g.D.LineReader.line_of (l.fn.lines.count + 1) l.fn.draft (lines_of l.fn.lines.left))
    × g.D.LineReader.is_fit l.draft
    × (all_lines l.lines ≡ all_lines l.fn.lines)

abbrev pub decreases-loop-more : goal.decreases-loop-more
decreases-loop-more g l = length (lines_of l.lines.left)
