use Rattle.std.proofs.Common.{◌+◌, ◌∙◌, arith}
use Rattle.std.proofs.lemmas.Result.{err_from_is_err_and}
use Rattle.tp_text.specs.Framing.{lines_from}
use Rattle.tp_text.specs.Lines.{lines_of}
use Rattle.tp_text.proofs.LinesRead.{ends, goes_on}
use Rattle.tp_text.proofs.framing.take_lines.Goals as goal

pub returns-in_err-more-clause-read : goal.returns-in_err-more-clause-read
returns-in_err-more-clause-read g c =
    let passed = err_from_is_err_and c.from_residual.result c.from_residual.ensures.1 in
    let so_far = rw c.loop-more-test.true at c.loop-more.invariant.0 in
    rw (passed.1, passed.2) (ends c.args.missing g.D.LineReader.line_of c.in_err-more.field-0.0 (c.loop-more.lines.count + 1) c.loop-more.draft c.loop-more.lines.left
    (lines_from c.args.missing g.D.LineReader.line_of (c.args.lines.now.count + 1) c.args.draft.now (lines_of c.args.lines.now.left)) c.in_err-more.ensures.read so_far)

pub loop-more-preserved : goal.loop-more-preserved
loop-more-preserved g c =
    let so_far = rw c.loop-more-test.true at c.loop-more.invariant.0 in
    let next = goes_on c.args.missing g.D.LineReader.line_of (c.loop-more.lines.count + 1) (c.take_one.new.lines.count + 1) c.loop-more.draft c.take_one.new.draft (lines_of c.loop-more.lines.left) (lines_of c.take_one.new.lines.left) c.in_ok-more.more
    (lines_from c.args.missing g.D.LineReader.line_of (c.args.lines.now.count + 1) c.args.draft.now (lines_of c.args.lines.now.left)) c.in_ok-more.ensures.rest c.in_ok-more.ensures.read (omega (arith, c.in_ok-more.ensures.count)) so_far in
    (next, c.in_ok-more.ensures.fit, c.in_ok-more.ensures.all ∙ c.loop-more.invariant.2)
