use Rattle.std.proofs.Common.{sym, ◌∙◌}
use Rattle.tp_run.proofs.TextLaws.{nothing_left}
use Rattle.tp_run.proofs.both.ended.Goals as goal

pub returns-then-is_end-clause-nothing : goal.returns-then-is_end-clause-nothing
returns-then-is_end-clause-nothing c = nothing_left c.args.lines.now.left (sym c.is_end.ensures ∙ c.if-is_end.true)
