use Rattle.std.proofs.Common.{◌∙◌}
use Rattle.tp_check.proofs.Printed.{text_is}
use Rattle.tp_check.proofs.printer.print_verdict.Goals as goal

pub returns : goal.returns
returns c = c.finish.ensures ∙ text_is c.args.verdict c.new-text.result c.put_verdict.new.text c.new-text.ensures c.in_ok-put_verdict.ensures
