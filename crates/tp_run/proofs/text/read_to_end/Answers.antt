use Rattle.tp_run.proofs.TextLaws.{fails_on, read_on}
use Rattle.tp_run.proofs.text.read_to_end.Goals as goal

pub returns-in-Ok : goal.returns-in-Ok
returns-in-Ok c = rw (read_on c.args.text.now c.new-lines.result _ c.new-lines.ensures c.in-Ok.ensures.exact) c.ended.ensures

pub returns-in-Err : goal.returns-in-Err
returns-in-Err c = fails_on c.args.text.now c.new-lines.result c.in-Err.error c.new-lines.ensures c.in-Err.ensures.exact
