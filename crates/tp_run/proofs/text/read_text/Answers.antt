use Rattle.std.proofs.Common.{Ok}
use Rattle.tp_run.proofs.TextLaws.{faulty_cause, long_cause, short_cause, text_is}
use Rattle.tp_run.proofs.text.read_text.Goals as goal

pub returns-then-text-gt-INPUT_LIMIT-clause-refused : goal.returns-then-text-gt-INPUT_LIMIT-clause-refused
returns-then-text-gt-INPUT_LIMIT-clause-refused c = long_cause c.args.text.now c.if-text-gt-INPUT_LIMIT.true

pub returns-in-Err-Fault-clause-refused : goal.returns-in-Err-Fault-clause-refused
returns-in-Err-Fault-clause-refused c =
    faulty_cause c.args.text.now c.in-Err-Fault.field-0 c.in-Err-Fault.fault c.if-text-gt-INPUT_LIMIT.false c.in-Err-Fault.field-0-is c.in-Err-Fault.ensures

pub returns-in-Ok-clause-script : goal.returns-in-Ok-clause-script
returns-in-Ok-clause-script c = text_is c.args.text.now c.in-Ok.script c.in-Ok.ensures

pub returns-in-Ok-clause-accepted : goal.returns-in-Ok-clause-accepted
returns-in-Ok-clause-accepted c = (text_is c.args.text.now c.in-Ok.script c.in-Ok.ensures).0

pub returns-in-Ok-clause-unrefused : goal.returns-in-Ok-clause-unrefused
returns-in-Ok-clause-unrefused c = short_cause c.args.text.now (Ok c.in-Ok.script) c.if-text-gt-INPUT_LIMIT.false c.in-Ok.ensures
