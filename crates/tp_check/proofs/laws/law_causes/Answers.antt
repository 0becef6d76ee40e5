use Rattle.tp_check.proofs.Complete.{no_cause_run, run_no_cause}
use Rattle.tp_check.proofs.laws.law_causes.Goals as goal

pub returns : goal.returns
returns c = (run_no_cause c.args.script.now c.args.entries.now, no_cause_run c.args.script.now c.args.entries.now)
