use Rattle.tp_rules.proofs.fit.InRange.{run_in_range}
use Rattle.tp_laws.proofs.law_messages.Goals as goal

pub returns : goal.returns
returns c = run_in_range c.args.script.now c.requires.accepted c.args.entries.now c.requires.free_run
