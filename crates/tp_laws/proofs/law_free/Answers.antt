use Rattle.tp_rules.proofs.Journals.{run_is_free}
use Rattle.tp_laws.proofs.law_free.Goals as goal

pub returns : goal.returns
returns c = run_is_free c.args.script.now c.args.entries.now c.requires.run
