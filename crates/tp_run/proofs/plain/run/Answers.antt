use Rattle.tp_driver.proofs.Turns.{none_driven}
use Rattle.tp_run.proofs.plain.run.Goals as goal

pub returns-in_err-actors-clause-run : goal.returns-in_err-actors-clause-run
returns-in_err-actors-clause-run c = (none_driven c.args.script.now c.args.journal.now c.requires.empty).run

pub returns-in_err-actors-clause-picked : goal.returns-in_err-actors-clause-picked
returns-in_err-actors-clause-picked c = (none_driven c.args.script.now c.args.journal.now c.requires.empty).picked
