use Rattle.tp_driver.proofs.Turns.{none_driven}
use Rattle.tp_run.proofs.threaded.run.Goals as goal

pub returns-in_err-actors-clause-run : goal.returns-in_err-actors-clause-run
returns-in_err-actors-clause-run g c = (none_driven c.args.script.now c.args.journal.now c.requires.empty).run
