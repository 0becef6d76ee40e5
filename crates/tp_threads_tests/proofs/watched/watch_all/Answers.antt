use Rattle.tp_threads_tests.proofs.Watching.{all_stand}
use Rattle.tp_threads_tests.proofs.watched.watch_all.Goals as goal

pub returns : goal.returns
returns c = all_stand c.args.script.now _ _ c.in_ok-all.ensures c.in_ok-actors.ensures
