use Rattle.tp_worker.proofs.Goings.{all_done}
use Rattle.tp_worker.proofs.threads.has_ended.Goals as goal

pub returns : goal.returns
returns g c = λ yes none.
    all_done c.args.cells.now c.most_seen.result c.requires.done c.most_seen.ensures (c.have_seen.ensures yes)
