use Rattle.std.proofs.Common.{subst, sym}
use Rattle.tp_base.specs.Lists.{Each}
use Rattle.tp_run.proofs.Traces.{run_traced}
use Rattle.tp_run.proofs.threaded.traced.Goals as goal
use Rattle.tp_run.specs.Traces.{IsTraced}

pub look-requires : goal.look-requires
look-requires c =
    subst (Each IsTraced) (sym c.as_slice-2.ensures) (run_traced c.args.script.now c.args.journal.now c.requires.accepted c.requires.run)
