use Rattle.std.specs.Prelude.{reverse}
use Rattle.tp_laws.proofs.Legal.{lawful, free_history}
use Rattle.tp_laws.proofs.law_real_time.Goals as goal

pub returns : goal.returns
returns c = (lawful c.args.script.now c.requires.accepted (reverse c.args.entries.now)
    (free_history c.args.script.now c.args.entries.now c.requires.free_run)).real_time
