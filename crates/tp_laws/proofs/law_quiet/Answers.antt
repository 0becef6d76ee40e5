use Rattle.tp_quiet.proofs.Finishes.{quiet_finished}
use Rattle.tp_laws.proofs.law_quiet.Goals as goal

pub returns : goal.returns
returns c = quiet_finished c.args.script.now c.args.entries.now c.requires.accepted c.requires.run c.requires.quiet
    c.requires.harmless
