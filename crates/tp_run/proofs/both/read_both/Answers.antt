use Rattle.tp_run.proofs.BothLaws.{long_checked, reads_checked}
use Rattle.tp_run.proofs.both.read_both.Goals as goal

pub returns-then-text-gt-INPUT_LIMIT-clause-exact : goal.returns-then-text-gt-INPUT_LIMIT-clause-exact
returns-then-text-gt-INPUT_LIMIT-clause-exact c = long_checked c.args.text.now c.if-text-gt-INPUT_LIMIT.true

pub returns-clause-exact : goal.returns-clause-exact
returns-clause-exact c = reads_checked c.args.text.now c.read_whole.result c.if-text-gt-INPUT_LIMIT.false c.read_whole.ensures.exact
