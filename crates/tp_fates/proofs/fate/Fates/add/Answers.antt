use Rattle.tp_fates.proofs.FateTables.{with_repeat}
use Rattle.tp_fates.proofs.fate.Fates.add.Goals as goal

pub returns-in-Repeat : goal.returns-in-Repeat
returns-in-Repeat c = with_repeat c.repeat.result c.args.self.now c.repeat.new.self c.args.line.now c.new-in-Repeat.result
    c.in-Repeat.from c.in-Repeat.to c.in-Repeat.ordinal c.in-Repeat.times c.in-Repeat.is c.new-in-Repeat.ensures c.repeat.ensures
