use Rattle.std.proofs.Common.{◌∙◌}
use Rattle.tp_netbook.proofs.FreeSteps.{many_own}
use Rattle.tp_netbook.proofs.netbook.Netbook.count_own.Goals as goal

pub returns-then-self : goal.returns-then-self
returns-then-self c = λ right many. c.count.ensures ∙ many_own c.args.self.now c.args.next.now (right c.if-self.true) many
