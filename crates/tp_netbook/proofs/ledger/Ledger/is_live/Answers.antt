use Rattle.std.proofs.Common.{◌∙◌}
use Rattle.tp_netbook.proofs.Ledgers.{alive_is}
use Rattle.tp_netbook.proofs.ledger.Ledger.is_live.Goals as goal

pub returns : goal.returns
returns c = λ script journal is known. c.is_alive.ensures ∙ alive_is script journal c.args.self.now is c.args.actor known
