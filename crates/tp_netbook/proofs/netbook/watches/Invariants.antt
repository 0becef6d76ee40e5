use Rattle.std.proofs.Common.{take}
use Rattle.tp_netbook.proofs.Watches.{AreNew}
use Rattle.tp_netbook.proofs.netbook.watches.Given as goal

abbrev pub invariant-loop-site : goal.invariant-loop-site
invariant-loop-site l = AreNew l.script l.watches.items (take l.site-index l.sites)
