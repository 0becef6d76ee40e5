use Rattle.std.proofs.Common.{◌≡◌, length}
use Rattle.tp_netbook.proofs.netbook.inboxes.Given as goal

abbrev pub invariant-loop-site : goal.invariant-loop-site
invariant-loop-site l = length l.inboxes.items ≡ l._site-index
