use Rattle.std.proofs.Common.{take}
use Rattle.tp_netbook.proofs.inbox.Inbox.add_all.Given as goal
use Rattle.tp_netbook.specs.Inbox.{Takes}

abbrev pub invariant-loop-k : goal.invariant-loop-k
invariant-loop-k l = Takes (take l.k l.parcels) l.fn.self l.self
