use Rattle.std.proofs.Common.{◌≡◌}
use Rattle.tp_netbook.proofs.Marks.{AreMarkedTo}
use Rattle.tp_netbook.proofs.netbook.Netbook.refresh.Given as goal
use Rattle.tp_netbook.specs.Netbook.{AreReadyBut, KeepsRest}

abbrev pub invariant-loop-k : goal.invariant-loop-k
invariant-loop-k l = record {
  ready : AreReadyBut l.fn.self l.fn.turned → AreMarkedTo l.self l.home l.k;
  rest : KeepsRest l.fn.self l.self;
  outputs : l.self.outputs ≡ l.fn.self.outputs;
  routes : l.self.routes ≡ l.fn.self.routes;
  inboxes : l.self.inboxes ≡ l.fn.self.inboxes;
}
