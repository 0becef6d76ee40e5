use Rattle.tp_netbook.proofs.Steps.{all_counted, all_free, many_roster}
use Rattle.tp_netbook.proofs.netbook.Netbook.pending.Goals as goal

pub returns : goal.returns
returns c = λ script journal is accepted run are.
    all_counted script journal c.args.self.now is accepted run c.args.next.now are c.args.self.now.due c.count_deliveries.result c.count_own.result _ _
    is.due (c.count_deliveries.ensures.count is.ready) (c.count_own.ensures (all_free script journal c.args.self.now is accepted run) (many_roster script journal c.args.self.now is accepted run c.args.next.now are)) (c.count_deliveries.ensures.few is.ready) c.saturating_add-others.ensures c.saturating_add.ensures
