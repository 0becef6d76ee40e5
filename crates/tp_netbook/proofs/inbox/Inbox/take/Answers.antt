use Rattle.std.proofs.Common.{List, OnOk, subst}
use Rattle.tp_netbook.proofs.inbox.Inbox.take.Goals as goal
use Rattle.tp_netbook.specs.Inbox.{Takes}
use Rattle.tp_rules.specs.declared.event.Parcel.{Parcel}

pub returns : goal.returns
returns c = subst (λ (ps : List Parcel). OnOk c.add_all.result (Takes ps c.args.self.now c.add_all.new.self)) c.as_slice.ensures c.add_all.ensures
