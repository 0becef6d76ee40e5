use Rattle.std.proofs.Common.{sym, ap, subst, ◌∙◌}
use Rattle.tp_netbook.proofs.Inboxes.{has_done}
use Rattle.tp_netbook.proofs.inbox.Inbox.done.Goals as goal
use Rattle.tp_netbook.specs.Inbox.{AreCountedBy, settled}

pub returns : goal.returns
returns c = has_done c.args.event c.args.self.now c.settle.new.self
    (subst (λ w. AreCountedBy c.args.event c.args.self.now.watch w) (sym c.settle.ensures.watch) c.count.ensures.watch)
    (c.settle.ensures.fates ∙ c.count.ensures.fates)
    (c.settle.ensures.routes ∙ c.count.ensures.routes)
    (c.settle.ensures.waiting ∙ ap (λ q. settled c.args.event q.items) c.count.ensures.waiting)
