use Rattle.std.proofs.Common.{◌++◌, sym, ap, subst, ◌∙◌}
use Rattle.tp_netbook.proofs.Inboxes.{takes_one}
use Rattle.tp_netbook.proofs.inbox.Inbox.add.Goals as goal
use Rattle.tp_fates.specs.Fates.{TellsNext}
use Rattle.tp_netbook.specs.Inbox.{waits}
use Rattle.tp_fates.specs.Routes.{route_of}

pub returns : goal.returns
returns c = takes_one c.args.parcel.now c.args.self.now c.push.new.self c.in_ok-fate.fate
    (subst (λ r. TellsNext c.args.self.now.fates c.args.self.now.routes r (route_of c.args.parcel.now) c.in_ok-fate.fate) (sym c.in_ok-push.ensures.routes) c.in_ok-fate.ensures)
    (c.in_ok-push.ensures.waiting ∙ ap (λ o. c.args.self.now.waiting.items ++ waits o c.args.parcel.now.message) c.new-output.ensures)
    c.in_ok-push.ensures.watch c.in_ok-push.ensures.fates
