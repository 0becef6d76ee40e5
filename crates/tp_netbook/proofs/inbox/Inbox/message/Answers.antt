use Rattle.std.proofs.Common.{ap, ◌∙◌}
use Rattle.std.specs.Prelude.{reverse}
use Rattle.tp_netbook.proofs.InboxRuns.{message_is}
use Rattle.tp_netbook.proofs.inbox.Inbox.message.Goals as goal
use Rattle.tp_netbook.specs.Inbox.{message_for}
use Rattle.tp_rules.proofs.Journals.{history_is_free}
use Rattle.tp_rules.specs.Runs.{IsRun}

pub returns-clause-oldest : goal.returns-clause-oldest
returns-clause-oldest c = λ script actor parcels own is. c.oldest.ensures ∙ ap (λ ws. message_for ws c.args.entry c.args.place) is.waiting

pub returns-clause-sent : goal.returns-clause-sent
unfolding IsRun
returns-clause-sent c = λ script journal actor run is next.
    c.oldest.ensures ∙ ap (λ ws. message_for ws c.args.entry c.args.place) is.waiting
    ∙ message_is script (reverse journal) (history_is_free script (reverse journal) run) actor c.args.entry c.args.place next
