use Rattle.std.proofs.Common.{◌≡◌, Option, Some, None, refl, sym, ◌∙◌}
use Rattle.std.specs.Prelude.{reverse, IfSome}
use Rattle.tp_netbook.proofs.Inboxes.{next_is}
use Rattle.tp_netbook.proofs.InboxRuns.{lives_same, next_follows, none_follows}
use Rattle.tp_netbook.proofs.inbox.Inbox.next.Goals as goal
use Rattle.tp_netbook.specs.Inbox.{entries_by, sent_to}
use Rattle.tp_rules.proofs.Journals.{history_is_free}
use Rattle.tp_rules.specs.Runs.{IsRun}

if_some : {X : Type 0} (P : X → Type 0) (o : Option X) → ((x : X) → o ≡ Some x → P x) → IfSome o P
if_some P None h = tt
if_some P (Some x) h = h x refl

pub returns-clause-next : goal.returns-clause-next
returns-clause-next c = λ script actor parcels own is. c.coming.ensures ∙ next_is script actor parcels own c.args.self.now is

pub returns-clause-follows : goal.returns-clause-follows
unfolding IsRun
returns-clause-follows c = λ script journal actor run is.
    if_some _ c.coming.result (λ event some.
    next_follows script (reverse journal) (history_is_free script (reverse journal) run) actor event
    (sym (next_is script actor (sent_to actor (reverse journal)) (entries_by actor (reverse journal)) c.args.self.now is) ∙ sym c.coming.ensures ∙ some))

pub returns-clause-quiet : goal.returns-clause-quiet
unfolding IsRun
returns-clause-quiet c = λ script journal actor run is live none.
    none_follows script (reverse journal) (history_is_free script (reverse journal) run) actor
    (lives_same script (reverse journal) (history_is_free script (reverse journal) run) actor live)
    (sym (next_is script actor (sent_to actor (reverse journal)) (entries_by actor (reverse journal)) c.args.self.now is) ∙ sym c.coming.ensures ∙ none)
