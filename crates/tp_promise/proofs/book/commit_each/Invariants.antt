use Rattle.tp_promise.proofs.Ranks.{IsCommitted}
use Rattle.tp_promise.proofs.book.commit_each.Given as goal

abbrev pub invariant-loop-i : goal.invariant-loop-i
invariant-loop-i l = IsCommitted l.id l.initial.pages.items l.pages.items l.i
