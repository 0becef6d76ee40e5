use Rattle.std.proofs.Common.{◌+◌}
use Rattle.tp_promise.proofs.Ranks.{one_more_id}
use Rattle.tp_promise.proofs.book.Book.committed.Goals as goal

pub returns-clause-committed : goal.returns-clause-committed
returns-clause-committed c = λ told committed is.
    record {
      ids = λ other. one_more_id c.args.id other c.args.self.now.committed.keys c.insert.new.self.keys committed (is.ids other) (c.in_ok-insert.ensures.updates.0 other);
      pages = λ i page' e. let old = c.commit_each.ensures.each i page' e in old.2 told committed (i + 1) (is.pages i old.0 old.1);
    }
