use Rattle.std.proofs.Common.{◌+◌, ◌-◌, ℕ, ap, ◌∙◌, arith}
use Rattle.tp_promise.specs.Pages.{IsPage}
use Rattle.tp_promise.proofs.Ranks.{page_of}
use Rattle.tp_promise.proofs.Tellings.{front_counted, front_stopped}
use Rattle.tp_topology.specs.Counting.{all_up_to}
use Rattle.tp_topology.specs.Stability.{is_counted}
use Rattle.tp_promise.proofs.book.Book.front.Goals as goal

pub returns-clause-counted : goal.returns-clause-counted
returns-clause-counted c = λ told committed is.
    let page : IsPage c.index-page.result.now told committed c.args.rank.0 =
    page_of c.args.self.now.pages.items told committed c.args.rank.0 (c.from.result - 1) c.index-page.result.now c.index-page.result.now is.pages c.index-page.ensures (omega arith) (omega arith) in
    ap (all_up_to (is_counted told committed c.args.rank.0)) c.front.ensures.front ∙ front_counted c.index-page.result.now told committed c.args.rank.0 page

pub returns-clause-stopped : goal.returns-clause-stopped
returns-clause-stopped c = λ told committed is.
    let page : IsPage c.index-page.result.now told committed c.args.rank.0 =
    page_of c.args.self.now.pages.items told committed c.args.rank.0 (c.from.result - 1) c.index-page.result.now c.index-page.result.now is.pages c.index-page.ensures (omega arith) (omega arith) in
    ap (λ (n : ℕ). is_counted told committed c.args.rank.0 (n + 1)) c.front.ensures.front ∙ front_stopped c.index-page.result.now told committed c.args.rank.0 page c.front.ensures.stopped
