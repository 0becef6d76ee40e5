use Rattle.std.proofs.Common.{◌≡◌, ◌+◌, ◌-◌, ◌<◌, ◌∷◌, ℕ, length, sym, subst, arith}
use Rattle.tp_promise.specs.Pages.{IsPage}
use Rattle.tp_promise.proofs.Ranks.{page_of, told_pages}
use Rattle.tp_topology.specs.Stability.{Telling}
use Rattle.tp_promise.proofs.book.Book.add.Goals as goal

pub returns-clause-told : goal.returns-clause-told
returns-clause-told c = λ told committed is.
    let t : Telling = record { rank = c.args.rank.0; lo = c.args.lo; hi = c.args.hi; attached = c.args.attached.now } in
    let place : c.from.result - 1 + 1 ≡ c.args.rank.0 = omega arith in
    let lt : c.from.result - 1 < length c.args.self.now.pages.items = omega arith in
    let before : IsPage c.index_mut-page.result.now told committed c.args.rank.0 =
    page_of c.args.self.now.pages.items told committed c.args.rank.0 (c.from.result - 1) c.index_mut-page.result.now c.index_mut-page.result.now is.pages c.index_mut-page.ensures.value place lt in
    let after : IsPage c.add.new.self (t ∷ told) committed c.args.rank.0 = c.in_ok-add.ensures told committed c.args.rank.0 is.ids before in
    record {
      ids = is.ids;
      pages = told_pages c.args.self.now.pages.items told committed t (c.from.result - 1) c.add.new.self is.pages (sym place) lt (subst (λ (k : ℕ). IsPage c.add.new.self (t ∷ told) committed k) (sym place) after);
    }
