use Rattle.std.proofs.Common.{◌≡◌, replicate}
use Rattle.tp_promise.proofs.Numbers.{blank}
use Rattle.tp_promise.proofs.book.Book.new.Given as goal

abbrev pub invariant-loop : goal.invariant-loop
invariant-loop l = l.pages.items ≡ replicate l.counter blank
