use Rattle.std.proofs.Common.{List, ap}
use Rattle.tp_base.specs.declared.names.CommandId.{CommandId}
use Rattle.tp_base.specs.Lists.{has}
use Rattle.tp_base.specs.Names.{same_id}
use Rattle.tp_promise.proofs.Ranks.{new_pages}
use Rattle.tp_promise.proofs.book.Book.new.Goals as goal

pub returns-clause-empty : goal.returns-clause-empty
returns-clause-empty c = record {
  ids = λ id. ap (λ (keys : List CommandId). has same_id id keys) c.new-2.ensures.empty;
  pages = new_pages c.loop.counter c.loop.pages.items c.loop.invariant;
}
