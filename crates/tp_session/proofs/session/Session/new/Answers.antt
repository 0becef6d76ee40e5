use Rattle.std.proofs.Common.{List, length, refl, ap, arith}
use Rattle.tp_session.proofs.Tables.{table_start}
use Rattle.tp_session.proofs.session.Session.new.Goals as goal

pub returns-clause-stands : goal.returns-clause-stands
returns-clause-stands c = record {
  submitted = ap (λ (xs : List _). length xs) c.new.ensures.items;
  kept = λ n. table_start _ n _ c.new.ensures.items (omega arith);
  unanswered = refl;
}
