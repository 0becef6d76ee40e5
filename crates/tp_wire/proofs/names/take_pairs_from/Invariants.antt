use Rattle.std.proofs.Common.{◌≡◌, ◌≤◌, ◌-◌}
use Rattle.tp_wire.specs.Meaning.{pairs_from}
use Rattle.tp_wire.proofs.Counted.{with_front}
use Rattle.tp_wire.proofs.names.take_pairs_from.Given as goal

abbrev pub invariant-loop : goal.invariant-loop
invariant-loop l = record {
  read : with_front l.pairs (pairs_from (l.count - l.counter) l.last l.hi l.cut) ≡ pairs_from l.count l.lo l.hi l.fn.cut;
  within : l.last ≤ l.hi;
}
