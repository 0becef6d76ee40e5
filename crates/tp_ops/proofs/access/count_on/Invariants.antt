use Rattle.std.proofs.Common.{◌≡◌, ◌≤◌, length, take}
use Rattle.std.specs.Prelude.{filter}
use Rattle.tp_ops.specs.Parts.{is_on}
use Rattle.tp_ops.proofs.access.count_on.Given as goal

abbrev pub invariant-loop-op : goal.invariant-loop-op
invariant-loop-op l = record {
  bound : l.count ≤ l.op-index;
  counted : l.count ≡ length (filter (is_on l.partitions l.p.0) (take l.op-index l.op-items));
}
