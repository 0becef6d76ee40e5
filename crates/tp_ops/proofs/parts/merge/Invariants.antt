use Rattle.std.proofs.Common.{◌≡◌, ◌≤◌, ℕ, ◌++◌, length, get_or, drop}
use Rattle.tp_ops.specs.Parts.{answers_in, merged}
use Rattle.tp_ops.proofs.Merging.{left}
use Rattle.tp_ops.proofs.parts.merge.Given as goal

abbrev pub invariant-loop-op : goal.invariant-loop-op
invariant-loop-op l = record {
  places : length l.taken ≡ 4;
  bound : (k : ℕ) → get_or l.taken k 0 ≤ l.op-index;
  so_far : merged l.partitions l.op-items (answers_in l.parts) ≡ l.merged ++ merged l.partitions (drop l.op-index l.op-items) (left l.parts l.taken);
}
