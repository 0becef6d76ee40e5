use Rattle.std.proofs.Common.{◌≡◌, ◌≤◌, ◌++◌, ℕ, length, get_or, drop}
use Rattle.std.specs.List.{flat_map}
use Rattle.std.specs.Prelude.{map}
use Rattle.tp_ops.specs.Parts.{answers_in, merged}
use Rattle.tp_ops.proofs.Merging.{left}
use Rattle.tp_print.specs.Report.{answer_word, spaced}
use Rattle.tp_print.proofs.reply.put_merged.Given as goal

abbrev pub invariant-loop-op : goal.invariant-loop-op
invariant-loop-op l = record {
  places : length l.taken ≡ 4;
  bound : (k : ℕ) → get_or l.taken k 0 ≤ l.op-index;
  so_far : l.initial.out ++ flat_map spaced (map answer_word (merged l.partitions l.op-items (answers_in l.first)))
      ≡ l.out ++ flat_map spaced (map answer_word
      (merged l.partitions (drop l.op-index l.op-items) (left l.first l.taken)));
}
