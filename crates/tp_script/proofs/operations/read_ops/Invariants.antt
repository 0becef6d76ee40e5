use Rattle.std.proofs.Common.{◌≡◌, ◌+◌, ◌-◌, ◌≤◌, length}
use Rattle.tp_script.specs.Grammar.{ops_and_count}
use Rattle.tp_script.proofs.OpsRead.{counted, still}
use Rattle.tp_script.proofs.operations.read_ops.Given as goal

abbrev pub invariant-loop-more : goal.invariant-loop-more
invariant-loop-more l =
    (counted l.ops l.count (still l.more (length l.fn.words - l.count) l.words) ≡ ops_and_count l.fn.words)
    × (length l.words + l.count ≤ length l.fn.words)
    × (length l.ops ≤ 16)

abbrev pub decreases-loop-more : goal.decreases-loop-more
decreases-loop-more l = length l.words
