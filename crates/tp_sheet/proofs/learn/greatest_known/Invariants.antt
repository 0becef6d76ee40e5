use Rattle.tp_base.specs.Tables.{kept_at}
use Rattle.tp_ops.specs.Parts.{is_accessed}
use Rattle.std.proofs.Common.{◌-◌, take}
use Rattle.tp_sheet.proofs.Known.{IsGreatest}
use Rattle.tp_sheet.proofs.learn.greatest_known.Given as goal

abbrev pub invariant-loop-partition : goal.invariant-loop-partition
invariant-loop-partition l =
    IsGreatest (λ q. kept_at (take l.topology.partitions l.known) q) (is_accessed l.topology.partitions l.command) (l.partition - 1) l.greatest
