use Rattle.std.proofs.Common.{◌≡◌, ◌-◌, ◌∙◌, true, false, arith}
use Rattle.tp_ops.specs.Parts.{is_accessed}
use Rattle.tp_process.proofs.Rows.{flat-more, flat-same}
use Rattle.tp_process.proofs.addresses.other_processes.Goals as goal
use Rattle.tp_process.proofs.addresses.other_processes.Goals.{then-accesses+in_ok-add_others, else-accesses}

pub loop-number-preserved : goal.loop-number-preserved
loop-number-preserved c = elim c.if-accesses.branch [
  | then-accesses+in_ok-add_others w ↦
      let on : is_accessed c.args.place.now.topology.partitions c.args.command.now c.loop-number.number ≡ true = cc in
      flat-more _ _ _ _ _ _ c.loop-number.auto.number on c.loop-number.invariant (w.names-is ∙ w.in_ok-add_others.ensures)
  | else-accesses w ↦
      let off : is_accessed c.args.place.now.topology.partitions c.args.command.now c.loop-number.number ≡ false = cc in
      flat-same _ _ _ _ _ _ c.loop-number.auto.number off c.loop-number.invariant w.names-is
]

pub returns : goal.returns
returns c = let all : c.loop-number.number - 1 ≡ c.args.place.now.topology.partitions = omega arith in rw all at c.loop-number.invariant
