use Rattle.std.proofs.Common.{◌≡◌, ◌-◌, ◌∙◌, true, false, arith}
use Rattle.std.specs.Prelude.{◌==◌, not}
use Rattle.tp_ops.specs.Parts.{is_accessed}
use Rattle.tp_process.proofs.Rows.{both-more, both-same, first-same}
use Rattle.tp_process.proofs.addresses.counterparts.Goals as goal
use Rattle.tp_process.proofs.addresses.counterparts.Goals.{then-accesses+then-ne+in_ok-add, else-accesses, else-accesses-via-then-accesses+else-ne, else-accesses-via-else-accesses}

pub loop-number-preserved : goal.loop-number-preserved
loop-number-preserved c = elim c.if-accesses.branch [
  | then-accesses+then-ne+in_ok-add w ↦
      let on : is_accessed c.args.place.now.topology.partitions c.args.command.now c.loop-number.number ≡ true = cc in
      let other : not (c.loop-number.number == c.args.place.now.site.partition.0) ≡ true = cc in
      both-more _ _ _ _ _ _ c.loop-number.auto.number on other c.loop-number.invariant (w.names-is ∙ w.in_ok-add.ensures.added)
  | else-accesses w ↦ elim w.else-accesses.branch [
    | else-accesses-via-then-accesses+else-ne v ↦
        let on : is_accessed c.args.place.now.topology.partitions c.args.command.now c.loop-number.number ≡ true = cc in
        let own : not (c.loop-number.number == c.args.place.now.site.partition.0) ≡ false = cc in
        both-same _ _ _ _ _ _ c.loop-number.auto.number on own c.loop-number.invariant w.names-is
    | else-accesses-via-else-accesses v ↦
        let off : is_accessed c.args.place.now.topology.partitions c.args.command.now c.loop-number.number ≡ false = cc in
        first-same _ _ _ _ _ _ c.loop-number.auto.number off c.loop-number.invariant w.names-is
  ]
]

pub returns : goal.returns
returns c = let all : c.loop-number.number - 1 ≡ c.args.place.now.topology.partitions = omega arith in rw all at c.loop-number.invariant
