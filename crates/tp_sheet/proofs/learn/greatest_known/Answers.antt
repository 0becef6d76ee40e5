use Rattle.std.proofs.Common.{◌≡◌, ◌-◌, ◌≤◌, take, true, false, Option, Some, None, sym, ap, ◌∙◌, arith}
use Rattle.std.specs.Option.{option_map}
use Rattle.tp_base.proofs.Tables.{kept_at-take}
use Rattle.tp_base.specs.Tables.{kept_at}
use Rattle.tp_base.specs.declared.names.Stamp.{Stamp}
use Rattle.tp_ops.specs.Parts.{is_accessed}
use Rattle.tp_sheet.proofs.Known.{all_known, greatest_skip, greatest_take, missing}
use Rattle.tp_sheet.proofs.learn.greatest_known.Goals as goal
use Rattle.tp_sheet.proofs.learn.greatest_known.Goals.{then-accesses+in_ok-stamp+then-greatest-stamp, then-accesses+in_ok-stamp+else-greatest-stamp, else-accesses}

pub returns-in_err-stamp : goal.returns-in_err-stamp
returns-in_err-stamp c =
    let n = c.args.topology.now.partitions in
    let passes : is_accessed n c.args.command.now c.loop-partition.partition ≡ true = cc in
    let few : c.loop-partition.partition ≤ n = omega arith in
    let gone : kept_at (take n c.args.known.now) c.loop-partition.partition ≡ None =
    kept_at-take n c.args.known.now c.loop-partition.partition few ∙ sym c.get.ensures ∙ ap (λ (o : Option Stamp). option_map (λ t. t.0) o) c.in_err-stamp.was in
    let none = missing (λ q. kept_at (take n c.args.known.now) q) (is_accessed n c.args.command.now) _ _ c.loop-partition.auto.partition few passes gone in
    rw c.from_residual.ensures (sym none)

pub loop-partition-preserved : goal.loop-partition-preserved
loop-partition-preserved c =
    let n = c.args.topology.now.partitions in
    let few : c.loop-partition.partition ≤ n = omega arith in
    let front = kept_at-take n c.args.known.now c.loop-partition.partition few in
    elim c.if-accesses.branch [
      | then-accesses+in_ok-stamp+then-greatest-stamp w ↦
          let passes : is_accessed n c.args.command.now c.loop-partition.partition ≡ true = cc in
          let there : kept_at (take n c.args.known.now) c.loop-partition.partition ≡ Some w.in_ok-stamp.stamp.0 =
          front ∙ sym w.get.ensures ∙ ap (λ (o : Option Stamp). option_map (λ t. t.0) o) w.in_ok-stamp.was in
          greatest_take _ _ c.loop-partition.partition c.loop-partition.greatest w.in_ok-stamp.stamp.0 c.if-accesses.greatest c.loop-partition.auto.partition passes there (omega arith) c.loop-partition.invariant
      | then-accesses+in_ok-stamp+else-greatest-stamp w ↦
          let passes : is_accessed n c.args.command.now c.loop-partition.partition ≡ true = cc in
          let there : kept_at (take n c.args.known.now) c.loop-partition.partition ≡ Some w.in_ok-stamp.stamp.0 =
          front ∙ sym w.get.ensures ∙ ap (λ (o : Option Stamp). option_map (λ t. t.0) o) w.in_ok-stamp.was in
          greatest_take _ _ c.loop-partition.partition c.loop-partition.greatest w.in_ok-stamp.stamp.0 c.if-accesses.greatest c.loop-partition.auto.partition passes there (omega arith) c.loop-partition.invariant
      | else-accesses w ↦
          let fails : is_accessed n c.args.command.now c.loop-partition.partition ≡ false = cc in
          greatest_skip _ _ c.loop-partition.partition c.loop-partition.greatest c.if-accesses.greatest c.loop-partition.auto.partition fails w.greatest-is c.loop-partition.invariant
    ]

pub returns : goal.returns
returns c =
    let all : c.loop-partition.partition - 1 ≡ c.args.topology.now.partitions = omega arith in
    sym (all_known _ _ _ _ _ all c.loop-partition.invariant)
