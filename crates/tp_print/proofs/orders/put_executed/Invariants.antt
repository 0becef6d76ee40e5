use Rattle.std.proofs.Common.{◌≡◌, ◌++◌, take}
use Rattle.indexmap.specs.IndexMap.{get}
use Rattle.std.specs.List.{flat_map}
use Rattle.std.specs.Prelude.{unwrap_or}
use Rattle.tp_base.specs.Names.{same_id}
use Rattle.tp_print.specs.Report.{spaced, stamped_word}
use Rattle.tp_print.proofs.orders.put_executed.Given as goal

abbrev pub invariant-loop-id : goal.invariant-loop-id
invariant-loop-id l = l.out ≡ l.initial.out ++ flat_map
    (λ id. spaced (stamped_word id (unwrap_or (get same_id l.noted.stamps id) 0))) (take l.id-index l.id-items)
