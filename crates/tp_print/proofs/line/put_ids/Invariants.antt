use Rattle.std.proofs.Common.{◌≡◌, ◌++◌, take}
use Rattle.std.specs.List.{flat_map}
use Rattle.tp_print.specs.Report.{spaced}
use Rattle.tp_print.proofs.line.put_ids.Given as goal
use Rattle.tp_text.specs.Names.{id_word}

abbrev pub invariant-loop-id : goal.invariant-loop-id
invariant-loop-id l = l.out ≡ l.initial.out ++ flat_map (λ id. spaced (id_word id)) (take l.id-index l.ids)
