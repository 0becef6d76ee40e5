use Rattle.std.proofs.Common.{◌≡◌, ◌++◌, take}
use Rattle.std.specs.List.{flat_map}
use Rattle.tp_wire.specs.Spelling.{pair}
use Rattle.tp_wire.proofs.writing.put_each_pair.Given as goal

abbrev pub invariant-loop-pair : goal.invariant-loop-pair
invariant-loop-pair l = l.put ≡ l.fn.put ++ flat_map pair (take l.pair-index l.pairs)
