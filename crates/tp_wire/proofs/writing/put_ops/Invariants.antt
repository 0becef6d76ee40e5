use Rattle.std.proofs.Common.{◌≡◌, ◌++◌, take}
use Rattle.std.specs.List.{flat_map}
use Rattle.tp_wire.specs.Spelling.{op}
use Rattle.tp_wire.proofs.writing.put_ops.Given as goal

abbrev pub invariant-loop-op : goal.invariant-loop-op
invariant-loop-op l = l.put ≡ l.fn.put ++ flat_map op (take l.op-index l.ops)
