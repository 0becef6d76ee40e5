use Rattle.std.proofs.Common.{◌≡◌, ◌++◌, take}
use Rattle.std.specs.List.{flat_map}
use Rattle.tp_wire.specs.Spelling.{answer}
use Rattle.tp_wire.proofs.writing.put_each_answer.Given as goal

abbrev pub invariant-loop-given : goal.invariant-loop-given
invariant-loop-given l = l.put ≡ l.fn.put ++ flat_map answer (take l.given-index l.answers)
