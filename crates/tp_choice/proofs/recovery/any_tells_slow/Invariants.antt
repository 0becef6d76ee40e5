use Rattle.std.proofs.Common.{◌≡◌, drop}
use Rattle.std.specs.List.{list_any}
use Rattle.tp_choice.specs.Choosing.{tells_slow}
use Rattle.tp_topology.specs.Shape.{in_ring}
use Rattle.tp_choice.proofs.recovery.any_tells_slow.Given as goal

abbrev pub invariant-loop-answer : goal.invariant-loop-answer
invariant-loop-answer l = list_any (tells_slow (in_ring l.topology l.home.0) l.home.0) (drop l.answer-index l.answers) ≡ list_any (tells_slow (in_ring l.topology l.home.0) l.home.0) l.answers
