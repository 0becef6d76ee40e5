use Rattle.std.proofs.Common.{◌≡◌, drop, max}
use Rattle.tp_choice.specs.Choosing.{greatest_by, member_stamp}
use Rattle.tp_topology.specs.Shape.{in_ring}
use Rattle.tp_choice.proofs.recovery.greatest_member_stamp.Given as goal

abbrev pub invariant-loop-answer : goal.invariant-loop-answer
invariant-loop-answer l =
    max l.top (greatest_by (member_stamp (in_ring l.topology l.home.0)) (drop l.answer-index l.answers)) ≡ greatest_by (member_stamp (in_ring l.topology l.home.0)) l.answers
