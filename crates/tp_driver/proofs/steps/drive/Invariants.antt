use Rattle.std.specs.Prelude.{reverse}
use Rattle.tp_driver.proofs.steps.drive.Given as goal
use Rattle.tp_driver.specs.Cast.{AllStand}
use Rattle.tp_driver.specs.Driving.{IsDriven}
use Rattle.tp_netbook.specs.Netbook.{AreNext, IsNetbook}
use Rattle.tp_rules.specs.Left.{left}

abbrev pub invariant-loop-next : goal.invariant-loop-next
invariant-loop-next g l = IsDriven l.script l.journal × IsNetbook l.script l.journal l.netbook
    × AllStand g.A.Actor.identity_of g.A.Actor.is_spent g.A.Actor.stands l.script l.actors l.journal × AreNext l.script l.journal l.next

abbrev pub decreases-loop-next : goal.decreases-loop-next
decreases-loop-next g l = left l.script (reverse l.journal)
