use Rattle.std.proofs.Common.{take}
use Rattle.tp_check.proofs.checker.replay.Given as goal
use Rattle.tp_driver.specs.Cast.{AllStand}
use Rattle.tp_netbook.specs.Ledger.{IsLedger}
use Rattle.tp_rules.specs.Runs.{IsRun}

abbrev pub invariant-loop-k : goal.invariant-loop-k
invariant-loop-k g l = record {
  run : IsRun l.script (take l.k l.journal);
  ledger : IsLedger l.script (take l.k l.journal) l.ledger;
  cast : AllStand g.A.Actor.identity_of g.A.Actor.is_spent g.A.Actor.stands l.script l.actors (take l.k l.journal);
}
