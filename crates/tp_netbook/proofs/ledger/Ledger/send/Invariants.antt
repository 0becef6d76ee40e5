use Rattle.std.proofs.Common.{take}
use Rattle.tp_netbook.proofs.ledger.Ledger.send.Given as goal
use Rattle.tp_netbook.specs.Ledger.{KeepsPlan, Sends}
use Rattle.tp_rules.specs.Journal.{numbered}

abbrev pub invariant-loop-i : goal.invariant-loop-i
invariant-loop-i l = record {
  sends : Sends (numbered l.fn.self.entries 1 (take l.i l.outputs)) l.fn.self l.self;
  rest : KeepsPlan l.fn.self l.self;
}
