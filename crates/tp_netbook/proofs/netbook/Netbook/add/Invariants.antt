use Rattle.std.proofs.Common.{take}
use Rattle.tp_netbook.proofs.netbook.Netbook.add.Given as goal
use Rattle.tp_netbook.specs.Netbook.{Adds, KeepsMarks, KeepsRest}
use Rattle.tp_rules.specs.Journal.{numbered}

abbrev pub invariant-loop-i : goal.invariant-loop-i
invariant-loop-i l = record {
  adds : Adds (numbered l.fn.self.entries 1 (take l.i l.outputs)) l.fn.self l.self;
  marks : KeepsMarks l.fn.self l.self;
  rest : KeepsRest l.fn.self l.self;
}
