use Rattle.std.proofs.Common.{is_some, map, take}
use Rattle.tp_bits.specs.Bits.{AreBits}
use Rattle.tp_netbook.proofs.own_steps.OwnSteps.new.Given as goal

abbrev pub invariant-loop-step : goal.invariant-loop-step
invariant-loop-step l = AreBits (map is_some (take l.step-index l.step-items)) l.able
