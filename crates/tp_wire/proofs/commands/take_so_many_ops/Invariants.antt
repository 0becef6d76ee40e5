use Rattle.std.proofs.Common.{◌≡◌, ◌-◌}
use Rattle.tp_wire.specs.Meaning.{op_at, times_at}
use Rattle.tp_wire.proofs.Counted.{with_front}
use Rattle.tp_wire.proofs.commands.take_so_many_ops.Given as goal

abbrev pub invariant-loop : goal.invariant-loop
invariant-loop l = with_front l.ops (times_at op_at (l.count - l.counter) l.cut) ≡ times_at op_at l.count l.fn.cut
