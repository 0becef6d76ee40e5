use Rattle.std.proofs.Common.{◌≡◌, true}
use Rattle.tp_session.proofs.Tables.{whole_so_far}
use Rattle.tp_session.proofs.answered.is_whole.Given as goal

abbrev pub invariant-loop-i : goal.invariant-loop-i
invariant-loop-i l = whole_so_far l.topology.partitions l.parts l.command l.i ≡ true
