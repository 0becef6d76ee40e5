use Rattle.std.proofs.Common.{◌≡◌, None, not}
use Rattle.std.specs.Prelude.{◌==◌, find}
use Rattle.tp_mstable.specs.Declarations.{Calls, Keeps, is_heard}
use Rattle.tp_ops.specs.Parts.{is_accessed}
use Rattle.tp_executor.proofs.Accessed.{passing}
use Rattle.tp_executor.proofs.others.awaited.Given as goal

abbrev pub invariant-loop-i : goal.invariant-loop-i
invariant-loop-i l = (calls : Calls) → Keeps l.declared calls
    → find (λ q. not (is_heard calls.heard l.id q)) (passing (λ q. not (q == l.p.0)) (is_accessed l.topology.partitions l.command) l.i) ≡ None
