use Rattle.std.proofs.Common.{List}
use Rattle.tp_base.specs.declared.names.CommandId.{CommandId}
use Rattle.tp_promise.specs.Books.{IsBook}
use Rattle.tp_topology.specs.Shape.{majority_size}
use Rattle.tp_topology.specs.Stability.{Telling, is_counted}
use Rattle.tp_stable.proofs.Thresholds.{Found}
use Rattle.tp_stable.proofs.stability.threshold.Given as goal

abbrev pub invariant-loop-k : goal.invariant-loop-k
invariant-loop-k l =
    (told : List Telling) (committed : List CommandId) → IsBook l.book told committed → Found (is_counted told committed) (majority_size l.topology) l.topology.replicas l.top l.k
