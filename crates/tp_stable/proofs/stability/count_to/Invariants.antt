use Rattle.std.proofs.Common.{◌≡◌, ◌≤◌, List}
use Rattle.tp_base.specs.declared.names.CommandId.{CommandId}
use Rattle.tp_promise.specs.Books.{IsBook}
use Rattle.tp_topology.specs.Counting.{all_up_to, count_up_to}
use Rattle.tp_topology.specs.Stability.{Telling, is_counted}
use Rattle.tp_stable.proofs.stability.count_to.Given as goal

abbrev pub invariant-loop-k : goal.invariant-loop-k
invariant-loop-k l = record {
  few : l.count ≤ l.k;
  counted : (told : List Telling) (committed : List CommandId) → IsBook l.book told committed → l.count ≡ count_up_to (λ rank. all_up_to (is_counted told committed rank) l.stamp) l.k;
}
