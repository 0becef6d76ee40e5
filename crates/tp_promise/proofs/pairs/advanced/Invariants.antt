use Rattle.std.proofs.Common.{◌≡◌, ◌-◌, ◌^◌}
use Rattle.tp_promise.specs.Pages.{Advances, IsStopped}
use Rattle.tp_promise.proofs.pairs.advanced.Given as goal

abbrev pub invariant-loop-front : goal.invariant-loop-front
invariant-loop-front l = record {
  so_far : Advances l.ranges l.attached l.fn.front l.front;
  next : Advances l.ranges l.attached l.front l.next;
  stopped : l.next ≡ l.front → IsStopped l.ranges l.attached l.front;
}

abbrev pub decreases-loop-front : goal.decreases-loop-front
decreases-loop-front l = 2 ^ 64 - l.front
