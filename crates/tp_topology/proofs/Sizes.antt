-- How large the quorums of a shape are.
use Rattle.std.proofs.Common.{◌+◌, ◌*◌, ◌/◌, ◌<◌, ◌≤◌, arith}
use Rattle.tp_topology.specs.Shape.{IsShape, Shape, fast_size, majority_size, recovery_size, slow_size}

pub failures_few : (s : Shape) → IsShape s → 2 * s.failures < s.replicas
failures_few s is = omega (arith, is.some_replicas, is.minority)

pub recovery_is_majority : (s : Shape) → IsShape s → majority_size s ≤ recovery_size s
recovery_is_majority s is = omega (arith, failures_few s is)

pub majorities_meet : (s : Shape) → s.replicas < majority_size s + majority_size s
majorities_meet s = omega arith

pub fast_is_majority : (s : Shape) → IsShape s → majority_size s ≤ fast_size s
fast_is_majority s is = omega (arith, is.some_failure)

-- a recovery quorum meets each consensus quorum
pub recovery_meets_slow : (s : Shape) → IsShape s → s.replicas < recovery_size s + slow_size s
recovery_meets_slow s is = omega (arith, failures_few s is)

-- and each fast quorum, in so many ranks at least
pub recovery_meets_fast : (s : Shape) → IsShape s → s.replicas + s.replicas / 2 ≤ recovery_size s + fast_size s
recovery_meets_fast s is = omega (arith, failures_few s is)
