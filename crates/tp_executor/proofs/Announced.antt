-- An announcement in the ranges of the wire format tells a range with attached numbers of it, in order. Used by `take`.
use Rattle.std.proofs.Common.{ℕ, ◌+◌, ◌≤◌, ◌<◌, true, List, [], ◌∷◌, arith}
use Rattle.std.specs.Prelude.{◌≡◌, nat_lt}
use Rattle.std.proofs.lemmas.Bool.{lt-ltb}
use Rattle.tp_base.proofs.Each.{each_weaker}
use Rattle.tp_base.specs.Lists.{Ascends, Each}
use Rattle.tp_base.specs.declared.names.ActorName.{ActorName}
use Rattle.tp_base.specs.declared.names.Pair.{Pair}
use Rattle.tp_promise.specs.Pages.{AreTold}
use Rattle.tp_wire.specs.Ranges.{IsAttached, IsBody}
use Rattle.tp_wire.specs.declared.message.Body.TheVariants.{MPromises}

attached_within : (lo hi : ℕ) (pairs : List Pair) → IsAttached lo hi pairs → Each (λ p. (lo < p.stamp.0) × (p.stamp.0 ≤ hi)) pairs
attached_within lo hi [] h = tt
attached_within lo hi (pair ∷ pairs) h =
    let here : (lo + 1 ≤ pair.stamp.0) × (pair.stamp.0 ≤ hi) = h.1 in
    let above : lo < pair.stamp.0 = omega (arith, here.0) in (
      (above, here.1),
      each_weaker (λ (p : Pair). (pair.stamp.0 < p.stamp.0) × (p.stamp.0 ≤ hi)) (λ (p : Pair). (lo < p.stamp.0) × (p.stamp.0 ≤ hi))
          (λ p both. (omega (arith, both.0), both.1)) pairs (attached_within pair.stamp.0 hi pairs h.2),
    )

attached_ascends : (lo hi : ℕ) (pairs : List Pair) → IsAttached lo hi pairs → Ascends (λ a b. nat_lt a.stamp.0 b.stamp.0) pairs
attached_ascends lo hi [] h = tt
attached_ascends lo hi (pair ∷ pairs) h = (
  each_weaker (λ (p : Pair). (pair.stamp.0 < p.stamp.0) × (p.stamp.0 ≤ hi)) (λ (p : Pair). nat_lt pair.stamp.0 p.stamp.0 ≡ true)
      (λ p both. lt-ltb pair.stamp.0 p.stamp.0 both.0) pairs (attached_within pair.stamp.0 hi pairs h.2),
  attached_ascends pair.stamp.0 hi pairs h.2,
)

pub told_in_range : (from to : ActorName) (lo hi : ℕ) (pairs : List Pair) → IsBody from to (MPromises lo hi pairs) → AreTold lo hi pairs
told_in_range from to lo hi pairs h = record {
  ascending = attached_ascends lo hi pairs h.5;
  within = attached_within lo hi pairs h.5;
}
