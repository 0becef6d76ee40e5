-- A proposal promises each number that the clock passes.
use Rattle.std.proofs.Common.{◌≤◌, ◌<◌, ◌↔◌, inl, inr, ℕ, Option, Some, None, refl, arith}
use Rattle.std.proofs.lemmas.Bool.{cases_eq}
use Rattle.tp_base.specs.Promises.{proposed_stamp, IsMadeByProposal}
use Rattle.tp_base.specs.declared.names.CommandId.{CommandId}

passed : (floor clock : ℕ) (id : CommandId) (n : ℕ) → (clock < n) × (n ≤ proposed_stamp floor clock)
    → (owner : Option CommandId) × IsMadeByProposal floor clock id n owner
passed floor clock id n range = elim (cases_eq n (proposed_stamp floor clock)) [
  | inl last ↦ (Some id, inl (last, refl))
  | inr apart ↦ (None, inr (range.0, omega arith, refl))
]

made : (floor clock : ℕ) (id : CommandId) (n : ℕ) (owner : Option CommandId) → IsMadeByProposal floor clock id n owner
    → (clock < n) × (n ≤ proposed_stamp floor clock)
made floor clock id n owner (inl last) = (omega (arith, last.0), omega (arith, last.0))
made floor clock id n owner (inr between) = (between.0, omega (arith, between.1))

pub passed_made : (floor clock : ℕ) (id : CommandId) (n : ℕ)
    → ((clock < n) × (n ≤ proposed_stamp floor clock)) ↔ ((owner : Option CommandId) × IsMadeByProposal floor clock id n owner)
passed_made floor clock id n = (passed floor clock id n, λ h. made floor clock id n h.0 h.1)
