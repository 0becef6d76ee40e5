-- How far a process has promised its numbers, and how far it has told so.
use Rattle.std.specs.Prelude.{ℕ}

-- each number up to the clock is promised, and each up to `told` was told
pub record Promised : Type 0 where
  pub clock : ℕ
  pub told : ℕ
