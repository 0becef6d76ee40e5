-- What contracts see of a source and a sink over memory whose calls are numbered from 1, some of which fail.
use Rattle.std.specs.Prelude.{ℕ, List}

-- the bytes that are left, the numbers of the calls that fail, and how many calls were made and have failed
pub record Input : Type 0 where
  pub left : List ℕ
  pub failing : List ℕ
  pub calls : ℕ
  pub faults : ℕ

-- the bytes that were written, how many a call takes at most, the numbers of the calls that fail, and how many calls were made and have failed
pub record Output : Type 0 where
  pub written : List ℕ
  pub piece : ℕ
  pub failing : List ℕ
  pub calls : ℕ
  pub faults : ℕ
