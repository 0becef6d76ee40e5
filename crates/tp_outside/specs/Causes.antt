-- Counts of faults, and which answers they are the cause of.
use Rattle.tp_outside.specs.declared.source.Failed.{Failed}
use Rattle.std.specs.Prelude.{◌≡◌, ℕ, ◌+◌, ◌-◌, ◌^◌, ◌≤◌, min, Result, IsErrOf}

-- a count after one more, which stands still at the greatest u64
abbrev pub raised : ℕ → ℕ
raised count = min (count + 1) (2 ^ 64 - 1)

-- a count rose: it is greater than before, or stands at the greatest u64
abbrev pub Rose : ℕ → ℕ → Type 0
Rose before now = raised before ≤ now

-- the fault is answered only where the count of faults rose, and with every other answer the count is as before
pub record HasCause {T E : Type 0} (before now : ℕ) (result : Result T E) (fault : E) : Type 0 where
  pub later : before ≤ now
  pub failed : IsErrOf result fault → Rose before now
  pub kept : ¬ IsErrOf result fault → now ≡ before

-- the one fault of a read
abbrev pub read_failed : Failed
read_failed = record {}
