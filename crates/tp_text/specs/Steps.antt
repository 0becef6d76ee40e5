-- Readings that may fail: steps one after the other, up to the first fault.
use Rattle.std.specs.Prelude.{Bool, if◌then◌else◌, Result, Ok, Err}

-- the next step, where the first gave a value
infixl 10 ◌>>=◌
abbrev pub ◌>>=◌ : {A B E : Type 0} → Result A E → (A → Result B E) → Result B E
(Ok x) >>= f = f x
(Err e) >>= f = Err e

-- the next step, where the first passed
infixl 10 ◌>>◌
abbrev pub ◌>>◌ : {A B E : Type 0} → Result A E → Result B E → Result B E
r >> s = r >>= λ _. s

-- a test, and its fault
abbrev pub need : {E : Type 0} → Bool → E → Result (Unit {0}) E
need b fault = if b then Ok tt else Err fault

-- one fault in the place of any other
abbrev pub else_cause : {A D E : Type 0} → E → Result A D → Result A E
else_cause cause (Ok x) = Ok x
else_cause cause (Err fault) = Err cause
