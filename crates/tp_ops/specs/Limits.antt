-- How long keys and values may be, and how many operations a command may have.
use Rattle.std.specs.Prelude.{ℕ, ◌≤◌, ◌<◌, List, length}
use Rattle.tp_base.specs.Limits.{IsFrom, IsId}
use Rattle.tp_base.specs.Lists.{Each}
use Rattle.tp_ops.specs.declared.command.Command.{Command}
use Rattle.tp_ops.specs.declared.operation.Answer.{Answer}
use Rattle.tp_ops.specs.declared.operation.Answer.TheVariants.{Missing, Value, Yes, No}
use Rattle.tp_ops.specs.declared.operation.Op.{Op}
use Rattle.tp_ops.specs.declared.operation.Op.TheVariants.{Get, Put, Del, Cas}

-- bytes, so many of them
abbrev pub IsText : ℕ → ℕ → List ℕ → Type 0
IsText low high bytes = IsFrom low high (length bytes) × Each (λ b. b < 256) bytes

abbrev pub IsKey : List ℕ → Type 0
IsKey bytes = IsText 1 32 bytes

abbrev pub IsValue : List ℕ → Type 0
IsValue bytes = IsText 0 64 bytes

abbrev pub IsOp : Op → Type 0
IsOp (Get key) = IsKey key
IsOp (Put key value) = IsKey key × IsValue value
IsOp (Del key) = IsKey key
IsOp (Cas key old new) = IsKey key × IsValue old × IsValue new

abbrev pub IsCommand : Command → Type 0
IsCommand c = IsId c.id × IsFrom 1 7 c.home.0 × IsFrom 1 16 (length c.ops) × Each IsOp c.ops

abbrev pub IsAnswer : Answer → Type 0
IsAnswer Missing = Unit {0}
IsAnswer (Value value) = IsValue value
IsAnswer Yes = Unit {0}
IsAnswer No = Unit {0}
