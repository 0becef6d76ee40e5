use Rattle.std.proofs.Common.{◌-◌, length}
use Rattle.std.specs.Prelude.{drop}
use Rattle.tp_fates.proofs.fate.Fates.new.Given as goal
use Rattle.tp_fates.specs.Fates.{AreFates}

abbrev pub invariant-loop-k : goal.invariant-loop-k
invariant-loop-k l = AreFates (drop (length l.plan - l.k) l.plan) l.fates
