-- The status of each cause.
use Rattle.std.specs.Prelude.{ℕ}
use Rattle.tp_run.specs.declared.finished.Cause.{Cause}
use Rattle.tp_run.specs.declared.finished.Cause.TheVariants as causes

abbrev pub status_of : Cause → ℕ
status_of causes.Words = 2
status_of (causes.Script fault) = 3
status_of (causes.Journal fault) = 3
status_of (causes.Input got limit) = 3
status_of causes.Read = 4
status_of causes.Write = 5
status_of causes.Memory = 6
status_of (causes.Verdict entry why) = 7
