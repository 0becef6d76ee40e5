-- A call is served by threads or without.
use Rattle.std.proofs.Common.{◌≡◌, true, false, Option, Some, None, is_some, refl}
use Rattle.tp_run.specs.Calls.{plain, threaded}
use Rattle.tp_run.specs.declared.call.Call.{Call}
use Rattle.tp_run.specs.declared.call.Call.TheVariants.{Run, Trace, Step, Check, Gen, Load}

pub threaded_is : (call : Option Call) → is_some (threaded call) ≡ true → threaded call ≡ call
threaded_is None e = refl
threaded_is (Some Run) e = refl
threaded_is (Some Trace) e = refl
threaded_is (Some Step) e = absurd cc
threaded_is (Some Check) e = absurd cc
threaded_is (Some (Gen n)) e = absurd cc
threaded_is (Some (Load n)) e = absurd cc

pub plain_is : (call : Option Call) → is_some (threaded call) ≡ false → plain call ≡ call
plain_is None e = refl
plain_is (Some Run) e = absurd cc
plain_is (Some Trace) e = absurd cc
plain_is (Some Step) e = refl
plain_is (Some Check) e = refl
plain_is (Some (Gen n)) e = refl
plain_is (Some (Load n)) e = refl
