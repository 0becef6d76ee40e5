-- A sheet that is put back as it was changes nothing.
use Rattle.std.proofs.Common.{◌≡◌, Bool, true, false, cond, refl, ap}
use Rattle.tp_base.proofs.SameNames.{same_id_is}
use Rattle.tp_base.specs.Names.{same_id}
use Rattle.tp_base.specs.declared.names.CommandId.{CommandId}
use Rattle.tp_rules.specs.Process.{ProcessState, with_sheet}
use Rattle.tp_rules.specs.Sheet.{Sheet}
use mathlib.Core.Path.{fun_ext}

sheet_put_back : (sheets : CommandId → Sheet) (id other : CommandId) →
    cond (same_id id other) (sheets id) (sheets other) ≡ sheets other
sheet_put_back sheets id other = by_test (same_id id other) refl
  where
    by_test : (b : Bool) → same_id id other ≡ b → cond b (sheets id) (sheets other) ≡ sheets other
    by_test true same = ap sheets (same_id_is id other same)
    by_test false same = refl

pub same_sheet : (id : CommandId) (state : ProcessState) → with_sheet id (state.sheets id) state ≡ state
same_sheet id state = λ i. record {
  clock = state.clock;
  told = state.told;
  attached = state.attached;
  sheets = fun_ext (sheet_put_back state.sheets id) i;
}
