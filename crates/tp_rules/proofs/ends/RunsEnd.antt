-- Every run of an accepted script has an end: with what is left of it, it has no more entries than the empty journal has left.
-- Used by the driver's loop.
use Rattle.std.proofs.Common.{◌<◌, List, [], ◌∷◌, ◌++◌, sym, subst}
use Rattle.tp_rules.specs.Left.{left}
use Rattle.tp_rules.specs.Runs.{IsHistory}
use Rattle.tp_rules.specs.declared.event.Entry.{Entry}
use Rattle.tp_script.specs.Accepted.{IsAccepted}
use Rattle.tp_script.specs.declared.script.Script.{Script}
use Rattle.tp_rules.specs.Runs.{IsRun}
use Rattle.std.specs.Prelude.{reverse}
use Rattle.tp_base.proofs.Ends.{reverse_push}
use Rattle.tp_rules.proofs.ends.LeftFalls.{left_falls}

-- a journal in its own order: one more entry lowers what is left
pub left_after : (script : Script) → IsAccepted script → (journal : List Entry) (e : Entry) → IsRun script (journal ++ e ∷ []) →
    left script (reverse (journal ++ e ∷ [])) < left script (reverse journal)
unfolding IsRun
left_after script accepted journal e run =
    let turned = reverse_push journal e in
    let history : IsHistory script (e ∷ reverse journal) = subst (IsHistory script) turned run in
    subst (λ (l : List Entry). left script l < left script (reverse journal)) (sym turned) (left_falls script (reverse journal) e accepted history)
