use Rattle.std.proofs.Common.{◌≡◌, ℕ, ◌<◌, Some}
use Rattle.std.specs.Prelude.{slice_get}
use Rattle.tp_entry.specs.Journals.{IsEntry}
use Rattle.tp_rules.specs.declared.event.Entry.{Entry}
use Rattle.tp_run.proofs.looking.look.Given as goal

abbrev pub invariant-loop-entry : goal.invariant-loop-entry
invariant-loop-entry l = (k : ℕ) (e : Entry) → k < l.entry-index → slice_get l.entries k ≡ Some e → IsEntry e
