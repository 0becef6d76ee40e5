use Rattle.std.proofs.Common.{◌∷◌, ◌++◌, [], Some, List, ◌∙◌, ap, sym, subst}
use Rattle.tp_rules.specs.Runs.{IsRun}
use Rattle.tp_script.specs.declared.script.Script.{Script}
use Rattle.tp_shared.proofs.Desks.{opens_as}
use Rattle.tp_shared.proofs.shared.Shared.begin.Goals as goal
use Rattle.tp_shared.specs.Rule.{Slot}

pub new-requires : goal.new-requires
new-requires c =
    opens_as (record { script = c.of.result.value; journal = c.of-2.result.value }) c.args.journal c.push.new.self.items
    (c.of-2.ensures ∙ c.entries.ensures)
    (c.in_default.ensures.items ∙ ap (λ (l : List Slot). l ++ Some c.args.journal ∷ []) c.new-slots.ensures.items)
    (subst (λ (s : Script). IsRun s c.args.journal) (sym c.of.ensures) c.requires.run)
