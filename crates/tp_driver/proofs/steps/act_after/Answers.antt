use Rattle.std.proofs.Common.{◌≡◌, ◌++◌, ◌∷◌, [], List, subst, ◌∙◌}
use Rattle.std.specs.Prelude.{OnOk}
use Rattle.tp_driver.proofs.steps.act_after.Goals as goal
use Rattle.tp_driver.specs.Cast.{AllStand}
use Rattle.tp_rules.specs.declared.event.Entry.{Entry}

pub returns-clause-cast : goal.returns-clause-cast
returns-clause-cast g c = subst (λ (j : List Entry). OnOk c.act.result ((e : Entry) → e.actor ≡ c.args.item.actor → e.event ≡ c.args.item.event →
    AllStand g.A.Actor.identity_of g.A.Actor.is_spent g.A.Actor.stands c.args.script.now c.act.new.actors (j ++ e ∷ [])))
    (c.as_slice.ensures ∙ c.entries.ensures) c.act.ensures.cast
