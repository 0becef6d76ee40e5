use Rattle.std.proofs.Common.{refl, ap, ◌∙◌}
use Rattle.std.specs.Prelude.{reverse}
use Rattle.tp_driver.proofs.Stands.{stand_still}
use Rattle.tp_driver.proofs.Turns.{on_ok}
use Rattle.tp_driver.proofs.acting.act.Goals as goal
use Rattle.tp_rules.specs.Journal.{act_of}

pub returns-in-Deliver-clause-cast : goal.returns-in-Deliver-clause-cast
returns-in-Deliver-clause-cast g c = on_ok c.deliver.result (λ cast e actor event. cast e actor (event ∙ c.in-Deliver.is)) c.deliver.ensures.cast

pub returns-in-Dropped-clause-cast : goal.returns-in-Dropped-clause-cast
returns-in-Dropped-clause-cast g c = λ e actor event.
    stand_still g.A.Actor.identity_of g.A.Actor.is_spent g.A.Actor.stands c.args.script.now c.args.actors.now c.args.earlier.now c.requires.cast e _ (ap (act_of (reverse c.args.earlier.now)) (event ∙ c.in-Dropped.is)) refl

pub returns-in-Inner-clause-cast : goal.returns-in-Inner-clause-cast
returns-in-Inner-clause-cast g c = on_ok c.fire.result (λ cast e actor event. cast e actor (event ∙ c.in-Inner.is)) c.fire.ensures.cast
