use Rattle.std.proofs.Common.{◌≡◌, List, map, take}
use Rattle.std.specs.Prelude.{reverse}
use Rattle.tp_driver.proofs.steps.next_steps.Given as goal
use Rattle.tp_driver.specs.Cast.{AllStand}
use Rattle.tp_rules.specs.Journal.{acts, identity_in}
use Rattle.tp_rules.specs.Pending.{actors_of}
use Rattle.tp_rules.specs.Rules.{enabled}
use Rattle.tp_rules.specs.declared.event.Entry.{Entry}
use Rattle.tp_script.specs.declared.script.Script.{Script}

abbrev pub invariant-loop-actor : goal.invariant-loop-actor
invariant-loop-actor g l = (script : Script) (journal : List Entry) → AllStand g.A.Actor.identity_of g.A.Actor.is_spent g.A.Actor.stands script l.actors journal
    → l.next.items ≡ map (λ a. enabled (identity_in script a) (acts (reverse journal) a)) (take l.actor-index (actors_of script))
