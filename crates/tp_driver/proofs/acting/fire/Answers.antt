use Rattle.std.proofs.Common.{◌<◌, length, refl, sym, subst, ap, arith}
use Rattle.std.specs.Prelude.{reverse}
use Rattle.tp_driver.proofs.Stands.{sends, stand_after, there, within}
use Rattle.tp_driver.proofs.acting.fire.Goals as goal
use Rattle.tp_rules.specs.Acts.{Did}
use Rattle.tp_rules.specs.Journal.{act_of, acts}
use Rattle.tp_rules.specs.Rules.{MayMake}

pub prove-unreachable-requires : goal.prove-unreachable-requires
prove-unreachable-requires g c =
    let inside : c.place_of-home.result < length c.args.actors.now =
    within g.A.Actor.identity_of g.A.Actor.is_spent g.A.Actor.stands c.args.script.now c.args.actors.now c.args.earlier.now c.requires.cast c.args.name c.requires.may.known c.place_of-home.result c.place_of-home.ensures in
    omega (arith, inside, c.if-prove.true)

pub fire-requires-clause-unspent : goal.fire-requires-clause-unspent
fire-requires-clause-unspent g c =
    (there g.A.Actor.identity_of g.A.Actor.is_spent g.A.Actor.stands c.args.script.now c.args.actors.now c.args.earlier.now c.requires.cast c.args.name c.requires.may.known c.place_of-home.result c.place_of-home.ensures c.index-actors-home.result).1

pub fire-requires-clause-may : goal.fire-requires-clause-may
fire-requires-clause-may g c =
    let before = there g.A.Actor.identity_of g.A.Actor.is_spent g.A.Actor.stands c.args.script.now c.args.actors.now c.args.earlier.now c.requires.cast c.args.name c.requires.may.known c.place_of-home.result c.place_of-home.ensures c.index-actors-home.result in (
      acts (reverse c.args.earlier.now) c.args.name,
      before.2,
      subst (λ i. MayMake i (acts (reverse c.args.earlier.now) c.args.name) c.args.inner) (sym before.0) c.requires.may.may,
    )

pub returns-clause-outputs : goal.returns-clause-outputs
returns-clause-outputs g c =
    sends g.A.Actor.identity_of g.A.Actor.is_spent g.A.Actor.stands c.args.script.now c.args.actors.now c.args.earlier.now c.requires.cast c.args.name c.requires.may.known c.place_of-home.result c.place_of-home.ensures c.index-actors-home.result
    (Did c.args.inner) c.in_ok-outputs.outputs c.in_ok-outputs.ensures.outputs

pub returns-clause-cast : goal.returns-clause-cast
returns-clause-cast g c = λ e actor event.
    stand_after g.A.Actor.identity_of g.A.Actor.is_spent g.A.Actor.stands c.args.script.now c.args.actors.now c.args.earlier.now c.requires.cast c.args.name c.requires.may.known c.place_of-home.result c.place_of-home.ensures c.index-actors-home.result
    c.fire.new.self e (Did c.args.inner) _ c.in_ok-outputs.ensures.identity c.in_ok-outputs.ensures.spent c.in_ok-outputs.ensures.stands actor
    (ap (act_of (reverse c.args.earlier.now)) event) refl
