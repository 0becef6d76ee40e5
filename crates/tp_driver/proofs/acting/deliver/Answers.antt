use Rattle.std.proofs.Common.{◌<◌, length, refl, sym, ◌∙◌, arith}
use Rattle.std.specs.Prelude.{reverse}
use Rattle.tp_driver.proofs.Stands.{sends, stand_after, there, within}
use Rattle.tp_driver.proofs.Turns.{act_is, in_range, nothing_for, takes}
use Rattle.tp_driver.proofs.acting.deliver.Goals as goal
use Rattle.tp_rules.proofs.Journals.{output_is}
use Rattle.tp_rules.specs.Acts.{Took}
use Rattle.tp_rules.specs.Journal.{output_at}

pub returns-in_default-clause-outputs : goal.returns-in_default-clause-outputs
returns-in_default-clause-outputs g c =
    absurd (nothing_for c.args.to (output_at (reverse c.args.earlier.now) c.args.entry c.args.place) c.requires.may.may
    (sym (output_is c.args.earlier.now c.args.entry c.args.place) ∙ sym c.in_default.ensures))

pub returns-in_default-clause-cast : goal.returns-in_default-clause-cast
returns-in_default-clause-cast g c =
    absurd (nothing_for c.args.to (output_at (reverse c.args.earlier.now) c.args.entry c.args.place) c.requires.may.may
    (sym (output_is c.args.earlier.now c.args.entry c.args.place) ∙ sym c.in_default.ensures))

pub prove-unreachable-requires : goal.prove-unreachable-requires
prove-unreachable-requires g c =
    let inside : c.place_of-home.result < length c.args.actors.now =
    within g.A.Actor.identity_of g.A.Actor.is_spent g.A.Actor.stands c.args.script.now c.args.actors.now c.args.earlier.now c.requires.cast c.args.to c.requires.may.known c.place_of-home.result c.place_of-home.ensures in
    omega (arith, inside, c.if-prove.true)

pub deliver-requires-clause-unspent : goal.deliver-requires-clause-unspent
deliver-requires-clause-unspent g c =
    (there g.A.Actor.identity_of g.A.Actor.is_spent g.A.Actor.stands c.args.script.now c.args.actors.now c.args.earlier.now c.requires.cast c.args.to c.requires.may.known c.place_of-home.result c.place_of-home.ensures c.index-actors-home.result).1

pub deliver-requires-clause-range : goal.deliver-requires-clause-range
deliver-requires-clause-range g c =
    in_range c.args.script.now c.requires.accepted c.args.earlier.now c.requires.run c.args.entry c.args.place c.in-Some.message.now
    (sym (output_is c.args.earlier.now c.args.entry c.args.place) ∙ sym c.in-Some.ensures)

pub returns-clause-outputs : goal.returns-clause-outputs
returns-clause-outputs g c =
    takes c.args.script.now c.args.earlier.now c.args.to c.args.entry c.args.place c.in-Some.message.now
    (sym (output_is c.args.earlier.now c.args.entry c.args.place) ∙ sym c.in-Some.ensures) c.in_ok-outputs.outputs
    (sends g.A.Actor.identity_of g.A.Actor.is_spent g.A.Actor.stands c.args.script.now c.args.actors.now c.args.earlier.now c.requires.cast c.args.to c.requires.may.known c.place_of-home.result c.place_of-home.ensures c.index-actors-home.result
    (Took c.in-Some.message.now) c.in_ok-outputs.outputs c.in_ok-outputs.ensures.outputs)

pub returns-clause-cast : goal.returns-clause-cast
returns-clause-cast g c = λ e actor event.
    stand_after g.A.Actor.identity_of g.A.Actor.is_spent g.A.Actor.stands c.args.script.now c.args.actors.now c.args.earlier.now c.requires.cast c.args.to c.requires.may.known c.place_of-home.result c.place_of-home.ensures c.index-actors-home.result
    c.deliver.new.self e (Took c.in-Some.message.now) _ c.in_ok-outputs.ensures.identity c.in_ok-outputs.ensures.spent c.in_ok-outputs.ensures.stands actor
    (act_is c.args.earlier.now e.event c.args.entry c.args.place c.in-Some.message.now event (sym (output_is c.args.earlier.now c.args.entry c.args.place) ∙ sym c.in-Some.ensures)) refl
