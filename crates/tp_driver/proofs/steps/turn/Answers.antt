use Rattle.std.proofs.Common.{◌≡◌, ◌<◌, ◌+◌, ◌^◌, ◌++◌, ◌∷◌, [], Some, length, refl, sym, subst, ap, ◌∙◌, arith}
use Rattle.std.proofs.lemmas.Option.{slice_get-get_or}
use Rattle.std.specs.Prelude.{slice_get}
use Rattle.tp_driver.proofs.Stands.{next_at, within}
use Rattle.tp_driver.proofs.Turns.{driven_more, falls, may_come, next_after, quiet_where, run_now}
use Rattle.tp_driver.proofs.steps.turn.Goals as goal
use Rattle.tp_driver.specs.Cast.{AllStand}
use Rattle.tp_driver.specs.Driving.{IsDriven}
use Rattle.tp_netbook.proofs.Places.{get_place}
use Rattle.tp_netbook.specs.Netbook.{AreNext, IsNetbook}
use Rattle.tp_rules.specs.Pending.{actors_of}
use Rattle.tp_rules.specs.declared.event.Entry.{Entry}

pub returns-in_default-clause-quiet : goal.returns-in_default-clause-quiet
returns-in_default-clause-quiet g c = λ still. quiet_where c.args.script.now c.args.journal.now c.in_default.ensures.chosen

pub act_after-requires-clause-may : goal.act_after-requires-clause-may
act_after-requires-clause-may g c = may_come c.args.script.now c.requires.accepted c.args.journal.now c.requires.driven.run c.in-Some.item c.in-Some.ensures.chosen

pub place_of-home-requires : goal.place_of-home-requires
place_of-home-requires g c = (may_come c.args.script.now c.requires.accepted c.args.journal.now c.requires.driven.run c.in-Some.item c.in-Some.ensures.chosen).known

pub prove-unreachable-requires : goal.prove-unreachable-requires
prove-unreachable-requires g c =
    let e : Entry = record { actor = c.in-Some.item.actor; event = c.in-Some.item.event; outputs = c.in_ok-outputs.outputs } in
    let inside : c.place_of-home.result < length c.act_after.new.actors =
    within g.A.Actor.identity_of g.A.Actor.is_spent g.A.Actor.stands c.args.script.now c.act_after.new.actors (c.args.journal.now ++ e ∷ []) (c.in_ok-outputs.ensures.cast e refl refl) c.in-Some.item.actor
    (may_come c.args.script.now c.requires.accepted c.args.journal.now c.requires.driven.run c.in-Some.item c.in-Some.ensures.chosen).known c.place_of-home.result c.place_of-home.ensures in
    omega (arith, inside, c.if-prove.true)

pub returns-clause-driven : goal.returns-clause-driven
returns-clause-driven g c =
    let e : Entry = record { actor = c.in-Some.item.actor; event = c.in-Some.item.event; outputs = c.in_ok-outputs.outputs } in
    subst (IsDriven c.args.script.now) (sym c.in_ok-enter.ensures.entered)
    (driven_more c.args.script.now c.requires.accepted c.args.journal.now c.requires.driven.run c.in-Some.item c.in-Some.ensures.chosen e refl refl c.in_ok-outputs.ensures.outputs c.requires.driven)

pub returns-clause-netbook : goal.returns-clause-netbook
returns-clause-netbook g c =
    let e : Entry = record { actor = c.in-Some.item.actor; event = c.in-Some.item.event; outputs = c.in_ok-outputs.outputs } in
    let short : length c.args.journal.now + 1 < 2 ^ 64 = omega (arith, c.choose.ensures.short) in
    subst (λ j. IsNetbook c.args.script.now j c.entered.new.self) (sym c.in_ok-enter.ensures.entered)
    (c.in_ok-entered.ensures c.args.script.now c.args.journal.now c.requires.netbook c.requires.accepted
    (run_now c.args.script.now c.requires.accepted c.args.journal.now c.requires.driven.run c.in-Some.item c.in-Some.ensures.chosen e refl refl c.in_ok-outputs.ensures.outputs) short)

pub returns-clause-cast : goal.returns-clause-cast
returns-clause-cast g c =
    let e : Entry = record { actor = c.in-Some.item.actor; event = c.in-Some.item.event; outputs = c.in_ok-outputs.outputs } in
    subst (AllStand g.A.Actor.identity_of g.A.Actor.is_spent g.A.Actor.stands c.args.script.now c.act_after.new.actors) (sym c.in_ok-enter.ensures.entered) (c.in_ok-outputs.ensures.cast e refl refl)

pub returns-clause-next : goal.returns-clause-next
returns-clause-next g c =
    let e : Entry = record { actor = c.in-Some.item.actor; event = c.in-Some.item.event; outputs = c.in_ok-outputs.outputs } in
    let known = (may_come c.args.script.now c.requires.accepted c.args.journal.now c.requires.driven.run c.in-Some.item c.in-Some.ensures.chosen).known in
    let there : slice_get (actors_of c.args.script.now) c.place_of-home.result ≡ Some c.in-Some.item.actor =
    ap (slice_get (actors_of c.args.script.now)) c.place_of-home.ensures ∙ get_place c.args.script.now c.in-Some.item.actor known in
    subst (λ j. AreNext c.args.script.now j c.set.new.self) (sym c.in_ok-enter.ensures.entered)
    (c.set.ensures ∙
    (next_after c.args.script.now c.args.journal.now e c.in-Some.item.actor known refl c.args.next.now c.place_of-home.result c.next_inner.result c.requires.next c.place_of-home.ensures
    (next_at g.A.Actor.identity_of g.A.Actor.is_spent g.A.Actor.stands c.args.script.now c.act_after.new.actors (c.args.journal.now ++ e ∷ []) (c.in_ok-outputs.ensures.cast e refl refl)
    c.place_of-home.result _ c.next_inner.result c.in-Some.item.actor
    (slice_get-get_or c.act_after.new.actors c.place_of-home.result c.index-actors-home.result c.if-prove.false) there c.next_inner.ensures)))

pub returns-clause-falls : goal.returns-clause-falls
returns-clause-falls g c = λ went.
    falls c.args.script.now c.requires.accepted c.args.journal.now c.enter.new.self (returns-clause-driven g c).run (_, c.in_ok-enter.ensures.entered)
