use Rattle.std.proofs.Common.{[], List, ◌∙◌, ap, sym, subst}
use Rattle.tp_base.specs.declared.names.ActorName.TheVariants.{Process}
use Rattle.tp_rules.specs.declared.event.Event.TheVariants.{Inner as OfItself}
use Rattle.tp_rules.specs.declared.event.Inner.TheVariants.{Crash}
use Rattle.tp_shared.specs.Histories.{MayFollow}
use Rattle.tp_shared.specs.Known.{Known, name_of}
use Rattle.tp_shared_tests.proofs.Legal.{crash_entered, crash_may, legal_now}
use Rattle.tp_shared_tests.proofs.crash.crash.Goals as goal
use Rattle.tp_shared_tests.specs.Small.{HasCrashed, site}
use Rattle.tp_wire.specs.declared.message.Message.{Message}

pub enter-requires-clause-legal : goal.enter-requires-clause-legal
enter-requires-clause-legal g c =
    legal_now c.args.script.now (Process site) (OfItself Crash) c.new.result c.args.desk c.hold.new.self c.requires.desk c.hold.ensures.held c.hold.ensures.run c.told.ensures
    (subst (λ (o : List Message). MayFollow c.args.script.now [] (record { actor = Process site; event = OfItself Crash; outputs = o })) (sym c.new.ensures)
    (crash_may c.args.script.now c.requires.small))

pub returns-clause-crashed : goal.returns-clause-crashed
returns-clause-crashed g c =
    let held : Known = c.hold.new.self in
    let seen = ap (λ (k : Known). k.seen) c.release-2.ensures ∙ ap (λ (k : Known). k.seen) c.in-Ok.ensures.entered in
    let name = ap (λ (k : Known). name_of k.actor) c.hold.ensures.held ∙ ap name_of c.requires.desk.actor in
    subst HasCrashed (sym seen) (crash_entered held.seen (name_of held.actor) c.new.result name)
