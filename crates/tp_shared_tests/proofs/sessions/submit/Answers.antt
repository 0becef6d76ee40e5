use Rattle.std.proofs.Common.{◌≡◌, [], Some, sym}
use Rattle.tp_rules.specs.Rules.{enabled}
use Rattle.tp_rules.specs.declared.event.Event.TheVariants.{Inner as OfItself}
use Rattle.tp_rules.specs.declared.event.Inner.TheVariants.{Submit}
use Rattle.tp_session.specs.States.{identity}
use Rattle.tp_shared_tests.proofs.Legal.{legal_now, submit_may}
use Rattle.tp_shared_tests.proofs.sessions.submit.Goals as goal
use Rattle.tp_shared_tests.specs.Small.{session_name}

pub fire-requires-clause-may : goal.fire-requires-clause-may
fire-requires-clause-may g c =
    let stands = c.requires.session.stands in
    let one = c.in-Some-Submit.is in
    let two = c.in-Some-Submit.field-0-is in
    let three = c.next_inner.ensures [] stands in
    let may : Some (Submit c.in-Some-Submit.number) ≡ enabled (identity c.args.session) [] = cc in
    ([], stands, sym may)

pub enter-requires-clause-legal : goal.enter-requires-clause-legal
enter-requires-clause-legal g c =
    let stands = c.requires.session.stands in
    let number = c.in-Some-Submit.number in
    let one = c.in-Some-Submit.is in
    let two = c.in-Some-Submit.field-0-is in
    let three = c.next_inner.ensures [] stands in
    let may : Some (Submit c.in-Some-Submit.number) ≡ enabled (identity c.args.session) [] = cc in
    legal_now c.args.script.now (session_name c.args.n) (OfItself (Submit number)) c.in-Ok.outputs c.args.desk c.hold.new.self c.requires.desk c.hold.ensures.held
    c.hold.ensures.run c.told.ensures
    (submit_may c.args.script.now c.args.n number c.in-Ok.outputs c.args.session c.requires.small c.requires.low c.requires.high c.requires.session
    may (c.in-Ok.ensures.outputs [] stands))
