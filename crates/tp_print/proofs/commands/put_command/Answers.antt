use Rattle.std.proofs.Common.{◌≡◌, ◌<◌, ◌-◌, suc, length, refl, arith}
use Rattle.std.proofs.lemmas.Option.{slice_get_read}
use Rattle.tp_print.proofs.Placing.{place_nowhere, place_there}
use Rattle.tp_print.proofs.commands.put_command.Goals as goal

pub returns-then-session-eq0 : goal.returns-then-session-eq0
returns-then-session-eq0 c = λ sessions counted placed h.
    place_nowhere sessions counted placed c.args.table.now.items c.args.command.now h
    (λ i lt e. omega (arith, c.from-session.ensures))

pub returns-then-len-session : goal.returns-then-len-session
returns-then-len-session c = λ sessions counted placed h.
    place_nowhere sessions counted placed c.args.table.now.items c.args.command.now h
    (λ i lt e. omega (arith, c.from-session.ensures, c.len.ensures))

pub returns : goal.returns
returns c = λ sessions counted placed h.
    let at : c.args.command.now.id.session.0 ≡ suc (c.from-session.result - 1) =
    omega (arith, c.from-session.ensures) in
    let within : c.from-session.result - 1 < length c.args.table.now.items = omega (arith, c.len.ensures) in
    place_there sessions counted placed c.args.table.now.items c.args.command.now (c.from-session.result - 1)
    c.index_mut.result.now c.put.new.self at
    (slice_get_read c.args.table.now.items (length c.args.table.now.items) (c.from-session.result - 1)
    c.index_mut.result.now refl within c.index_mut.ensures.value)
    h c.put.ensures.count c.put.ensures.places
