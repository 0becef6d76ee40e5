use Rattle.std.proofs.Common.{◌≡◌, ◌<◌, ◌-◌, suc, length, option_map, true, false, is_some, sym, ap, ◌∙◌, arith}
use Rattle.std.specs.Prelude.{slice_get}
use Rattle.tp_print.proofs.Placing.{put_again, put_at, put_first}
use Rattle.tp_print.proofs.commands.SessionCommands.put.Goals as goal

pub returns-then-is_some-clause-places : goal.returns-then-is_some-clause-places
returns-then-is_some-clause-places c = λ i.
    let place = c.args.command.now.id.number - 1 in
    let number : c.args.command.now.id.number ≡ suc place = omega arith in
    let within : place < length c.self.inside.commands.items = omega (arith, c.len.ensures) in
    let some : is_some c.index.result.now ≡ true = cc in
    ap (λ row. slice_get row i) (sym c.self.view_is)
    ∙ put_again c.self.inside.commands.items c.args.command.now place c.index.result.now number within c.index.ensures
    some i
    ∙ ap (λ row. option_map (put_at c.args.command.now i) (slice_get row i)) c.self.view_is

pub returns-clause-places : goal.returns-clause-places
returns-clause-places c = λ i.
    let place = c.args.command.now.id.number - 1 in
    let number : c.args.command.now.id.number ≡ suc place = omega arith in
    let within : place < length c.self.inside.commands.items = omega (arith, c.len.ensures) in
    let none : is_some c.index.result.now ≡ false = cc in
    put_first c.self.inside.commands.items c.args.command place c.index.result.now number within c.index.ensures none i
    ∙ ap (λ row. option_map (put_at c.args.command.now i) (slice_get row i)) c.self.view_is
