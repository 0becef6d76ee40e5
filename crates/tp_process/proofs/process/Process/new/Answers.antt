use Rattle.std.proofs.Common.{sym, subst, arith}
use Rattle.tp_clock.specs.Clocks.{Promised}
use Rattle.tp_process.proofs.Learning.{starts}
use Rattle.tp_process.specs.State.{Agrees}
use Rattle.tp_rules.specs.Process.{start}
use Rattle.tp_process.proofs.process.Process.new.Goals as goal

pub returns-clause-stands : goal.returns-clause-stands
returns-clause-stands c =
    let place = c.new.result in
    subst (λ (clock : Promised). Agrees place.topology place.site clock.clock clock.told c.new-3.result c.new-4.result (start place.topology))
    (sym c.new-2.ensures)
    (starts place.topology place.site _ _ c.new-3.ensures (λ id. grind (arith, c.new-4.ensures.empty)))
