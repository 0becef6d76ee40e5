use Rattle.std.proofs.Common.{sym, subst}
use Rattle.tp_clock.specs.Clocks.{Promised}
use Rattle.tp_process.proofs.Promising.{promised}
use Rattle.tp_process.specs.State.{Agrees}
use Rattle.tp_rules.specs.Process.{proposing}
use Rattle.tp_process.proofs.process.Process.promise.Goals as goal

pub returns-clause-state : goal.returns-clause-state
returns-clause-state c = λ s sheet before stands later low moved.
    let p = c.args.self.now in
    subst (λ (clock : Promised). Agrees p.place.topology p.place.site clock.clock clock.told c.add.new.self p.sheets (proposing c.args.id c.args.stamp.0 sheet s))
    (sym moved)
    (promised _ _ _ _ _ _ _ _ _ s sheet c.in_ok-add.ensures.added stands later low)
