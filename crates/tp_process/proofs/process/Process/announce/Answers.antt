use Rattle.std.proofs.Common.{◌∙◌, sym, subst}
use Rattle.tp_clock.specs.Clocks.{Promised}
use Rattle.tp_process.proofs.Promising.{told_all}
use Rattle.tp_process.specs.State.{Agrees, all_told}
use Rattle.tp_process.proofs.process.Process.announce.Goals as goal

pub returns-clause-state : goal.returns-clause-state
returns-clause-state c = λ s stands.
    let p = c.args.self.now in
    subst (λ (clock : Promised). Agrees p.place.topology p.place.site clock.clock clock.told c.replace-untold.new.dest p.sheets (all_told s))
    (sym c.tell-lo.ensures.told)
    (told_all _ _ _ _ _ _ _ s (c.replace-untold.ensures.after ∙ c.new.ensures) stands)
