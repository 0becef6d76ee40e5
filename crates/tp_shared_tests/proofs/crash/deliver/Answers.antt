use Rattle.std.proofs.Common.{◌≡◌, ◌∙◌, Option, None, Some, sym, ap}
use Rattle.tp_base.specs.declared.names.ActorName.{ActorName}
use Rattle.tp_shared.specs.Known.{Known, crash_in}
use Rattle.tp_shared_tests.proofs.Legal.{still_crashed}
use Rattle.tp_shared_tests.proofs.crash.deliver.Goals as goal

pub enter-requires-clause-legal : goal.enter-requires-clause-legal
enter-requires-clause-legal g c = λ none.
    let new : Known = c.hold.new.self in
    let found = still_crashed c.args.desk.seen new.seen c.requires.crashed c.hold.ensures.grows in
    let actor = ap (λ (k : Known). k.actor) c.hold.ensures.held ∙ c.requires.desk.0 in
    let wrong : None ≡ Some found.0 = sym none ∙ ap (λ (o : Option ActorName). crash_in o new.seen) actor ∙ found.1 in
    absurd cc
