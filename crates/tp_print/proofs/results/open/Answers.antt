use Rattle.std.proofs.Common.{sym, ◌∙◌}
use Rattle.tp_print.proofs.FirstTold.{opened}
use Rattle.tp_print.proofs.results.open.Goals as goal

pub returns-in_ok-insert-clause-same : goal.returns-in_ok-insert-clause-same
returns-in_ok-insert-clause-same c =
    opened c.args.results.now c.insert.new.self c.args.id (sym c.contains_key.ensures ∙ c.if-not-contains_key.true)
    (λ other. rw (← c.new.ensures) (c.in_ok-insert.ensures.updates.0 other))
