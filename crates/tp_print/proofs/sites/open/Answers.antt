use Rattle.std.proofs.Common.{sym, ◌∙◌}
use Rattle.tp_print.proofs.Records.{site_opened}
use Rattle.tp_print.proofs.sites.open.Goals as goal

pub returns-in_ok-insert-clause-recorded : goal.returns-in_ok-insert-clause-recorded
returns-in_ok-insert-clause-recorded c = λ older.
    site_opened older c.args.sites.now c.insert.new.self c.args.site c.new.result
    (sym c.contains_key.ensures ∙ c.if-not-contains_key.true) c.new.ensures c.in_ok-insert.ensures.updates.0
