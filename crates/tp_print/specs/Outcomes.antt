-- What is kept of a journal while it is gone over.
use Rattle.std.specs.Prelude.{◌≡◌, List}
use Rattle.tp_print.specs.Recorded.{AreRecorded}
use Rattle.tp_print.specs.Results.{AreFirst}
use Rattle.tp_print.specs.declared.outcome.Outcome.{Outcome}
use Rattle.tp_rules.specs.Outcome.{line}
use Rattle.tp_rules.specs.declared.event.Entry.{Entry}

-- it is that of a journal, the newest entry first
pub record IsOutcome (older : List Entry) (outcome : Outcome) : Type 0 where
  pub sites : AreRecorded older outcome.sites
  pub line : outcome.line.keys ≡ line older
  pub results : AreFirst older outcome.results
