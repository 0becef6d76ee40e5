use Rattle.std.proofs.Common.{List, sym, subst}
use Rattle.tp_rules.proofs.Journals.{run_none}
use Rattle.tp_rules.specs.Runs.{IsRun}
use Rattle.tp_rules.specs.declared.event.Entry.{Entry}
use Rattle.tp_shared_tests.proofs.turns.idle.Goals as goal

pub begin-requires : goal.begin-requires
begin-requires g c = record { run = subst (λ (l : List Entry). IsRun c.args.script.now l) (sym c.new.ensures) (run_none c.args.script.now) }
