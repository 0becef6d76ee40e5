use Rattle.std.proofs.Common.{◌≡◌, take}
use Rattle.tp_shared_tests.proofs.scripts.commands_of.Given as goal
use Rattle.tp_script.specs.Accepted.{commands_by}

abbrev pub invariant-loop-command : goal.invariant-loop-command
invariant-loop-command l = l.commands ≡ commands_by l.id.0 (take l.command-index l.command-items)
