use Rattle.std.proofs.Common.{◌≡◌, false, take}
use Rattle.tp_script.specs.Kinds.{is_there}
use Rattle.tp_script.proofs.names.find_id.Given as goal
use Rattle.tp_text.specs.Names.{id_at}

abbrev pub invariant-loop-command : goal.invariant-loop-command
invariant-loop-command l = is_there (take l.command-index l.commands) (id_at (l.session, l.number)) ≡ false
