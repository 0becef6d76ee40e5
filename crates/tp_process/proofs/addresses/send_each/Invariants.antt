use Rattle.std.proofs.Common.{◌≡◌, ◌++◌, take}
use Rattle.tp_rules.specs.Addresses.{to_each}
use Rattle.tp_process.proofs.addresses.send_each.Given as goal

abbrev pub invariant-loop-name : goal.invariant-loop-name
invariant-loop-name l = l.outputs ≡ l.fn.outputs ++ to_each l.from (take l.name-index l.names) l.body
